-- The bytes that separate fields (XCU 2.5.3, 2.6.5), for field splitting and for `read`.
use Rattle.std.specs.Prelude.{ℕ, codes, List, [], ◌∷◌}
use Rattle.std.specs.Option.{unwrap_or}
use Rattle.std.specs.FinMap as map
use Rattle.sh_arith.specs.Variables.{Variables}

-- where IFS is unset: space, tab and newline
abbrev pub default_ifs : List ℕ
default_ifs = 32 ∷ 9 ∷ 10 ∷ []

-- the bytes of IFS, or their default
abbrev pub ifs_of : Variables → List ℕ
ifs_of variables = unwrap_or (map.get variables (codes "IFS")) default_ifs
