-- The open constructs, from the innermost.
use Rattle.std.proofs.Common.{◌≡◌, List, [], ◌∷◌, ◌++◌, refl, ap}
use Rattle.sh_parse.specs.Inner.Building as b
use Rattle.sh_parse.specs.Inner.Built.{level_of, levels_of}
use Rattle.sh_parse.specs.declared.levels.Level.{Level}

pub levels_last : (front : List Level) (last : Level) → levels_of (front ++ last ∷ []) ≡ level_of last ∷ levels_of front
levels_last [] last = refl
levels_last (first ∷ rest) last = ap (λ x. x ++ level_of first ∷ []) (levels_last rest last)

-- what is around the innermost is closed on
pub closed_on : (inner around : b.Level) (outer rest : List b.Level) → outer ≡ around ∷ rest
    → b.closed (b.innermost inner outer) ≡ b.closed (b.innermost inner (around ∷ rest))
closed_on inner around outer rest e = ap (λ x. b.closed (b.innermost inner x)) e

pub sub_closed_on : (inner around : b.Level) (outer rest : List b.Level) → outer ≡ around ∷ rest
    → b.sub_closed (b.innermost inner outer) ≡ b.sub_closed (b.innermost inner (around ∷ rest))
sub_closed_on inner around outer rest e = ap (λ x. b.sub_closed (b.innermost inner x)) e
