-- How much of a word the code reads to tell what it is.
use Rattle.std.specs.Prelude.{ℕ, List, [], ◌∷◌, take, if◌then◌else◌}
use Rattle.ps_lines.specs.Bytes.{is_name_byte}

-- the bytes up to the first that no name has, with that one, and one more behind it
abbrev pub deciding : List ℕ → List ℕ
deciding [] = []
deciding (byte ∷ rest) = byte ∷ (if is_name_byte byte then deciding rest else take 1 rest)
