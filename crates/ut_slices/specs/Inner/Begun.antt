-- Fields that are written one run after another.
use Rattle.std.specs.Prelude.{ℕ, List, [], ◌∷◌, ◌++◌, Bool, true, if◌then◌else◌}

-- a delimiter stands before a text where a field was written before
abbrev pub behind_fields : Bool → ℕ → List ℕ → List ℕ
behind_fields begun delimiter text = if begun then delimiter ∷ text else text

-- fields that are joined, behind others or not
abbrev pub joined_behind : Bool → ℕ → List (List ℕ) → List ℕ
joined_behind begun delimiter [] = []
joined_behind begun delimiter (field ∷ others) = behind_fields begun delimiter field ++ joined_behind true delimiter others
