-- What expansion means, told by laws.
use Rattle.std.specs.Prelude.{ℕ, List, [], ◌∷◌, ◌++◌}
use Rattle.sh_expand.specs.declared.marks.Marked.{Marked}
use Rattle.sh_expand.specs.Marks.{bare}

-- the bytes of fields, one after another
abbrev pub bytes_of_fields : List (List Marked) → List ℕ
bytes_of_fields [] = []
bytes_of_fields (field ∷ fields) = bare field ++ bytes_of_fields fields

-- these bytes stand among those, in their order
pub data IsPartOf : List ℕ → List ℕ → Type 0 where
  nothing : IsPartOf [] []
  kept : {byte : ℕ} {part whole : List ℕ} → IsPartOf part whole → IsPartOf (byte ∷ part) (byte ∷ whole)
  left_out : {byte : ℕ} {part whole : List ℕ} → IsPartOf part whole → IsPartOf part (byte ∷ whole)
