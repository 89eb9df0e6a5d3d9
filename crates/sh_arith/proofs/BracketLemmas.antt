-- The brackets that are open: the code keeps the innermost last, the definition first.
use Rattle.std.proofs.Common.{◌≡◌, List, [], ◌∷◌, ◌++◌, reverse}
use Rattle.std.proofs.lemmas.List.{reverse-append}
use Rattle.sh_arith.specs.declared.syntax.Bracket.{Bracket}

-- the last of the code's is the first of the definition's
pub top_first : (brackets : List Bracket) (bracket : Bracket) → reverse (brackets ++ bracket ∷ []) ≡ bracket ∷ reverse brackets
top_first brackets bracket = reverse-append brackets (bracket ∷ [])
