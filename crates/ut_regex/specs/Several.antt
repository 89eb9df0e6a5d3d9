-- Several expressions, and expressions of bytes as they stand (XCU grep, -e and -F).
use Rattle.std.specs.Prelude.{ℕ, List, [], ◌∷◌, map}
use Rattle.ut_regex.specs.declared.tree.Leaf.TheVariants.{Byte, Any}
use Rattle.ut_regex.specs.declared.tree.Regex.{Regex}
use Rattle.ut_regex.specs.Tree.{Tree, leaf, line_end, empty, sequence, alternative, tree}

-- an expression, or one of others
abbrev pub or_any : Tree → List Tree → Tree
or_any re [] = re
or_any re (other ∷ others) = or_any (alternative re other) others

-- one of the expressions. Where there is none, a byte behind the line's end, which no line has
abbrev pub any_of : List Tree → Tree
any_of [] = sequence line_end (leaf Any)
any_of (re ∷ others) = or_any re others

-- an expression and these bytes behind it
abbrev pub then_bytes : Tree → List ℕ → Tree
then_bytes re [] = re
then_bytes re (byte ∷ bytes) = then_bytes (sequence re (leaf (Byte byte))) bytes

-- bytes in order, each as it stands
abbrev pub in_order : List ℕ → Tree
in_order bytes = then_bytes empty bytes

-- the trees of expressions
abbrev pub trees_of : List Regex → List Tree
trees_of expressions = map (λ re. tree re) expressions
