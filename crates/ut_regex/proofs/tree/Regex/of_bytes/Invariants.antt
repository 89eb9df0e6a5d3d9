use Rattle.std.proofs.Common.{◌≡◌, [], ◌∷◌, length}
use Rattle.ut_regex.specs.Several.{in_order, then_bytes}
use Rattle.ut_regex.specs.Tree.{Tree, with_nodes}
use Rattle.ut_regex.proofs.tree.Regex.of_bytes.Given as goal

abbrev pub invariant-loop-left : goal.invariant-loop-left
invariant-loop-left l = (re : Tree) × (with_nodes [] l.nodes.items ≡ re ∷ []) × (then_bytes re l.left ≡ in_order l.bytes)

abbrev pub decreases-loop-left : goal.decreases-loop-left
decreases-loop-left l = length l.left
