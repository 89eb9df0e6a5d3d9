use Rattle.std.proofs.Common.{◌≡◌, length}
use Rattle.fl_graph.specs.Paths.{are_distinct}
use Rattle.sh_eval.proofs.utilities.are_distinct.Given as goal

abbrev pub invariant-loop-left : goal.invariant-loop-left
invariant-loop-left l = are_distinct l.left ≡ are_distinct l.initial.left

abbrev pub decreases-loop-left : goal.decreases-loop-left
decreases-loop-left l = length l.left
