use Rattle.std.proofs.Common.{◌≡◌, ◌++◌, length}
use Rattle.fl_graph.specs.Paths.{paths_written}
use Rattle.fl_commands.proofs.writers.paths_written.Given as goal

abbrev pub invariant-loop-left : goal.invariant-loop-left
invariant-loop-left l = paths_written l.nodes ≡ l.paths.items ++ paths_written l.left

abbrev pub decreases-loop-left : goal.decreases-loop-left
decreases-loop-left l = length l.left
