use Rattle.std.proofs.Common.{◌≡◌, ◌<◌, ℕ, false, slice_get, Some}
use Rattle.fl_nodes.specs.Work.{is_fault}
use Rattle.fl_runner.proofs.telling.first_fault.Given as goal

abbrev pub invariant-loop-node : goal.invariant-loop-node
invariant-loop-node g l = (node : ℕ) (done : _) → node < l.node → slice_get l.nodes node ≡ Some done → is_fault done.failure ≡ false
