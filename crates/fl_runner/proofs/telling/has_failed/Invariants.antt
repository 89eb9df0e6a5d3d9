use Rattle.std.proofs.Common.{◌≡◌, ◌<◌, ℕ, false, is_some, slice_get, Some}
use Rattle.fl_runner.proofs.telling.has_failed.Given as goal

abbrev pub invariant-loop-node : goal.invariant-loop-node
invariant-loop-node g l = (node : ℕ) (done : _) → node < l.node → slice_get l.nodes node ≡ Some done → is_some done.failure ≡ false
