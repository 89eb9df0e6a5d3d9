use Rattle.std.proofs.Common.{length}
use Rattle.fl_net.proofs.LoadLemmas.{AreFront}
use Rattle.fl_net.proofs.inputs.fill.Given as goal

abbrev pub invariant-loop-left : goal.invariant-loop-left
invariant-loop-left l = AreFront l.wire l.left l.text

abbrev pub decreases-loop-left : goal.decreases-loop-left
decreases-loop-left l = length l.left
