use Rattle.std.proofs.Common.{◌≡◌, length}
use Rattle.ps_fakes.specs.Reads.{reads_at}
use Rattle.ps_fakes.proofs.reads.reads_at.Given as goal

abbrev pub invariant-loop-left : goal.invariant-loop-left
invariant-loop-left l = reads_at l.initial.left l.path ≡ reads_at l.left l.path

abbrev pub decreases-loop-left : goal.decreases-loop-left
decreases-loop-left l = length l.left
