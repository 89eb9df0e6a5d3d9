use Rattle.std.proofs.Common.{◌≡◌, length}
use Rattle.ps_fakes.specs.Standing.{stand_together}
use Rattle.ps_fakes.proofs.standing.stand_together.Given as goal

abbrev pub invariant-loop-left : goal.invariant-loop-left
invariant-loop-left l = stand_together l.initial.left ≡ stand_together l.left

abbrev pub decreases-loop-left : goal.decreases-loop-left
decreases-loop-left l = length l.left
