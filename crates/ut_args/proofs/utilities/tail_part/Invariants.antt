use Rattle.std.proofs.Common.{◌≡◌, length}
use Rattle.ut_args.specs.Utilities.{tail_from}
use Rattle.ut_args.proofs.utilities.tail_part.Given as goal

abbrev pub invariant-loop-left : goal.invariant-loop-left
invariant-loop-left l = tail_from l.initial.part l.initial.left ≡ tail_from l.part l.left

abbrev pub decreases-loop-left : goal.decreases-loop-left
decreases-loop-left l = length l.left
