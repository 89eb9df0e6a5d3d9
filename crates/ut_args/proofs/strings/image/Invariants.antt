use Rattle.std.proofs.Common.{◌≡◌, length}
use Rattle.ut_args.specs.Strings.{image}
use Rattle.ut_args.proofs.strings.image.Given as goal

abbrev pub invariant-loop-left : goal.invariant-loop-left
invariant-loop-left l = image l.byte l.initial.current l.initial.last l.initial.left l.initial.others ≡ image l.byte l.current l.last l.left l.others

abbrev pub decreases-loop-left : goal.decreases-loop-left
decreases-loop-left l = length l.left
