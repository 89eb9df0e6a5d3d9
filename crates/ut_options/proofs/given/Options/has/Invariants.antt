use Rattle.std.proofs.Common.{◌≡◌, length}
use Rattle.ut_options.specs.Given.{has}
use Rattle.ut_options.proofs.given.Options.has.Given as goal

abbrev pub invariant-loop-left : goal.invariant-loop-left
invariant-loop-left l = has l.fn.letter l.initial.left ≡ has l.fn.letter l.left

abbrev pub decreases-loop-left : goal.decreases-loop-left
decreases-loop-left l = length l.left
