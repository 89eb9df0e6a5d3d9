use Rattle.std.proofs.Common.{◌≡◌, length}
use Rattle.ut_options.specs.Given.{last_number}
use Rattle.ut_options.proofs.given.Options.number.Given as goal

abbrev pub invariant-loop-left : goal.invariant-loop-left
invariant-loop-left l = last_number l.fn.letter l.initial.number l.initial.left ≡ last_number l.fn.letter l.number l.left

abbrev pub decreases-loop-left : goal.decreases-loop-left
decreases-loop-left l = length l.left
