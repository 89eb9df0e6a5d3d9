use Rattle.std.proofs.Common.{◌≡◌, length}
use Rattle.ut_options.specs.Given.{last_byte}
use Rattle.ut_options.proofs.given.Options.byte.Given as goal

abbrev pub invariant-loop-left : goal.invariant-loop-left
invariant-loop-left l = last_byte l.fn.letter l.initial.byte l.initial.left ≡ last_byte l.fn.letter l.byte l.left

abbrev pub decreases-loop-left : goal.decreases-loop-left
decreases-loop-left l = length l.left
