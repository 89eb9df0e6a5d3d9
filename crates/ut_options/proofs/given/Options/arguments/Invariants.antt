use Rattle.std.proofs.Common.{◌≡◌, ◌++◌, length}
use Rattle.ut_options.specs.Given.{arguments}
use Rattle.ut_options.proofs.given.Options.arguments.Given as goal

abbrev pub invariant-loop-left : goal.invariant-loop-left
invariant-loop-left l = arguments l.fn.letter l.initial.left ≡ l.texts ++ arguments l.fn.letter l.left

abbrev pub decreases-loop-left : goal.decreases-loop-left
decreases-loop-left l = length l.left
