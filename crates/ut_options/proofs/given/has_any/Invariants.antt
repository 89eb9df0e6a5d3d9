use Rattle.std.proofs.Common.{◌≡◌, length}
use Rattle.ut_options.specs.Given.{has_any}
use Rattle.ut_options.proofs.given.has_any.Given as goal

abbrev pub invariant-loop-left : goal.invariant-loop-left
invariant-loop-left l = has_any l.letters l.initial.left ≡ has_any l.letters l.left

abbrev pub decreases-loop-left : goal.decreases-loop-left
decreases-loop-left l = length l.left
