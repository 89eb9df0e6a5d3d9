use Rattle.std.proofs.Common.{◌≡◌, length}
use Rattle.ut_options.specs.Given.{only_of}
use Rattle.ut_options.proofs.given.Options.only_of.Given as goal

abbrev pub invariant-loop-left : goal.invariant-loop-left
invariant-loop-left l = only_of l.letters l.initial.left ≡ only_of l.letters l.left

abbrev pub decreases-loop-left : goal.decreases-loop-left
decreases-loop-left l = length l.left
