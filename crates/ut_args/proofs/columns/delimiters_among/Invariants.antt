use Rattle.std.proofs.Common.{◌≡◌, length, codes}
use Rattle.ut_options.specs.Given.{last_by}
use Rattle.ut_args.specs.Lists.{delimiters_of}
use Rattle.ut_args.specs.Utilities.{letter}
use Rattle.ut_args.proofs.columns.delimiters_among.Given as goal

abbrev pub invariant-loop-left : goal.invariant-loop-left
invariant-loop-left l = last_by delimiters_of (letter (codes "d")) l.initial.delimiters l.initial.left ≡ last_by delimiters_of (letter (codes "d")) l.delimiters l.left

abbrev pub decreases-loop-left : goal.decreases-loop-left
decreases-loop-left l = length l.left
