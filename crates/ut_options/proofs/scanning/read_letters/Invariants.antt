use Rattle.std.proofs.Common.{◌≡◌, ◌++◌, length}
use Rattle.ut_options.specs.Rows.{row_of}
use Rattle.ut_options.specs.Scanning.{letters_given, letters_step}
use Rattle.ut_options.proofs.scanning.read_letters.Given as goal

abbrev pub invariant-loop-left : goal.invariant-loop-left
invariant-loop-left l = record {
  step : letters_step (row_of l.letters) l.initial.left ≡ letters_step (row_of l.letters) l.left;
  given : l.initial.options ++ letters_given (row_of l.letters) l.initial.left ≡ l.options ++ letters_given (row_of l.letters) l.left;
}

abbrev pub decreases-loop-left : goal.decreases-loop-left
decreases-loop-left l = length l.left
