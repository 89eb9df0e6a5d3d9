use Rattle.std.proofs.Common.{◌≡◌, ◌++◌, length}
use Rattle.ps_lines.specs.Texts.{texts_of}
use Rattle.ut_args.specs.Utilities.{in_lines}
use Rattle.ut_args.proofs.utilities.in_lines.Given as goal

abbrev pub invariant-loop-left : goal.invariant-loop-left
invariant-loop-left l = in_lines (texts_of l.initial.left) ≡ l.lines ++ in_lines (texts_of l.left)

abbrev pub decreases-loop-left : goal.decreases-loop-left
decreases-loop-left l = length l.left
