use Rattle.std.proofs.Common.{◌≡◌, length}
use Rattle.ps_lines.specs.Texts.{texts_of}
use Rattle.ut_grep.specs.Faults.{first_faulty}
use Rattle.ut_grep.proofs.patterns.faulty_among.Given as goal

abbrev pub invariant-loop-left : goal.invariant-loop-left
invariant-loop-left l = first_faulty l.form (texts_of l.initial.left) ≡ first_faulty l.form (texts_of l.left)

abbrev pub decreases-loop-left : goal.decreases-loop-left
decreases-loop-left l = length l.left
