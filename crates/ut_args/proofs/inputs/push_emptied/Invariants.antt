use Rattle.std.proofs.Common.{◌≡◌, ◌++◌, length}
use Rattle.ps_lines.specs.Texts.{texts_of}
use Rattle.ut_args.specs.Inputs.{emptied}
use Rattle.ut_args.proofs.inputs.push_emptied.Given as goal

abbrev pub invariant-loop-left : goal.invariant-loop-left
invariant-loop-left l = l.initial.texts ++ emptied l.initial.flags (texts_of l.initial.left) ≡ l.texts ++ emptied l.flags (texts_of l.left)

abbrev pub decreases-loop-left : goal.decreases-loop-left
decreases-loop-left l = length l.left
