use Rattle.std.proofs.Common.{◌≡◌, length}
use Rattle.ps_lines.specs.Texts.{texts_of}
use Rattle.ut_args.specs.Shell.{set_fault}
use Rattle.ut_args.proofs.shell.set_fault.Given as goal

abbrev pub invariant-loop-left : goal.invariant-loop-left
invariant-loop-left l = set_fault (texts_of l.initial.left) ≡ set_fault (texts_of l.left)

abbrev pub decreases-loop-left : goal.decreases-loop-left
decreases-loop-left l = length l.left
