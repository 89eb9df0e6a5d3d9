use Rattle.std.proofs.Common.{◌≡◌, length}
use Rattle.ps_lines.specs.Texts.{texts_of}
use Rattle.std.specs.List.{list_all}
use Rattle.ut_args.specs.Shell.{is_name}
use Rattle.ut_args.proofs.shell.all_names.Given as goal

abbrev pub invariant-loop-left : goal.invariant-loop-left
invariant-loop-left l = list_all is_name (texts_of l.initial.left) ≡ list_all is_name (texts_of l.left)

abbrev pub decreases-loop-left : goal.decreases-loop-left
decreases-loop-left l = length l.left
