use Rattle.std.proofs.Common.{◌≡◌, length}
use Rattle.ps_lines.specs.Texts.{texts_of}
use Rattle.std.specs.List.{list_all}
use Rattle.ps_lines.specs.Lines.{is_empty}
use Rattle.ut_args.proofs.inputs.are_empty.Given as goal

abbrev pub invariant-loop-left : goal.invariant-loop-left
invariant-loop-left l = list_all is_empty (texts_of l.initial.left) ≡ list_all is_empty (texts_of l.left)

abbrev pub decreases-loop-left : goal.decreases-loop-left
decreases-loop-left l = length l.left
