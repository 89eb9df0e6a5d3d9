use Rattle.std.proofs.Common.{◌≡◌, length}
use Rattle.ps_lines.specs.Texts.{texts_of}
use Rattle.std.specs.List.{list_any}
use Rattle.ut_args.specs.Inputs.{is_standard}
use Rattle.ut_args.proofs.inputs.has_standard.Given as goal

abbrev pub invariant-loop-left : goal.invariant-loop-left
invariant-loop-left l = list_any is_standard (texts_of l.initial.left) ≡ list_any is_standard (texts_of l.left)

abbrev pub decreases-loop-left : goal.decreases-loop-left
decreases-loop-left l = length l.left
