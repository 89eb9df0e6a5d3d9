use Rattle.std.proofs.Common.{◌≡◌, ◌++◌, length, None}
use Rattle.std.specs.List.{filter}
use Rattle.ps_lines.specs.Texts.{texts_of}
use Rattle.ut_args.specs.Inputs.{is_named}
use Rattle.ut_slices.specs.Paste.{inputs_from}
use Rattle.ut_slices.specs.Inner.Columns.{AreUsed}
use Rattle.ut_slices.proofs.columns.columns_of.Given as goal

abbrev pub invariant-loop-left : goal.invariant-loop-left
invariant-loop-left l =
    (l.columns.inputs.items ++ inputs_from l.columns.next l.columns.standard (filter is_named (texts_of l.left)) ≡ inputs_from 0 None (filter is_named (texts_of l.operands)))
    × AreUsed l.columns

abbrev pub decreases-loop-left : goal.decreases-loop-left
decreases-loop-left l = length l.left
