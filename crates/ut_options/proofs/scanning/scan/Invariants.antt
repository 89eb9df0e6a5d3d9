use Rattle.std.proofs.Common.{◌≡◌, length}
use Rattle.ps_lines.specs.Texts.{texts_of}
use Rattle.ut_options.specs.Rows.{row_of}
use Rattle.ut_options.specs.Scanning.{behind, scanned_from}
use Rattle.ut_options.proofs.scanning.scan.Given as goal

abbrev pub invariant-loop-left : goal.invariant-loop-left
invariant-loop-left l =
    scanned_from (row_of l.letters) l.initial.waiting (texts_of l.initial.left)
    ≡ behind l.options (scanned_from (row_of l.letters) l.waiting (texts_of l.left))

abbrev pub decreases-loop-left : goal.decreases-loop-left
decreases-loop-left l = length l.left
