use Rattle.std.proofs.Common.{◌++◌, drop, length, true}
use Rattle.ps_lines.specs.Lines.{lines}
use Rattle.ut_streams.specs.Streams.{Wrote}
use Rattle.ut_slices.specs.Inner.Serials.{row_left}
use Rattle.ut_slices.proofs.serials.write_piece.Given as goal

abbrev pub invariant-loop-line : goal.invariant-loop-line
invariant-loop-line l =
    Wrote (λ more. row_left (drop 1 l.delimiters) (drop l.initial.row.delimiter l.delimiters) l.initial.row.within (lines (l.initial.left ++ more)))
    (λ more. row_left (drop 1 l.delimiters) (drop l.row.delimiter l.delimiters) l.row.within (lines (l.left ++ more))) l.initial.out.items l.out.items true

abbrev pub decreases-loop-line : goal.decreases-loop-line
decreases-loop-line l = length l.left
