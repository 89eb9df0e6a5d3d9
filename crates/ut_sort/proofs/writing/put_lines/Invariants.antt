use Rattle.std.proofs.Common.{take, true}
use Rattle.ps_lines.specs.Lines.{text_of_lines}
use Rattle.ut_streams.specs.Streams.{Put}
use Rattle.ut_sort.specs.Places.{lines_in}
use Rattle.ut_sort.proofs.writing.put_lines.Given as goal

abbrev pub invariant-loop-place : goal.invariant-loop-place
invariant-loop-place l = Put (text_of_lines (lines_in l.text (take l.place-index l.places))) l.initial.out.items l.out.items true
