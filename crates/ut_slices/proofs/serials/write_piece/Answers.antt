use Rattle.std.proofs.Common.{◌++◌, drop, true}
use Rattle.ps_lines.specs.Lines.{lines}
use Rattle.ut_streams.proofs.StreamLemmas.{Wrote-trans}
use Rattle.ut_slices.specs.Inner.Serials.{row_left}
use Rattle.ut_slices.proofs.SerialLemmas.{next-line, next-stopped}
use Rattle.ut_slices.proofs.serials.write_piece.Goals as goal

pub loop-line-preserved : goal.loop-line-preserved
loop-line-preserved c =
    let all = drop 1 c.args.delimiters.now in
    let row = c.args.row.now in
    next-line (λ more. row_left all (drop row.delimiter c.args.delimiters.now) row.within (lines (c.args.piece.now ++ more)))
    (row_left all (drop c.loop-line.row.delimiter c.args.delimiters.now) c.loop-line.row.within)
    (row_left all (drop c.write_line.new.row.delimiter c.args.delimiters.now) c.write_line.new.row.within) c.loop-line.left.now c.in-Some.line.now c.in-Some.rest.now
    c.args.out.now.items c.loop-line.out.items c.write_line.new.out.items true c.in-Some.ensures.cut c.loop-line.invariant c.in-Ok.ensures

pub returns-in-Err : goal.returns-in-Err
returns-in-Err c =
    let all = drop 1 c.args.delimiters.now in
    let row = c.args.row.now in
    next-stopped (λ more. row_left all (drop row.delimiter c.args.delimiters.now) row.within (lines (c.args.piece.now ++ more))) _
    (row_left all (drop c.loop-line.row.delimiter c.args.delimiters.now) c.loop-line.row.within)
    (row_left all (drop c.write_line.new.row.delimiter c.args.delimiters.now) c.write_line.new.row.within) c.loop-line.left.now c.in-Some.line.now c.in-Some.rest.now
    c.args.out.now.items c.loop-line.out.items c.write_line.new.out.items c.in-Some.ensures.cut c.loop-line.invariant c.in-Err.ensures

pub returns : goal.returns
returns c =
    let all = drop 1 c.args.delimiters.now in
    let row = c.args.row.now in
    Wrote-trans (λ more. row_left all (drop row.delimiter c.args.delimiters.now) row.within (lines (c.args.piece.now ++ more)))
    (λ more. row_left all (drop c.loop-line.row.delimiter c.args.delimiters.now) c.loop-line.row.within (lines (c.loop-line.left.now ++ more)))
    (λ more. row_left all (drop c.write_front.new.row.delimiter c.args.delimiters.now) c.write_front.new.row.within (lines more))
    c.args.out.now.items c.loop-line.out.items c.write_front.new.out.items _ c.loop-line.invariant c.write_front.ensures
