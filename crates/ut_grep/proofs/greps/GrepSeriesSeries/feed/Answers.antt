use Rattle.std.proofs.Common.{◌++◌}
use Rattle.ps_lines.specs.Lines.{lines}
use Rattle.ut_regex.specs.Answers.{answers}
use Rattle.ut_grep.specs.Output.{picked_by}
use Rattle.ut_grep.specs.Tallies.{due_of}
use Rattle.ut_grep.proofs.SeriesLemmas.{piece-fed}
use Rattle.ut_grep.proofs.greps.GrepSeriesSeries.feed.Goals as goal

pub returns-clause-wrote : goal.returns-clause-wrote
returns-clause-wrote c =
    let series = c.args.self.now in
    let was = series.lines in
    let now = c.take_piece-fed.new.self in
    let test = picked_by was.each.inverts (answers was.each.matcher) in
    let test' = picked_by now.each.inverts (answers now.each.matcher) in
    piece-fed (λ text. due_of was.each.tally test (lines (was.held.items ++ text))) (λ text. due_of now.each.tally test' (lines (now.held.items ++ text))) series.report
    series.alone series.first test test' series.labels c.take_piece-fed.ensures.tested c.args.piece.now c.args.out.now.items c.take_piece-fed.new.out.items _
    c.take_piece-fed.ensures.wrote
