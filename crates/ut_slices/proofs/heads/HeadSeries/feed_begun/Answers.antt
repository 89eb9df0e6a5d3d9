use Rattle.std.proofs.Common.{rules}
use Rattle.ut_slices.proofs.HeadLemmas.{heads-fed_by}
use Rattle.ut_slices.proofs.heads.HeadSeries.feed_begun.Goals as goal

pub returns-in-Ok : goal.returns-in-Ok
returns-in-Ok c = λ others.
    let series = c.args.self.now in
    heads-fed_by series.has_headers series.is_first series.begun series.count series.left series.labels c.first-label.result.now c.first-label.ensures c.begin.new.begun
    c.put_first_lines.new.left c.args.piece.now others c.args.out.now.items c.begin.new.out.items c.put_first_lines.new.out.items _ c.in-Ok.ensures.begun c.in-Ok.ensures.wrote
    c.put_first_lines.ensures
