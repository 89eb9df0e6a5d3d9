use Rattle.std.proofs.Common.{true}
use Rattle.ut_groups.proofs.SeriesLemmas.{wc-fed}
use Rattle.ut_groups.proofs.wc.WcSeriesSeries.feed.Goals as goal

pub returns-clause-wrote : goal.returns-clause-wrote
returns-clause-wrote c =
    let series = c.args.self.now in
    wc-fed series.columns series.has_total series.sums series.counts c.count_piece.new.counts series.before c.count_piece.new.before series.labels c.args.piece.now
    c.args.out.now.items true c.count_piece.ensures
