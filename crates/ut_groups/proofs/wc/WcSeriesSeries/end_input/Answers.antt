use Rattle.std.proofs.Common.{rules}
use Rattle.std.specs.Result.{is_ok}
use Rattle.ut_groups.proofs.SeriesLemmas.{wc-ended_by}
use Rattle.ut_groups.proofs.wc.WcSeriesSeries.end_input.Goals as goal

pub returns-clause-wrote : goal.returns-clause-wrote
returns-clause-wrote c =
    let series = c.args.self.now in
    wc-ended_by series.columns series.has_total series.sums series.counts c.add_counts-self.result c.default-self.result series.before c.first.result.now series.labels c.pass.new.self
    c.args.out.now.items c.put_counts-ended.new.out.items (is_ok c.put_counts-ended.result) c.first.ensures c.add_counts-self.ensures (search rules) c.pass.ensures
    c.put_counts-ended.ensures
