use Rattle.std.proofs.Common.{true}
use Rattle.ut_groups.proofs.ColumnLemmas.{Wrote-counted}
use Rattle.ut_groups.proofs.wc.WcStream.feed.Goals as goal

pub returns-clause-wrote : goal.returns-clause-wrote
returns-clause-wrote c =
    let wc = c.args.self.now in
    Wrote-counted wc.columns wc.counts c.count_piece.new.counts wc.before c.count_piece.new.before c.args.piece.now c.args.out.now.items true c.count_piece.ensures
