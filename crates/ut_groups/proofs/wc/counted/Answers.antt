use Rattle.ut_groups.proofs.ColumnLemmas.{counted-piece}
use Rattle.ut_groups.proofs.wc.counted.Goals as goal

pub returns : goal.returns
returns c =
    λ more. counted-piece c.args.columns c.args.counts (record { lines = c.lines_with.result; words = c.words_with.result; bytes = c.add_sat.result }) c.args.before
    c.args.piece.now more c.lines_with.ensures c.words_with.ensures c.add_sat.ensures
