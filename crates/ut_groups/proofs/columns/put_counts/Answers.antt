use Rattle.std.proofs.Common.{[], ◌∷◌, ◌++◌}
use Rattle.ut_groups.specs.Columns.{behind_space}
use Rattle.ut_groups.specs.Inner.Columns.{counts_text}
use Rattle.ut_streams.proofs.StreamLemmas.{Put-broken}
use Rattle.ut_groups.proofs.ColumnLemmas.{joined-counts}
use Rattle.ut_groups.proofs.columns.put_counts.Goals as goal

pub returns-in-Err : goal.returns-in-Err
returns-in-Err c =
    rw (← joined-counts c.args.columns c.args.counts)
    (Put-broken (counts_text c.args.columns c.args.counts) (behind_space c.args.name.now ++ 10 ∷ []) c.args.out.now.items c.put_columns.new.out.items c.in-Err.ensures)
