use Rattle.std.proofs.Common.{◌++◌, ◌||◌, false}
use Rattle.ut_groups.specs.Inner.Columns.{column}
use Rattle.ut_streams.proofs.StreamLemmas.{Put-after}
use Rattle.ut_groups.proofs.columns.put_columns.Goals as goal

pub returns-in-Ok-put_column : goal.returns-in-Ok-put_column
returns-in-Ok-put_column c =
    let columns = c.args.columns in
    let counts = c.args.counts in
    let first = column false columns.lines counts.lines in
    let second = column columns.lines columns.words counts.words in
    let third = column (columns.lines || columns.words) columns.bytes counts.bytes in
    Put-after first (second ++ third) c.args.out.now.items c.put_column.new.out.items c.put_column-in-Ok-put_column.new.out.items _ c.in-Ok.ensures
    (Put-after second third c.put_column.new.out.items c.put_column-2.new.out.items c.put_column-in-Ok-put_column.new.out.items _ c.in-Ok-put_column.ensures c.put_column-in-Ok-put_column.ensures)
