-- The table of a program.
use Rattle.std.specs.Prelude.{Bool, List}
use Rattle.ut_regex.specs.declared.program.Op.{Op}
use Rattle.ut_regex.specs.declared.table.Table.{Table}
use Rattle.ut_regex.specs.Inner.Tables.{State, IsTable}

-- a table is that of a program
abbrev pub IsMade : List Op → Bool → Bool → Table → Type 0
IsMade ops fold whole table = (states : List State) × IsTable ops fold whole states table.next.items table.ends.items
