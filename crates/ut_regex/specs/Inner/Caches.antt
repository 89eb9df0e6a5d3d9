-- What a table that is filled is made for.
use Rattle.ut_regex.specs.declared.cache.Cache.{Cache}
use Rattle.ut_regex.specs.declared.machine.Machine.{Machine}
use Rattle.ut_regex.specs.Inner.Filled.{IsFilled}
use Rattle.ut_regex.specs.Inner.Tables.{states_of}

-- the table has what the machine does
abbrev pub Serves : Machine → Cache → Type 0
Serves machine cache = IsFilled machine.steps.items machine.fold machine.whole (states_of cache.rows.items) cache.next.items
