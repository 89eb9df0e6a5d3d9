-- What the parts of a matcher are made for.
use Rattle.std.specs.Prelude.{Bool, Option, IfSome}
use Rattle.ut_regex.specs.declared.machine.Machine.{Machine}
use Rattle.ut_regex.specs.declared.search.Search.{Search}
use Rattle.ut_regex.specs.declared.table.Table.{Table}
use Rattle.ut_regex.specs.Tree.{Tree}
use Rattle.ut_regex.specs.Inner.Made.{IsMade}
use Rattle.ut_regex.specs.Inner.Searches.{Looks}
use Rattle.ut_regex.specs.Inner.Seeks.{Seeks}

-- a machine, its table and a search for a literal find one expression
pub record IsFinder (machine : Machine) (table : Option Table) (literal : Option Search) : Type 0 where
  pub fold : Bool
  pub whole : Bool
  pub re : Tree
  pub seeks : Seeks machine fold whole re
  pub made : IfSome table (λ table. IsMade machine.steps.items machine.fold machine.whole table)
  pub looks : IfSome literal (λ search. Looks search fold re)
