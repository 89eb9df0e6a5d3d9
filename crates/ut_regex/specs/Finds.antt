-- What a matcher is made for: `compile` says it of the one that it gives, and `has` wants it. How the parts of one fit is in `Inner`.
use Rattle.std.specs.Prelude.{◌≡◌, Bool, IfSome}
use Rattle.ut_regex.specs.declared.finder.Matcher.{Matcher}
use Rattle.ut_regex.specs.Tree.{Tree}
use Rattle.ut_regex.specs.Inner.Searches.{Looks}
use Rattle.ut_regex.specs.Inner.Seeks.{Seeks, Same}
use Rattle.ut_regex.specs.Inner.Made.{IsMade}

-- the matcher finds the expression; with `fold` in both cases of letters, with `whole` as the whole line
pub record Finds (matcher : Matcher) (fold whole : Bool) (re : Tree) : Type 0 where
  pub seeks : Seeks matcher.machine fold whole re
  pub table : IfSome matcher.table (λ table. IsMade matcher.machine.steps.items matcher.machine.fold matcher.machine.whole table)
  pub literal : IfSome matcher.literal (λ search. Looks search fold re)

-- a matcher finds what it found
pub record Stays (old new : Matcher) : Type 0 where
  pub machine : Same old.machine new.machine
  pub table : new.table ≡ old.table
  pub literal : new.literal ≡ old.literal
