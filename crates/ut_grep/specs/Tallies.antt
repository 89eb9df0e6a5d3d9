-- What is still to be written of the lines of an input, and what will have been selected, behind those that were taken.
use Rattle.std.specs.Prelude.{ℕ, List, Bool, ◌||◌}
use Rattle.std.specs.List.{list_any}
use Rattle.ut_grep.specs.Output.{due_by}
use Rattle.ut_grep.specs.declared.tally.Tally.{Tally}

abbrev pub due_of : Tally → (List ℕ → Bool) → List (List ℕ) → List ℕ
due_of tally test texts = due_by tally.report test tally.head.items tally.number tally.count tally.selected texts

abbrev pub selects_of : Tally → (List ℕ → Bool) → List (List ℕ) → Bool
selects_of tally test texts = tally.selected || list_any test texts
