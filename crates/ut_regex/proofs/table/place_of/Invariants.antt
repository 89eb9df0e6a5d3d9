use Rattle.std.proofs.Common.{◌≡◌, ◌<◌, ℕ}
use Rattle.ut_regex.specs.Inner.Tables.{state_of, states_of, state_at}
use Rattle.ut_regex.proofs.table.place_of.Given as goal

abbrev pub invariant-loop-place : goal.invariant-loop-place
invariant-loop-place l = (place : ℕ) → place < l.place → state_at (states_of l.rows) place ≡ state_of l.row → ⊥
