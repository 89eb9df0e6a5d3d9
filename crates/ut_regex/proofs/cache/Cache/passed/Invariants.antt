use Rattle.std.proofs.Common.{ℕ, ◌+◌, ◌<◌, drop, length}
use Rattle.ut_regex.specs.Inner.Caches.{Serves}
use Rattle.ut_regex.specs.Inner.Filled.{IsQuiet}
use Rattle.ut_regex.specs.Inner.Seeks.{Same}
use Rattle.ut_regex.specs.Inner.Tables.{first_state, state_at, states_of}
use Rattle.ut_regex.proofs.cache.Cache.passed.Given as goal

abbrev pub invariant-loop-place : goal.invariant-loop-place
invariant-loop-place l = record {
  known : l.state < length l.self.rows.items;
  serves : Serves l.machine l.self;
  same : Same l.fn.machine l.machine;
  quiet : (count : ℕ) → IsQuiet l.machine.steps.items l.machine.fold l.machine.whole (state_at (states_of l.self.rows.items) l.state) (drop l.place l.text) count
      → IsQuiet l.fn.machine.steps.items l.fn.machine.fold l.fn.machine.whole first_state l.text (l.place + count);
}
