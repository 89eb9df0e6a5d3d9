use Rattle.std.proofs.Common.{◌≡◌, ◌-◌, ◌*◌, ◌<◌, ◌≤◌, ℕ, false, true, length, slice_index_or}
use Rattle.ut_regex.specs.Inner.Seeks.{Same}
use Rattle.ut_regex.specs.Inner.Reached.{AreReached}
use Rattle.ut_regex.specs.Inner.Tables.{states_of, state_at, first_state, leads_at, Entered}
use Rattle.ut_regex.proofs.table.Table.of.Given as goal

abbrev pub invariant-states : goal.invariant-states
invariant-states l = record {
  same : Same l.fn.machine l.machine;
  some : 0 < length l.rows.items;
  first : state_at (states_of l.rows.items) 0 ≡ first_state;
  quiet : l.fn.machine.whole ≡ false → leads_at l.fn.machine.steps.items l.fn.machine.whole false first_state ≡ false;
  reached : AreReached l.fn.machine.steps.items l.fn.machine.fold l.fn.machine.whole (states_of l.rows.items);
  within : l.state ≤ length l.rows.items;
  few : length l.rows.items ≤ 512;
  so_far : length l.next.items ≡ 256 * l.state;
  entries : Entered l.fn.machine.steps.items l.fn.machine.fold l.fn.machine.whole (states_of l.rows.items) l.next.items;
  ended : length l.ends.items ≡ l.state;
  last : (state : ℕ) → state < l.state
      → slice_index_or l.ends.items state true ≡ leads_at l.fn.machine.steps.items l.fn.machine.whole true (state_at (states_of l.rows.items) state);
}

abbrev pub decreases-states : goal.decreases-states
decreases-states l = 600 - l.state
