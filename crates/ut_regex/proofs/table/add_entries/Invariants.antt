use Rattle.std.proofs.Common.{◌≡◌, ◌+◌, ◌*◌, ◌≤◌, length}
use Rattle.ut_regex.specs.Inner.Seeks.{Same}
use Rattle.ut_regex.specs.Inner.Reached.{AreReached}
use Rattle.ut_regex.specs.Inner.Tables.{states_of, Entered, Keeps}
use Rattle.ut_regex.proofs.table.add_entries.Given as goal

abbrev pub invariant-loop-code : goal.invariant-loop-code
invariant-loop-code l = record {
  entered : Entered l.fn.machine.steps.items l.fn.machine.fold l.fn.machine.whole (states_of l.fn.rows.items) l.fn.next.items
      → Entered l.fn.machine.steps.items l.fn.machine.fold l.fn.machine.whole (states_of l.rows.items) l.next.items;
  reached : AreReached l.fn.machine.steps.items l.fn.machine.fold l.fn.machine.whole (states_of l.fn.rows.items)
      → AreReached l.fn.machine.steps.items l.fn.machine.fold l.fn.machine.whole (states_of l.rows.items);
  keeps : Keeps (states_of l.fn.rows.items) (states_of l.rows.items);
  more : length l.rows.items ≤ length l.fn.rows.items + l.code;
  all : length l.next.items ≡ 256 * l.state + l.code;
  same : Same l.fn.machine l.machine;
}
