use Rattle.std.proofs.Common.{◌≡◌, ◌<◌, ◌≤◌, length}
use Rattle.ut_regex.specs.Inner.Tables.{state_at, states_of}
use Rattle.ut_regex.proofs.cache.keep_first.Given as goal

abbrev pub invariant-loop-rows : goal.invariant-loop-rows
invariant-loop-rows l = record {
  some : 0 < length l.rows.items;
  fewer : length l.rows.items ≤ length l.initial.rows.items;
  first : state_at (states_of l.rows.items) 0 ≡ state_at (states_of l.initial.rows.items) 0;
}

abbrev pub decreases-loop-rows : goal.decreases-loop-rows
decreases-loop-rows l = length l.rows.items
