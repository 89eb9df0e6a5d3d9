use Rattle.std.proofs.Common.{◌≡◌, ◌≤◌, vec_len, vec_capacity}
use Rattle.fl_threads.proofs.rooms.make_lines.Given as goal

abbrev pub invariant-loop : goal.invariant-loop
invariant-loop l = (vec_len l.lines ≡ l.counter) × (l.count ≤ vec_capacity l.lines)
