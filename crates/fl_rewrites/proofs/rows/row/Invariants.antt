use Rattle.std.proofs.Common.{◌≡◌, ◌+◌, ◌-◌, ◌≤◌, ◌++◌}
use Rattle.std.specs.List.{range_with_len}
use Rattle.fl_rewrites.proofs.rows.row.Given as goal

abbrev pub invariant-loop-number : goal.invariant-loop-number
invariant-loop-number l = (l.number ≤ l.from + l.count) × (l.row.items ++ range_with_len l.number (l.from + l.count - l.number) ≡ range_with_len l.from l.count)
