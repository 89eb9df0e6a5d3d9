use Rattle.std.proofs.Common.{◌≡◌, ◌≤◌, ◌+◌, ◌++◌, reverse, vec_len, vec_capacity}
use Rattle.fl_runner.specs.Lent.{lent_of}
use Rattle.fl_runner.proofs.lending.lend_each.Given as goal

abbrev pub invariant-loop-number : goal.invariant-loop-number
invariant-loop-number g l = record {
  moved : l.lent.items ++ lent_of (reverse l.ends.items) ≡ lent_of l.fn.ends.items;
  room : vec_len l.lent + vec_len l.ends ≤ vec_capacity l.lent;
  capacity : vec_capacity l.ends ≡ vec_capacity l.fn.ends;
}

abbrev pub decreases-loop-number : goal.decreases-loop-number
decreases-loop-number g l = vec_len l.ends
