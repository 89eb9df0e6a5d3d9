use Rattle.std.proofs.Common.{◌≡◌, ◌+◌, ◌≤◌, ◌++◌, vec_len, vec_capacity}
use Rattle.std.specs.Vec.Iter.{into_iter_items, into_iter_len}
use Rattle.fl_threads.proofs.runs.put_behind.Given as goal

abbrev pub invariant-loop-job : goal.invariant-loop-job
invariant-loop-job g l =
    (l.front.items ++ into_iter_items l.job-iterator ≡ l.initial.front.items ++ into_iter_items l.initial.job-iterator)
    × (vec_len l.front + into_iter_len l.job-iterator ≤ vec_capacity l.front)
