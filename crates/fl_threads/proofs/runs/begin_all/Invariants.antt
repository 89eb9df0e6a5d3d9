use Rattle.std.proofs.Common.{◌≡◌, ◌+◌, ◌≤◌, [], ◌++◌, vec_len, vec_capacity}
use Rattle.std.specs.Vec.Iter.{into_iter_items, into_iter_len}
use Rattle.fl_threads.specs.Threads.{AreGiven, begun_jobs}
use Rattle.fl_threads.proofs.runs.begin_all.Given as goal

abbrev pub invariant-loop-job : goal.invariant-loop-job
invariant-loop-job g l =
    (begun_jobs l.begun.items ++ (l.here.items ++ into_iter_items l.job-iterator) ≡ into_iter_items l.initial.job-iterator)
    × AreGiven [] l.begun.items
    × (into_iter_len l.job-iterator ≤ vec_len l.lines)
    × (vec_len l.begun + into_iter_len l.job-iterator ≤ vec_capacity l.begun)
    × (vec_len l.here + into_iter_len l.job-iterator ≤ vec_capacity l.here)
