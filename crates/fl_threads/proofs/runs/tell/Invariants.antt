use Rattle.std.proofs.Common.{◌≡◌, ◌+◌, ◌≤◌, [], ◌∷◌, ◌++◌, vec_len, vec_capacity}
use Rattle.std.specs.Vec.Iter.{into_iter_items, into_iter_len}
use Rattle.fl_threads.specs.Threads.{AreGiven, begun_jobs, start_word}
use Rattle.fl_threads.proofs.runs.tell.Given as goal

abbrev pub invariant-loop-one : goal.invariant-loop-one
invariant-loop-one g l =
    (begun_jobs l.told.items ++ begun_jobs (into_iter_items l.one-iterator) ≡ begun_jobs (into_iter_items l.initial.one-iterator))
    × AreGiven [] (into_iter_items l.one-iterator)
    × AreGiven (start_word l.goes ∷ []) l.told.items
    × (vec_len l.told + into_iter_len l.one-iterator ≡ into_iter_len l.initial.one-iterator)
    × (vec_len l.told + into_iter_len l.one-iterator ≤ vec_capacity l.told)
