use Rattle.std.proofs.Common.{◌≡◌, ◌+◌, ◌≤◌, true, false, List, [], ◌∷◌, ◌++◌, vec_len, vec_capacity}
use Rattle.std.specs.Vec.Iter.{into_iter_items, into_iter_len}
use Rattle.fl_threads.specs.Threads.{AreGiven, EachOf, begun_jobs, start_word}
use Rattle.fl_threads.proofs.runs.join_all.Given as goal

abbrev pub invariant-loop-one : goal.invariant-loop-one
invariant-loop-one g l =
    AreGiven (start_word l.goes ∷ []) (into_iter_items l.one-iterator)
    × (l.goes ≡ true → ((later : List _) → EachOf g.J.Job.comes (begun_jobs (into_iter_items l.one-iterator)) later
    → EachOf g.J.Job.comes (begun_jobs (into_iter_items l.initial.one-iterator)) (l.done.items ++ later)))
    × (l.goes ≡ false → l.back.items ++ begun_jobs (into_iter_items l.one-iterator) ≡ begun_jobs (into_iter_items l.initial.one-iterator))
    × (vec_len l.done + into_iter_len l.one-iterator ≤ vec_capacity l.done)
    × (vec_len l.back + into_iter_len l.one-iterator ≤ vec_capacity l.back)
    × (vec_capacity l.back ≡ vec_capacity l.initial.back)
