use Rattle.std.proofs.Common.{◌≡◌, ◌+◌, ◌≤◌, ◌++◌, map, vec_len, vec_capacity}
use Rattle.std.specs.Vec.Iter.{into_iter_items, into_iter_len}
use Rattle.fl_runner.proofs.runs.owns_of.Given as goal

abbrev pub invariant-loop-job : goal.invariant-loop-job
invariant-loop-job g l = record {
  owns : l.owns.items ++ map (λ job. job.own) (into_iter_items l.job-iterator) ≡ map (λ job. job.own) (into_iter_items l.initial.job-iterator);
  fit : vec_len l.owns + into_iter_len l.job-iterator ≤ vec_capacity l.owns;
}
