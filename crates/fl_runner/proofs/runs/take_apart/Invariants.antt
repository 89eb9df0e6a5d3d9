use Rattle.std.proofs.Common.{◌≡◌, ◌+◌, ◌≤◌, ◌++◌, map, vec_len, vec_capacity}
use Rattle.std.specs.Vec.Iter.{into_iter_items, into_iter_len}
use Rattle.fl_runner.proofs.runs.take_apart.Given as goal

abbrev pub invariant-loop-one : goal.invariant-loop-one
invariant-loop-one g l = record {
  givers : l.all_givers.items ++ map (λ one. one.givers) (into_iter_items l.one-iterator) ≡ map (λ one. one.givers) (into_iter_items l.initial.one-iterator);
  takers : l.all_takers.items ++ map (λ one. one.takers) (into_iter_items l.one-iterator) ≡ map (λ one. one.takers) (into_iter_items l.initial.one-iterator);
  owns : l.owns.items ++ map (λ one. one.own) (into_iter_items l.one-iterator) ≡ map (λ one. one.own) (into_iter_items l.initial.one-iterator);
  givers_fit : vec_len l.all_givers + into_iter_len l.one-iterator ≤ vec_capacity l.all_givers;
  takers_fit : vec_len l.all_takers + into_iter_len l.one-iterator ≤ vec_capacity l.all_takers;
  owns_fit : vec_len l.owns + into_iter_len l.one-iterator ≤ vec_capacity l.owns;
}
