use Rattle.std.proofs.Common.{◌≡◌, ◌+◌, ◌≤◌, ◌++◌, true, vec_len, vec_capacity}
use Rattle.std.specs.Vec.Iter.{into_iter_items, into_iter_len}
use Rattle.fl_runner.specs.Lent.{are_back, lent_of}
use Rattle.fl_runner.proofs.lending.give_back_each.Given as goal

abbrev pub invariant-loop-entry : goal.invariant-loop-entry
invariant-loop-entry g l = record {
  moved : lent_of l.home.items ++ into_iter_items l.entry-iterator ≡ into_iter_items l.initial.entry-iterator;
  back : are_back (into_iter_items l.entry-iterator) ≡ true;
  room : vec_len l.home + into_iter_len l.entry-iterator ≤ vec_capacity l.home;
}
