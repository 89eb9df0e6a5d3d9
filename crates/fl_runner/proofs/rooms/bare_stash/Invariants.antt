use Rattle.std.proofs.Common.{◌≡◌, ◌≤◌, vec_len, vec_capacity}
use Rattle.fl_edges.specs.Settled.{IsBare}
use Rattle.fl_runner.proofs.rooms.bare_stash.Given as goal

abbrev pub invariant-loop : goal.invariant-loop
invariant-loop l = record {
  len : vec_len l.stash ≡ l.counter;
  bare : IsBare l.stash.items;
  room : l.edges ≤ vec_capacity l.stash;
}
