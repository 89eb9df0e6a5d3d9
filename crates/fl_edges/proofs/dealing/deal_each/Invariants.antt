use Rattle.std.proofs.Common.{◌≡◌, ℕ, take}
use Rattle.fl_nodes.specs.Stashes.{LayBefore, Lie}
use Rattle.fl_relay.specs.Edges.{EdgeId, gives_over, takes_over, put_on, taken_from}
use Rattle.fl_threads.specs.Threads.{EachOf}
use Rattle.fl_edges.specs.Halves.{HasHalves, no_pieces}
use Rattle.fl_edges.proofs.dealing.deal_each.Given as goal

abbrev pub invariant-loop-node : goal.invariant-loop-node
invariant-loop-node l = record {
  givers : LayBefore l.initial.givers.items l.givers.items;
  takers : LayBefore l.initial.takers.items l.takers.items;
  each : (ids : ℕ → EdgeId) → Lie gives_over put_on ids no_pieces l.initial.givers.items → Lie takes_over taken_from ids no_pieces l.initial.takers.items
      → EachOf (HasHalves ids) (take l.node l.nodes) l.dealt.items;
}
