use Rattle.std.proofs.Common.{◌≡◌, ℕ, List, map, drop, true}
use Rattle.std.specs.Global.{Vec}
use Rattle.std.specs.List.{list_all}
use Rattle.std.specs.Vec.Iter.{into_iter_items}
use Rattle.fl_graph.specs.Net.{takes}
use Rattle.fl_graph.specs.Runs.{is_clean}
use Rattle.fl_graph.specs.declared.graphs.Cell.{Cell}
use Rattle.fl_graph.specs.declared.kinds.NodeKind.{NodeKind}
use Rattle.fl_graph.specs.declared.pieces.Piece.{Piece}
use Rattle.fl_nodes.specs.Stashes.{LayBefore, Lie, has_each}
use Rattle.fl_relay.specs.declared.edges.EdgeTaker.{EdgeTaker}
use Rattle.fl_relay.specs.Edges.{EdgeId, gives_over, put_on, taken_from}
use Rattle.fl_threads.specs.Threads.{EachOf}
use Rattle.fl_edges.specs.Settled.{AreAtEnds, CanSettleEach}
use Rattle.fl_edges.proofs.settling.settle_each.Given as goal

abbrev pub invariant-loop-own : goal.invariant-loop-own
invariant-loop-own g l = record {
  can : CanSettleEach l.stash.items (drop l.node l.nodes) (into_iter_items l.own-iterator);
  there : has_each l.stash.items (takes (drop l.node l.nodes)) ≡ true;
  ends : AreAtEnds (into_iter_items l.own-iterator);
  kept : LayBefore l.initial.stash.items l.stash.items;
  settled : (ids : ℕ → EdgeId) (pieces : ℕ → List Piece) → Lie gives_over put_on ids pieces l.initial.stash.items
      → EachOf (λ (cell : Cell NodeKind) (own : Vec EdgeTaker). map taken_from own.items ≡ map pieces cell.ins) (drop l.node l.nodes) (into_iter_items l.own-iterator)
      → EachOf (λ (cell : Cell NodeKind) (own : Vec EdgeTaker). map taken_from own.items ≡ map pieces cell.ins) l.nodes (into_iter_items l.initial.own-iterator);
  clean : (ids : ℕ → EdgeId) (pieces : ℕ → List Piece) → Lie gives_over put_on ids pieces l.initial.stash.items
      → list_all (λ edge. is_clean (pieces edge)) (takes (drop l.node l.nodes)) ≡ true → list_all (λ edge. is_clean (pieces edge)) (takes l.nodes) ≡ true;
}
