use Rattle.std.proofs.Common.{◌≡◌, drop, length, vec_len}
use Rattle.std.specs.Global.{Vec}
use Rattle.std.specs.Vec.Iter.{into_iter_items}
use Rattle.fl_graph.specs.Net.{gives}
use Rattle.fl_graph.specs.declared.graphs.Cell.{Cell}
use Rattle.fl_graph.specs.declared.kinds.NodeKind.{NodeKind}
use Rattle.fl_relay.specs.declared.edges.EdgeGiver.{EdgeGiver}
use Rattle.fl_threads.specs.Threads.{EachOf}
use Rattle.fl_edges.specs.Settled.{all_of, put_all}
use Rattle.fl_edges.proofs.returning.put_back_all.Given as goal

abbrev pub invariant-loop-own : goal.invariant-loop-own
invariant-loop-own l = record {
  put : put_all l.stash.items (gives (drop l.node l.nodes)) (all_of (into_iter_items l.own-iterator)) ≡ put_all l.initial.stash.items (gives l.nodes) (all_of (into_iter_items l.initial.own-iterator));
  counted : EachOf (λ (cell : Cell NodeKind) (own : Vec EdgeGiver). length own.items ≡ length cell.outs) (drop l.node l.nodes) (into_iter_items l.own-iterator);
  len : vec_len l.stash ≡ vec_len l.initial.stash;
}
