use Rattle.std.proofs.Common.{ℕ, rules}
use Rattle.fl_segments.proofs.AddLemmas.{Halves, on_ok, tree-adds, tree-edge-is, tree-next}
use Rattle.fl_segments.proofs.ChainLemmas.{if_ok}
use Rattle.fl_segments.proofs.spread.+add_tree.Goals as goal

-- both halves are added
halves : (t : ℕ) (c : goal.After-add_aggregate t)
    → Halves c.args.number c.args.inv.now c.args.edges.now c.args.drawing.now.next c.split_at.result.0.now c.split_at.result.1.now
    c.args.drawing.now.nodes.items c.add_tree.new.drawing.nodes.items c.add_tree-2.new.drawing.nodes.items c.add_tree.new.drawing.next c.add_tree-2.new.drawing.next c.in_ok-first.first c.in_ok-second.second
halves t c = record {
  front_is = c.split_at.ensures.front;
  back_is = c.split_at.ensures.back;
  many = search rules;
  left = c.in_ok-first.ensures.nodes;
  to_left = c.in_ok-first.ensures.next;
  first_is = c.in_ok-first.ensures.edge;
  right = c.in_ok-second.ensures.nodes;
  to_right = c.in_ok-second.ensures.next;
  second_is = c.in_ok-second.ensures.edge;
}

pub returns-clause-nodes : goal.returns-clause-nodes
returns-clause-nodes t c =
    on_ok c.add_aggregate.result c.add_aggregate.ensures.nodes (tree-adds c.args.number c.args.inv.now c.args.edges.now _ _ _ _ _ _ _ _ _ _ (halves t c) _)

pub returns-clause-next : goal.returns-clause-next
returns-clause-next t c =
    on_ok c.add_aggregate.result c.add_aggregate.ensures.next (tree-next c.args.number c.args.inv.now c.args.edges.now _ _ _ _ _ _ _ _ _ _ (halves t c) _)

pub returns-clause-edge : goal.returns-clause-edge
returns-clause-edge t c =
    if_ok c.add_aggregate.result c.add_aggregate.ensures.edge (tree-edge-is c.args.number c.args.inv.now c.args.edges.now _ _ _ _ _ _ _ _ _ _ (halves t c))
