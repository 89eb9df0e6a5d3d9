use Rattle.fl_segments.proofs.AddLemmas.{inputs-add, inputs-edges, inputs-next, on_ok}
use Rattle.fl_segments.proofs.ChainLemmas.{if_ok}
use Rattle.fl_segments.proofs.inputs.add_util_inputs.Goals as goal

pub returns-clause-nodes : goal.returns-clause-nodes
returns-clause-nodes c =
    on_ok c.add_joined.result c.add_joined.ensures.nodes
    (inputs-add c.args.number c.args.coming.now c.args.inv.now c.args.ins.now _ _ _ _ c.in_ok-edges.ensures.next c.in_ok-edges.ensures.edges c.begins.ensures _ _ _ c.in_ok-edges.ensures.nodes)

pub returns-clause-next : goal.returns-clause-next
returns-clause-next c =
    on_ok c.add_joined.result c.add_joined.ensures.next
    (inputs-next c.args.number c.args.coming.now c.args.inv.now c.args.ins.now _ _ _ _ c.in_ok-edges.ensures.next c.in_ok-edges.ensures.edges c.begins.ensures _)

pub returns-clause-edges : goal.returns-clause-edges
returns-clause-edges c =
    if_ok c.add_joined.result c.add_joined.ensures.edges
    (λ joined. inputs-edges c.args.number c.args.coming.now c.args.inv.now c.args.ins.now _ _ _ _ c.in_ok-edges.ensures.next c.in_ok-edges.ensures.edges c.begins.ensures joined.items)
