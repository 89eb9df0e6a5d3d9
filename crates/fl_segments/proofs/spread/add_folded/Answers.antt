use Rattle.fl_segments.proofs.AddLemmas.{folded-adds, folded-edge, folded-next, on_ok}
use Rattle.fl_segments.proofs.ChainLemmas.{if_ok}
use Rattle.fl_segments.proofs.spread.add_folded.Goals as goal

pub returns-clause-nodes : goal.returns-clause-nodes
returns-clause-nodes c =
    on_ok c.add_finish.result c.add_finish.ensures.nodes
    (folded-adds c.args.number c.args.inv.now c.args.edges.now _ _ _ c.in_ok-edge.ensures.next c.in_ok-edge.ensures.edge _ _ _ c.in_ok-edge.ensures.nodes)

pub returns-clause-next : goal.returns-clause-next
returns-clause-next c =
    on_ok c.add_finish.result c.add_finish.ensures.next
    (folded-next c.args.number c.args.inv.now c.args.edges.now _ _ _ c.in_ok-edge.ensures.next c.in_ok-edge.ensures.edge _)

pub returns-clause-edge : goal.returns-clause-edge
returns-clause-edge c =
    if_ok c.add_finish.result c.add_finish.ensures.edge
    (folded-edge c.args.number c.args.inv.now c.args.edges.now _ _ _ c.in_ok-edge.ensures.next c.in_ok-edge.ensures.edge)
