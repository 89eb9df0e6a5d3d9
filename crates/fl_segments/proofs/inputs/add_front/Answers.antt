use Rattle.std.proofs.Common.{◌∙◌}
use Rattle.fl_segments.proofs.AddLemmas.{front-adds, front-next, front-takes}
use Rattle.fl_segments.proofs.inputs.add_front.Goals as goal

pub returns-clause-nodes : goal.returns-clause-nodes
returns-clause-nodes c =
    front-adds c.args.number c.args.coming.now c.args.stage.now _ _ c.in_ok-add_drain.ensures.next _ c.is_reader.ensures _ _ _ c.in_ok-add_drain.ensures.nodes c.in_ok-edges.ensures.nodes

pub returns-clause-next : goal.returns-clause-next
returns-clause-next c = front-next c.args.number c.args.coming.now c.args.stage.now _ _ c.in_ok-add_drain.ensures.next _ c.in_ok-edges.ensures.next

pub returns-clause-parts : goal.returns-clause-parts
returns-clause-parts c =
    c.parts_on.ensures ∙ front-takes c.args.number c.args.coming.now c.args.stage.now _ _ c.in_ok-add_drain.ensures.next _ _ c.comes_cut.ensures c.in_ok-edges.ensures.edges
