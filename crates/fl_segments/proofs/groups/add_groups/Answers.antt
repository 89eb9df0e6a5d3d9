use Rattle.std.proofs.Common.{rules}
use Rattle.fl_segments.proofs.AddLemmas.{groups-added, groups-begin, groups-behind, groups-next}
use Rattle.fl_segments.proofs.groups.add_groups.Goals as goal

pub loop-group-init : goal.loop-group-init
loop-group-init c = groups-begin c.args.width c.args.number c.args.edges.now c.args.drawing.now.nodes.items c.args.drawing.now.next

pub loop-group-preserved : goal.loop-group-preserved
loop-group-preserved c =
    groups-next c.args.width c.args.number c.args.edges.now c.args.drawing.now.nodes.items c.args.drawing.now.next c.loop-group.group _ _ _ _ (search rules) c.loop-group.invariant
    c.in_ok-add_group.ensures.nodes c.in_ok-add_group.ensures.next

pub returns-clause-nodes : goal.returns-clause-nodes
returns-clause-nodes c =
    groups-added c.args.width c.args.number c.args.edges.now c.args.drawing.now.nodes.items c.args.drawing.now.next c.loop-group.group _ _ (search rules) c.loop-group.invariant

pub returns-clause-next : goal.returns-clause-next
returns-clause-next c =
    groups-behind c.args.width c.args.number c.args.edges.now c.args.drawing.now.nodes.items c.args.drawing.now.next c.loop-group.group _ _ (search rules) c.loop-group.invariant
