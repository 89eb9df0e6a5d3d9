use Rattle.fl_segments.proofs.AddLemmas.{beside-adds, beside-gives, beside-next, on_ok}
use Rattle.fl_segments.proofs.ChainLemmas.{if_ok}
use Rattle.fl_segments.proofs.commands.add_beside.Goals as goal

pub returns-clause-nodes : goal.returns-clause-nodes
returns-clause-nodes c =
    on_ok c.add_first.result c.add_first.ensures.nodes
    (beside-adds c.args.number c.args.stage.now.does c.args.stage.now.tees c.args.stage.now.first c.args.parts _ _ _ c.in_ok-teed.ensures.next c.in_ok-teed.ensures.parts _ _ _ c.in_ok-teed.ensures.nodes)

pub returns-clause-next : goal.returns-clause-next
returns-clause-next c =
    on_ok c.add_first.result c.add_first.ensures.next
    (beside-next c.args.number c.args.stage.now.does c.args.stage.now.tees c.args.stage.now.first c.args.parts _ _ _ c.in_ok-teed.ensures.next c.in_ok-teed.ensures.parts _)

pub returns-clause-parts : goal.returns-clause-parts
returns-clause-parts c =
    if_ok c.add_first.result c.add_first.ensures.parts
    (beside-gives c.args.number c.args.stage.now.does c.args.stage.now.tees c.args.stage.now.first c.args.parts _ _ _ c.in_ok-teed.ensures.next c.in_ok-teed.ensures.parts)
