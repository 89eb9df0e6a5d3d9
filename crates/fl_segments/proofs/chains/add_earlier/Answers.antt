use Rattle.fl_segments.proofs.AddLemmas.{earlier-adds, earlier-comes, earlier-next, on_ok}
use Rattle.fl_segments.proofs.ChainLemmas.{if_ok}
use Rattle.fl_segments.proofs.chains.add_earlier.Goals as goal

pub returns-clause-nodes : goal.returns-clause-nodes
returns-clause-nodes c =
    on_ok c.add_goes.result c.add_goes.ensures.nodes
    (earlier-adds c.args.width c.args.number c.args.coming.now c.args.stage.now _ _ _ c.in_ok-written.ensures.next c.in_ok-written.ensures.parts c.args.following.now _ _ _ c.in_ok-written.ensures.nodes)

pub returns-clause-next : goal.returns-clause-next
returns-clause-next c =
    on_ok c.add_goes.result c.add_goes.ensures.next
    (earlier-next c.args.width c.args.number c.args.coming.now c.args.stage.now _ _ _ c.in_ok-written.ensures.next c.in_ok-written.ensures.parts c.args.following.now _)

pub returns-clause-coming : goal.returns-clause-coming
returns-clause-coming c =
    if_ok c.add_goes.result c.add_goes.ensures.coming
    (earlier-comes c.args.width c.args.number c.args.coming.now c.args.stage.now _ _ _ c.in_ok-written.ensures.next c.in_ok-written.ensures.parts c.args.following.now)
