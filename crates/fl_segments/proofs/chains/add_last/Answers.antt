use Rattle.fl_segments.proofs.AddLemmas.{last-adds}
use Rattle.fl_segments.proofs.chains.add_last.Goals as goal

pub returns-clause-nodes : goal.returns-clause-nodes
returns-clause-nodes c =
    last-adds c.args.width c.args.number c.args.coming.now c.args.stage.now _ _ _ c.in_ok-written.ensures.next c.in_ok-written.ensures.parts _ _ _ c.in_ok-written.ensures.nodes c.in_ok-add_end_of.ensures.nodes
