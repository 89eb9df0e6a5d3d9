use Rattle.fl_segments.proofs.AddLemmas.{spread-adds, spread-gives, spread-next}
use Rattle.fl_segments.proofs.spread.add_spread.Goals as goal

pub returns-clause-nodes : goal.returns-clause-nodes
returns-clause-nodes c =
    spread-adds c.args.width c.args.number c.args.inv.now c.args.taken _ _ _ c.in_ok-mapped.ensures.next c.in_ok-mapped.ensures.parts _ _ _ c.in_ok-mapped.ensures.nodes c.in_ok-parts.ensures.nodes

pub returns-clause-next : goal.returns-clause-next
returns-clause-next c =
    spread-next c.args.width c.args.number c.args.inv.now c.args.taken _ _ _ c.in_ok-mapped.ensures.next c.in_ok-mapped.ensures.parts _ c.in_ok-parts.ensures.next

pub returns-clause-parts : goal.returns-clause-parts
returns-clause-parts c =
    spread-gives c.args.width c.args.number c.args.inv.now c.args.taken _ _ _ c.in_ok-mapped.ensures.next c.in_ok-mapped.ensures.parts _ c.in_ok-parts.ensures.parts
