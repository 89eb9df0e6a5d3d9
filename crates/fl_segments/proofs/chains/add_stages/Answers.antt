use Rattle.fl_segments.proofs.AddLemmas.{goes-on-at}
use Rattle.fl_segments.proofs.chains.add_stages.Goals as goal

pub loop-left-preserved : goal.loop-left-preserved
loop-left-preserved c =
    goes-on-at _ _ _ _ _ _ _ _ _ _ c.loop-left.left.now c.next-item.result c.next-item.is c.in-len1-up-left.len_at_least c.loop-left.invariant
    _ _ _ c.in_ok-coming.ensures.nodes c.in_ok-coming.ensures.next c.in_ok-coming.ensures.coming
