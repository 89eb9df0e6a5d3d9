use Rattle.ut_slices.proofs.RunLemmas.{Follows-all}
use Rattle.ut_slices.proofs.runs.runs_of.Goals as goal

pub returns : goal.returns
returns c =
    Follows-all c.args.ranges.now c.loop-end.runs.items c.is_selected-2.result c.loop-end.from c.loop-end.invariant c.is_selected-2.ensures c.in_default.ensures.same
