use Rattle.fl_edges.proofs.LaidLemmas.{are_laid}
use Rattle.fl_edges.proofs.making.make_halves.Goals as goal

pub returns-clause-laid : goal.returns-clause-laid
returns-clause-laid c =
    are_laid c.loop-place.givers.items c.loop-place.takers.items c.loop-place.invariant.same c.loop-place.invariant.unput c.loop-place.invariant.untaken
