use Rattle.std.proofs.Common.{◌<◌, get_or, subst, sym}
use Rattle.fl_edges.proofs.PutLemmas.{has-at, place-within}
use Rattle.fl_edges.proofs.returning.put_back.Goals as goal

pub put_at-requires : goal.put_at-requires
put_at-requires c =
    let within = place-within c.args.edges.now c.loop-giver.place c.in-Some.giver _ _ c.in-Some.ensures.steps.0 c.loop-giver.invariant.counted in
    subst (λ count. get_or c.args.edges.now c.loop-giver.place 0 < count) (sym c.loop-giver.invariant.len) (c.requires.below _ (has-at c.args.edges.now c.loop-giver.place within))
