use Rattle.std.proofs.Common.{◌≡◌, None, subst}
use Rattle.std.specs.Option.{IfSome}
use Rattle.ps_world.specs.Places.{enter}
use Rattle.ps_world.specs.TreeState.{TreeState}
use Rattle.ps_world.proofs.WalkLemmas.{resolve_from-stuck}
use Rattle.ps_world.proofs.places.walk.Goals as goal

pub returns-in-None-clause-place : goal.returns-in-None-clause-place
returns-in-None-clause-place g c =
    let nowhere = rw c.in-None.is at c.in_ok-inner.ensures.none in
    resolve_from-stuck _ c.args.start c.loop-component.stand.path c.args.text.now c.loop-component.left.now c.in-Some.component.now c.in-Some.rest.now c.loop-component.invariant.2 c.in-Some.ensures.first
    (subst (λ (state : TreeState). IfSome state.held (λ files. enter files c.loop-component.stand.path c.in-Some.component.now ≡ None)) c.loop-component.invariant.0 nowhere)
