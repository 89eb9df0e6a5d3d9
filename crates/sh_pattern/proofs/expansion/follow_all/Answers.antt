use Rattle.std.proofs.Common.{◌+◌, List, take, subst, ◌∙◌, arith}
use Rattle.std.specs.Option.{IfSome}
use Rattle.std.proofs.lemmas.List.{take_all}
use Rattle.ps_world.specs.TreeState.{TreeState}
use Rattle.sh_pattern.specs.declared.expansion.Found.{Found}
use Rattle.sh_pattern.specs.Finding.{Follows, FollowsAll}
use Rattle.sh_pattern.proofs.ExpansionLemmas.{all_more_held, longer}
use Rattle.sh_pattern.proofs.expansion.follow_all.Goals as goal

pub loop-place-preserved : goal.loop-place-preserved
loop-place-preserved g c =
    let kept = c.loop-place.invariant in
    let from = c.args.from.now in
    let at = c.loop-place.place-index in
    record {
      state = c.follow.ensures.state ∙ kept.state;
      faults = c.in_ok-follow.ensures.cause.ok ∙ kept.faults;
      found = all_more_held (g.T.Tree.state c.args.tree.now).held (take at from) (take (at + 1) from) c.place-item.result c.args.component.now c.args.ending.now
          c.loop-place.found.items c.follow.new.found.items (longer from at c.place-item.result c.place-item.is c.loop-place-test.true) kept.found
          (subst (λ (state : TreeState). IfSome state.held (λ files. Follows files c.place-item.result c.args.component.now c.args.ending.now c.loop-place.found.items c.follow.new.found.items))
          kept.state c.in_ok-follow.ensures.found);
    }

pub returns-clause-found : goal.returns-clause-found
returns-clause-found g c =
    subst (λ (from : List Found). IfSome (g.T.Tree.state c.args.tree.now).held (λ files. FollowsAll files from c.args.component.now c.args.ending.now c.loop-place.found.items))
    (take_all _ _ (omega arith)) c.loop-place.invariant.found
