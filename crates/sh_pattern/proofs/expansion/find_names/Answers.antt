use Rattle.std.proofs.Common.{List, ◌∷◌, [], subst, ◌∙◌, refl}
use Rattle.std.specs.Option.{IfSome}
use Rattle.ps_world.specs.Paths.{slash}
use Rattle.ps_world.specs.TreeState.{TreeState}
use Rattle.ps_lines.specs.Texts.{texts_of}
use Rattle.sh_pattern.specs.declared.expansion.Found.{Found}
use Rattle.sh_pattern.specs.Finding.{FollowsAll}
use Rattle.sh_pattern.proofs.ExpansionLemmas.{remain_later, remain_last, are_named}
use Rattle.sh_pattern.proofs.expansion.find_names.Goals as goal

pub loop-component-preserved : goal.loop-component-preserved
loop-component-preserved g c =
    let kept = c.loop-component.invariant in
    let component = c.in-Some.component.now in
    let new = c.in_ok-found.found.items in
    let held = (g.T.Tree.state c.args.tree.now).held in
    record {
      state = c.follow_all.ensures.state ∙ kept.state;
      faults = c.in_ok-found.ensures.cause.ok ∙ kept.faults;
      found = remain_later held _ c.args.text.now c.loop-component.left.now component c.in-Some.rest.now c.loop-component.found.items new c.in-Some.ensures.first kept.found
          (subst (λ (from : List Found). IfSome held (λ files. FollowsAll files from component (slash ∷ []) new)) c.as_slice.ensures.value
          (subst (λ (state : TreeState). IfSome state.held (λ files. FollowsAll files c.as_slice.result.now component (slash ∷ []) new)) kept.state c.in_ok-found.ensures.found));
    }

pub returns-clause-names : goal.returns-clause-names
returns-clause-names g c =
    let kept = c.loop-component.invariant in
    let text = c.args.text.now in
    let last = c.loop-component.left.now in
    let new = c.in_ok-found-2.found.items in
    let held = (g.T.Tree.state c.args.tree.now).held in
    are_named held (g.T.Tree.state c.args.tree.now).home _ text new (texts_of c.in_ok-sorted_texts.field-0.items) refl
    (remain_last held _ text last c.loop-component.found.items new c.in_default.ensures.last.0 kept.found
    (subst (λ (from : List Found). IfSome held (λ files. FollowsAll files from last [] new)) c.as_slice-2.ensures.value
    (subst (λ (state : TreeState). IfSome state.held (λ files. FollowsAll files c.as_slice-2.result.now last [] new)) kept.state c.in_ok-found-2.ensures.found)))
    c.in_ok-sorted_texts.ensures.texts c.in_ok-sorted_texts.ensures.sorted
