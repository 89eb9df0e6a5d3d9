use Rattle.std.proofs.Common.{rules, [], ◌∷◌, ◌++◌, refl, ap, ◌∙◌}
use Rattle.fl_threads.proofs.Rows.{told-more, given-more, given-left}
use Rattle.fl_threads.proofs.runs.tell.Goals as goal

pub loop-one-preserved : goal.loop-one-preserved
loop-one-preserved g c =
    let left = given-left [] _ _ _ c.in-Some.ensures.steps.0 c.loop-one.invariant.1 in (
      told-more _ _ _ _ _ _ _ _ c.push_reserved.ensures.items c.in-Some.ensures.steps.0 refl c.loop-one.invariant.0,
      left.1,
      given-more _ _ _ _ c.push_reserved.ensures.items c.loop-one.invariant.2
          (c.put.ensures.given ∙ ap (λ pieces. pieces ++ c.word.result ∷ []) left.0 ∙ ap (λ piece. piece ∷ []) c.word.ensures),
      search rules,
      search rules,
    )
