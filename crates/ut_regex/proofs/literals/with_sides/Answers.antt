use Rattle.std.proofs.Common.{[], subst, ◌∙◌}
use Rattle.ut_regex.proofs.SeveralLemmas.{side_more}
use Rattle.ut_regex.specs.Inner.Literals.{Requires}
use Rattle.ut_regex.specs.Tree.{alternative, last_tree, tree, with_nodes}
use Rattle.ut_regex.proofs.literals.with_sides.Goals as goal

pub loop-left-preserved : goal.loop-left-preserved
loop-left-preserved c = λ fold re required.
    let here = c.loop-left.invariant fold re required in
    let side = subst (λ nodes. Requires fold (last_tree (with_nodes [] nodes)) c.in_ok-side.side) c.deref.ensures.value (c.in_ok-side.ensures fold) in (
      alternative here.0 (tree c.other-item.result),
      c.in_ok-required.ensures fold here.0 (tree c.other-item.result) here.1 side,
      side_more c.loop-left.left.now here.0 c.other-item.result c.other-item.is c.in-len1-up.len_at_least ∙ here.2,
    )
