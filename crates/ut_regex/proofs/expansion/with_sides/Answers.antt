use Rattle.std.proofs.Common.{◌∙◌}
use Rattle.ut_regex.proofs.SeveralLemmas.{side_more}
use Rattle.ut_regex.specs.Tree.{alternative, tree}
use Rattle.ut_regex.proofs.expansion.with_sides.Goals as goal

pub loop-left-preserved : goal.loop-left-preserved
loop-left-preserved c = λ re is. (
  alternative (c.loop-left.invariant re is).0 (tree c.other-item.result),
  c.in_ok-add_side.ensures (c.loop-left.invariant re is).0 (c.loop-left.invariant re is).1,
  side_more c.loop-left.left.now (c.loop-left.invariant re is).0 c.other-item.result c.other-item.is c.in-len1-up.len_at_least ∙ (c.loop-left.invariant re is).2,
)
