use Rattle.std.proofs.Common.{[], subst}
use Rattle.ut_regex.specs.Tree.{last_tree, tree, with_nodes}
use Rattle.ut_regex.specs.Inner.Literals.{Requires}
use Rattle.ut_regex.proofs.LiteralLemmas.{if_ok_map}
use Rattle.ut_regex.proofs.SeveralLemmas.{any_more}
use Rattle.ut_regex.proofs.literals.required_of_any.Goals as goal

pub returns-in_ok-required-in-len1-up : goal.returns-in_ok-required-in-len1-up
returns-in_ok-required-in-len1-up c = if_ok_map c.with_sides.result (λ made sides fold.
    subst (λ re. Requires fold re made) (any_more c.args.expressions.now c.first-item.result c.first-item.is c.in-len1-up.len_at_least)
    (sides fold (tree c.first-item.result)
    (subst (λ nodes. Requires fold (last_tree (with_nodes [] nodes)) c.in_ok-required-in-len1-up.required) c.deref.ensures.value (c.in_ok-required-in-len1-up.ensures fold))))
    c.with_sides.ensures
