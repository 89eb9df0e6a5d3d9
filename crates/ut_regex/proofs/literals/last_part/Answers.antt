use Rattle.std.proofs.Common.{◌≡◌, ◌-◌, [], take, reverse, ap, subst, sym, ◌∙◌}
use Rattle.ut_regex.specs.Tree.{last_tree, trees_before}
use Rattle.ut_regex.specs.Inner.Literals.{AreRequired}
use Rattle.ut_regex.proofs.literals.last_part.Goals as goal

pub returns-in-None : goal.returns-in-None
returns-in-None c = λ fold trees are.
    let none : c.pop.new.self.items ≡ [] =
    c.in-None.ensures.rest ∙ ap (λ count. take (count - 1) c.args.parts.now.items) c.in-None.ensures.cases.0 in
    (c.nothing.ensures fold (last_tree trees), subst (λ parts. AreRequired fold (reverse parts) (trees_before trees)) (sym none) tt)
