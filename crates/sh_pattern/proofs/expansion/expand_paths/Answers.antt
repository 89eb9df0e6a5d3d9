use Rattle.std.proofs.Common.{sym, ◌∙◌, arith}
use Rattle.std.proofs.lemmas.Bool.Decides.{nat_tests}
use Rattle.ps_lines.specs.Texts.{texts_of}
use Rattle.sh_pattern.proofs.ExpansionLemmas.{stays_plain, stays_unnamed, if_ok}
use Rattle.sh_pattern.proofs.expansion.expand_paths.Goals as goal

pub returns-then-not-has_special-clause-names : goal.returns-then-not-has_special-clause-names
returns-then-not-has_special-clause-names g c =
    if_ok c.itself.result
    (λ names is. stays_plain (g.T.Tree.state c.args.tree.now).held (g.T.Tree.state c.args.tree.now).home c.args.text.now (texts_of names.items) (sym c.has_special.ensures ∙ c.if-not-has_special.true) is)
    c.itself.ensures.names

pub returns-then-is_empty-clause-names : goal.returns-then-is_empty-clause-names
returns-then-is_empty-clause-names g c =
    if_ok c.itself-then-is_empty.result
    (λ names is. stays_unnamed (g.T.Tree.state c.args.tree.now).held (g.T.Tree.state c.args.tree.now).home c.args.text.now c.in_ok-names.names.items (texts_of names.items)
    (sym c.has_special.ensures ∙ c.if-not-has_special.false) c.in_ok-names.ensures.names (grind (arith, nat_tests, c.if-is_empty.ensures)) is)
    c.itself-then-is_empty.ensures.names
