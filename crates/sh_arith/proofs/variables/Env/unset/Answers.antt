use Rattle.std.proofs.Common.{ap, ◌∙◌, not, rules, subst, sym}
use Rattle.std.proofs.lemmas.Fn.{filter_same}
use Rattle.std.specs.Ordering.{eq_by_cmp}
use Rattle.std.specs.FinMap as map
use Rattle.sh_arith.specs.Names.{name_cmp}
use Rattle.sh_arith.specs.Variables.{AreOrdered, variables_of}
use Rattle.sh_arith.proofs.VariableLemmas.{drop_variable, ordered_filter}
use Rattle.sh_arith.proofs.variables.Env.unset.Goals as goal

pub invariant_of-self : goal.invariant_of-self
invariant_of-self c =
    let name = c.args.name.now in
    let list = c.self.inside.variables.items in
    subst AreOrdered (sym (filter_same _ (λ variable. not (eq_by_cmp name_cmp name variable.name)) _ (λ x b f h. search rules) list _ c.retain.ensures.filtered))
    (ordered_filter (λ own. not (eq_by_cmp name_cmp name own)) list c.self.invariant)

pub returns : goal.returns
returns c =
    let name = c.args.name.now in
    let list = c.self.inside.variables.items in
    ap variables_of (filter_same _ (λ variable. not (eq_by_cmp name_cmp name variable.name)) _ (λ x b f h. search rules) list _ c.retain.ensures.filtered)
    ∙ drop_variable list name
    ∙ ap (λ variables. map.remove variables name) c.self.view_is
