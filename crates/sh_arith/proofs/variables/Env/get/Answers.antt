use Rattle.std.proofs.Common.{ap, subst, sym, ◌∙◌}
use Rattle.std.specs.FinMap as map
use Rattle.sh_arith.specs.Names.{name_cmp}
use Rattle.sh_arith.specs.Variables.{AreOrdered, pairs}
use Rattle.sh_arith.proofs.VariableLemmas.{get_variable}
use Rattle.sh_arith.proofs.variables.Env.get.Goals as goal

pub value_of-requires : goal.value_of-requires
value_of-requires c = record { ordered = subst AreOrdered (sym c.as_slice.ensures.value) c.self.invariant }

pub returns : goal.returns
returns c =
    let name = c.args.name.now in
    c.value_of.ensures
    ∙ ap (λ list. map.find name_cmp name (pairs list)) c.as_slice.ensures.value
    ∙ sym (get_variable c.self.inside.variables.items name)
    ∙ ap (λ variables. map.get variables name) c.self.view_is
