use Rattle.std.proofs.Common.{rules}
use Rattle.std.proofs.lemmas.Fn.{always_returns_same}
use Rattle.sh_arith.specs.declared.variables.Variable.{Variable}
use Rattle.sh_arith.specs.Names.{name_cmp}
use Rattle.sh_arith.proofs.VariableLemmas.{inside, searched, within}
use Rattle.sh_arith.proofs.variables.search.Goals as goal

pub returns-clause-found : goal.returns-clause-found
returns-clause-found c =
    let facts = c.binary_search_by.ensures in
    (searched c.args.variables.now c.args.name.now c.requires.ordered _ facts.bound
    (facts.position (λ (variable : Variable). name_cmp variable.name c.args.name.now) (always_returns_same _ _ _ (λ a r kept called. (search rules, search rules))))).found

pub returns-clause-absent : goal.returns-clause-absent
returns-clause-absent c =
    let facts = c.binary_search_by.ensures in
    (searched c.args.variables.now c.args.name.now c.requires.ordered _ facts.bound
    (facts.position (λ (variable : Variable). name_cmp variable.name c.args.name.now) (always_returns_same _ _ _ (λ a r kept called. (search rules, search rules))))).absent

pub returns-clause-within : goal.returns-clause-within
returns-clause-within c = within _ _ c.binary_search_by.ensures.bound

pub returns-clause-inside : goal.returns-clause-inside
returns-clause-inside c = inside _ _ c.binary_search_by.ensures.bound
