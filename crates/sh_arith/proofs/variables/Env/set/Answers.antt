use Rattle.std.proofs.Common.{ℕ, List, ap, sym, subst, ◌∙◌, arith}
use Rattle.std.specs.FinMap as map
use Rattle.sh_arith.specs.declared.variables.Variable.{Variable}
use Rattle.sh_arith.specs.Variables.{AreOrdered, IsAt, IsGapFor, variables_of}
use Rattle.sh_arith.proofs.VariableLemmas.{inserted, named_at, ordered_put, put_variable, written}
use Rattle.sh_arith.proofs.variables.Env.set.Goals as goal

pub search-requires : goal.search-requires
search-requires c = record { ordered = subst AreOrdered (sym c.as_slice.ensures.value) c.self.invariant }

-- the text is written at the place of its name
pub invariant_of-self : goal.invariant_of-self
invariant_of-self c =
    let name = c.args.name.now in
    let list = c.self.inside.variables.items in
    let place = c.in-Ok.place in
    let at = subst (λ (l : List Variable). IsAt name l place) c.as_slice.ensures.value c.in-Ok.ensures.found in
    let named = ap (λ (v : Variable). v.name) c.index_mut.ensures.value ∙ named_at list place name _ at in
    ordered_put list _ name c.args.text.now (written list place name c.args.text.now _ _ c.self.invariant at named c.in_ok-value.ensures) c.self.invariant

pub returns-in-Ok-clause-ok : goal.returns-in-Ok-clause-ok
returns-in-Ok-clause-ok c =
    let name = c.args.name.now in
    let text = c.args.text.now in
    let list = c.self.inside.variables.items in
    let place = c.in-Ok.place in
    let at = subst (λ (l : List Variable). IsAt name l place) c.as_slice.ensures.value c.in-Ok.ensures.found in
    let named = ap (λ (v : Variable). v.name) c.index_mut.ensures.value ∙ named_at list place name _ at in
    put_variable list _ name text (written list place name text _ _ c.self.invariant at named c.in_ok-value.ensures)
    ∙ ap (λ variables. map.insert variables name text) c.self.view_is

-- a new variable is put into the gap for it
pub invariant_of-self-in-Continue-branch-3 : goal.invariant_of-self-in-Continue-branch-3
invariant_of-self-in-Continue-branch-3 c =
    let name = c.args.name.now in
    let list = c.self.inside.variables.items in
    let place = c.in-Err.place in
    let gap = subst (λ (l : List Variable). IsGapFor name l place) c.as_slice.ensures.value c.in-Err.ensures.absent in
    subst AreOrdered (sym c.in_ok-insert-in-Err.ensures.items)
    (ordered_put list _ name c.args.text.now (inserted list place name c.args.text.now _ _ gap c.in_ok-name-in-Err.ensures c.in_ok-value.ensures) c.self.invariant)

pub returns-in_ok-insert-in-Err-clause-ok : goal.returns-in_ok-insert-in-Err-clause-ok
returns-in_ok-insert-in-Err-clause-ok c =
    let name = c.args.name.now in
    let text = c.args.text.now in
    let list = c.self.inside.variables.items in
    let place = c.in-Err.place in
    let gap = subst (λ (l : List Variable). IsGapFor name l place) c.as_slice.ensures.value c.in-Err.ensures.absent in
    ap variables_of c.in_ok-insert-in-Err.ensures.items
    ∙ put_variable list _ name text (inserted list place name text _ _ gap c.in_ok-name-in-Err.ensures c.in_ok-value.ensures)
    ∙ ap (λ variables. map.insert variables name text) c.self.view_is
