use Rattle.std.proofs.Common.{rules, ◌≡◌, ℤ, Ok, Err, inl, sym, subst, ◌∙◌, to_z, of_z, w64, map}
use Rattle.sh_arith.specs.Tokens.{meaning}
use Rattle.sh_arith.specs.Arithmetic.{HasOutcome}
use Rattle.sh_arith.proofs.OutcomeLemmas.{handed_fault, blank_outcome, some_tokens, unread_outcome, deep_outcome, evaluated_outcome}
use Rattle.sh_arith.proofs.arithmetic.value_of.Goals as goal

pub returns-then-is_empty-clause-value : goal.returns-then-is_empty-clause-value
returns-then-is_empty-clause-value c = λ text lexed.
    blank_outcome text c.args.env.now c.args.tokens.now lexed (sym c.is_empty.ensures ∙ c.if-is_empty.true)

pub returns-then-not-branch-clause-fault : goal.returns-then-not-branch-clause-fault
returns-then-not-branch-clause-fault c = λ text lexed.
    inl (unread_outcome text c.args.env.now (map meaning c.args.tokens.now) c.in_ok-is_expression.field-0 lexed (some_tokens c.args.tokens.now (sym c.is_empty.ensures ∙ c.if-is_empty.false)) c.in_ok-is_expression.ensures.1 c.if-not-branch.true)

pub returns-then-is_none-clause-fault : goal.returns-then-is_none-clause-fault
returns-then-is_none-clause-fault c = λ text lexed.
    inl (deep_outcome c.args.env.now c.measure.result lexed (c.in_ok-is_expression.ensures.0 c.if-not-branch.false) c.measure.ensures.measured c.if-is_none.ensures)

pub returns-in_err-evaluate-clause-fault : goal.returns-in_err-evaluate-clause-fault
returns-in_err-evaluate-clause-fault c = λ text lexed.
    handed_fault _ c.from_residual-in_err-evaluate.result c.in_err-evaluate.field-0.0 c.from_residual-in_err-evaluate.ensures.1
    (evaluated_outcome c.args.env.now c.evaluate.new.env c.measure.result (Err c.in_err-evaluate.field-0.0) lexed (c.in_ok-is_expression.ensures.0 c.if-not-branch.false) c.measure.ensures.measured c.measure.ensures.within c.if-is_none.ensures c.in_err-evaluate.ensures.value)

pub returns-clause-value : goal.returns-clause-value
returns-clause-value c = λ text lexed.
    let found = c.in_ok-evaluate.field-0 in
    let same : to_z w64 (of_z w64 c.in_ok-evaluate.field-0.value) ≡ c.in_ok-evaluate.field-0.value = search rules in
    subst (λ (v : ℤ). HasOutcome text c.args.env.now (Ok v, c.evaluate.new.env)) (sym same)
    (evaluated_outcome c.args.env.now c.evaluate.new.env c.measure.result (Ok found) lexed (c.in_ok-is_expression.ensures.0 c.if-not-branch.false) c.measure.ensures.measured c.measure.ensures.within c.if-is_none.ensures c.in_ok-evaluate.ensures.value)
