use Rattle.std.proofs.Common.{rules, to_z, of_z, w64, ◌≡◌, map, ◌∷◌, Some}
use Rattle.sh_arith.specs.declared.tokens.Symbol.TheVariants as symbol
use Rattle.sh_arith.specs.Tokens.{meaning, name, mark}
use Rattle.sh_arith.specs.Syntax.{prefix_of}
use Rattle.sh_arith.proofs.EvaluationLemmas.{so_far_operand, fails_operand, so_far_right, fails_right, so_far_side, fails_side, all_evaluated, fails_assigned, assigned_evaluated, parenthesized_evaluated, prefixed_evaluated, fails_variable}
use Rattle.sh_arith.proofs.evaluation.+evaluation.Goals as goal

pub assign-returns-in_err-set_number-clause-value :
    goal.assign-returns-in_err-set_number-clause-value
assign-returns-in_err-set_number-clause-value t c = λ tree rest h small.
    fails_assigned _ tree _ _ _ _ rest _ c.from_residual-in_err-set_number.ensures.1 (c.in_ok-found.ensures.value tree rest h small).0 c.in_err-set_number.ensures.err

pub evaluate-returns-in-Some-clause-value : goal.evaluate-returns-in-Some-clause-value
evaluate-returns-in-Some-clause-value t c = λ tree rest h small.
    assigned_evaluated _ _ _ c.in-Some.ensures.name c.assign.ensures.value h small

pub evaluate_tighter-returns-in_err-found-clause-value :
    goal.evaluate_tighter-returns-in_err-found-clause-value
evaluate_tighter-returns-in_err-found-clause-value t c = λ tree rest h small.
    fails_operand _ c.from_residual.ensures.1 c.in_err-found.ensures.value h small

pub evaluate_tighter-loop-step-init : goal.evaluate_tighter-loop-step-init
evaluate_tighter-loop-step-init t c = record {
  value = λ tree rest h small. so_far_operand c.in_ok-found.ensures.value h small;
  shorter = c.in_ok-found.ensures.shorter;
}

pub evaluate_tighter-returns-in_err-found-in-Operator-clause-value :
    goal.evaluate_tighter-returns-in_err-found-in-Operator-clause-value
evaluate_tighter-returns-in_err-found-in-Operator-clause-value t c = λ tree rest h small.
    fails_right _ c.from_residual-in_err-found-in-Operator.ensures.1 c.in_err-found-in-Operator.ensures.value (rw c.in-Operator.is at c.in-Some.ensures.step) (search rules) (c.loop-step.invariant.value tree rest h small) small

pub evaluate_tighter-returns-in_err-found-in-Question-clause-value :
    goal.evaluate_tighter-returns-in_err-found-in-Question-clause-value
evaluate_tighter-returns-in_err-found-in-Question-clause-value t c = λ tree rest h small.
    fails_side {passed = to_z w64 (of_z w64 c.loop-step.found.value)} _ c.from_residual-in_err-found-in-Question.ensures.1 c.in_err-found-in-Question.ensures.value (rw c.in-Question.is at c.in-Some.ensures.step) (search rules) (c.loop-step.invariant.value tree rest h small) small

pub evaluate_tighter-loop-step-preserved-in_ok-found-in-Operator :
    goal.evaluate_tighter-loop-step-preserved-in_ok-found-in-Operator
evaluate_tighter-loop-step-preserved-in_ok-found-in-Operator t c = record {
  value = λ tree rest h small. so_far_right c.in_ok-found-in-Operator.ensures.value (rw c.in-Operator.is at c.in-Some.ensures.step) (search rules) (c.loop-step.invariant.value tree rest h small) small;
  shorter = search rules;
}

pub evaluate_tighter-loop-step-preserved : goal.evaluate_tighter-loop-step-preserved
evaluate_tighter-loop-step-preserved t c = record {
  value = λ tree rest h small. so_far_side {passed = to_z w64 (of_z w64 c.loop-step.found.value)} c.in_ok-found-in-Question.ensures.value (rw c.in-Question.is at c.in-Some.ensures.step) (search rules) (c.loop-step.invariant.value tree rest h small) small;
  shorter = search rules;
}

pub evaluate_tighter-returns-clause-value : goal.evaluate_tighter-returns-clause-value
evaluate_tighter-returns-clause-value t c = λ tree rest h small.
    all_evaluated c.in_default.ensures.step (c.loop-step.invariant.value tree rest h small)

pub evaluate_operand-returns-in_err-value_of-in-Name-clause-value :
    goal.evaluate_operand-returns-in_err-value_of-in-Name-clause-value
evaluate_operand-returns-in_err-value_of-in-Name-clause-value t c = λ tree rest h small.
    let cut : map meaning c.args.tokens.now ≡ name c.in-Name.word.now ∷ map meaning c.in-Some.rest.now = search rules in
    fails_variable _ _ c.from_residual-in_err-value_of-in-Name.ensures.1 cut c.in_err-value_of-in-Name.ensures h

pub evaluate_operand-returns-in-Symbol-OpenParen-clause-value :
    goal.evaluate_operand-returns-in-Symbol-OpenParen-clause-value
evaluate_operand-returns-in-Symbol-OpenParen-clause-value t c = λ tree rest h small.
    let cut : map meaning c.args.tokens.now ≡ mark symbol.OpenParen ∷ map meaning c.in-Some.rest.now = search rules in
    parenthesized_evaluated _ _ _ cut c.evaluate_parenthesized.ensures.value h small

pub evaluate_operand-returns-in_ok-prefix-in-Symbol :
    goal.evaluate_operand-returns-in_ok-prefix-in-Symbol
evaluate_operand-returns-in_ok-prefix-in-Symbol t c =
    let cut : map meaning c.args.tokens.now ≡ mark c.in-Symbol.symbol ∷ map meaning c.in-Some.rest.now = search rules in
    let sign : prefix_of c.in-Symbol.symbol ≡ Some c.in_ok-prefix-in-Symbol.prefix = search rules in
    record {
      value = λ tree rest h small. prefixed_evaluated _ _ _ sign cut c.evaluate_prefixed.ensures.value h small;
      shorter = search rules;
    }
