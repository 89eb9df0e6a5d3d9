use Rattle.sh_arith.proofs.LevelLemmas.{deep_operand, deep_right, deep_sides}
use Rattle.sh_arith.proofs.levels.+levels.Goals as goal

pub measure_tighter-returns-in_err-levels-clause-measured :
    goal.measure_tighter-returns-in_err-levels-clause-measured
measure_tighter-returns-in_err-levels-clause-measured t c = λ tree rest h.
    deep_operand _ c.from_residual.ensures c.in_err-levels.ensures.measured h

pub measure_tighter-returns-in_err-measure_right-in-Operator-clause-measured :
    goal.measure_tighter-returns-in_err-measure_right-in-Operator-clause-measured
measure_tighter-returns-in_err-measure_right-in-Operator-clause-measured t c = λ tree rest h.
    deep_right _ c.from_residual-in_err-measure_right-in-Operator.ensures c.in_err-measure_right-in-Operator.ensures.measured (rw c.in-Operator.is at c.in-Some.ensures.step) (c.loop-step.invariant.measured tree rest h)

pub measure_tighter-returns-in_err-levels-in-Question-clause-measured :
    goal.measure_tighter-returns-in_err-levels-in-Question-clause-measured
measure_tighter-returns-in_err-levels-in-Question-clause-measured t c = λ tree rest h.
    deep_sides _ c.from_residual-in_err-levels-in-Question.ensures c.in_err-levels-in-Question.ensures.measured (rw c.in-Question.is at c.in-Some.ensures.step) (c.loop-step.invariant.measured tree rest h)
