use Rattle.std.proofs.Common.{◌≡◌, ◌∙◌, sym, inl, inr, true≢false, subst, arith}
use Rattle.std.proofs.lemmas.Bool.{cases_lt}
use Rattle.ut_regex.specs.Inner.Idling.{IsStuck}
use Rattle.ut_regex.proofs.stuck.stuck_of.Goals as goal

pub loop-state-preserved : goal.loop-state-preserved
loop-state-preserved c = λ state within sticks.
    elim (cases_lt state c.loop-state.state) [
      | inl below ↦ c.loop-state.invariant state below sticks
      | inr ge ↦
          let same : state ≡ c.loop-state.state = omega arith in
          true≢false (sym (c.is_stuck.ensures.1 (subst (λ state. IsStuck c.args.next.now c.args.ends.now state) same sticks)) ∙ c.if-is_stuck.false)
    ]

pub returns-clause-none : goal.returns-clause-none
returns-clause-none c = λ state within. c.loop-state.invariant state (omega arith)
