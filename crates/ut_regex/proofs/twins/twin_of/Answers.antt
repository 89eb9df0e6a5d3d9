use Rattle.std.proofs.Common.{◌≡◌, ◌<◌, arith, inl, inr, subst}
use Rattle.std.proofs.lemmas.Bool.{cases_lt}
use Rattle.ut_regex.specs.Inner.Twins.{AreTwins}
use Rattle.ut_regex.proofs.TwinLemmas.{own_twin}
use Rattle.ut_regex.proofs.twins.twin_of.Goals as goal

pub loop-first-preserved : goal.loop-first-preserved
loop-first-preserved c = λ earlier within twins.
    let l = c.loop-first in
    elim (cases_lt earlier l.first) [
      | inl before ↦ l.invariant earlier before twins
      | inr ge ↦
          let last : earlier ≡ l.first = omega arith in
          let told = c.are_twins.ensures.1 (subst (λ first. AreTwins c.args.fold first c.args.byte c.args.steps.now) last twins) in cc
    ]

pub returns-clause-first : goal.returns-clause-first
returns-clause-first c = λ earlier within twins.
    let before : earlier < c.loop-first.first = omega (arith, c.loop-first-test.false) in
    c.loop-first.invariant earlier before twins

pub returns-clause-twin : goal.returns-clause-twin
returns-clause-twin c = own_twin c.args.fold c.args.byte c.args.steps.now
