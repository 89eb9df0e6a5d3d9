use Rattle.std.proofs.Common.{IfSome, subst, sym, ◌∙◌}
use Rattle.ut_regex.specs.Inner.Made.{IsMade}
use Rattle.ut_regex.proofs.AnswerLemmas.{answers-has, made-same}
use Rattle.ut_regex.proofs.FilledLemmas.{serves-same}
use Rattle.ut_regex.proofs.RunLemmas.{are_bytes, made_has}
use Rattle.ut_regex.proofs.finder.Matcher.runs_over.Goals as goal

pub returns-in-Some-clause-has : goal.returns-in-Some-clause-has
returns-in-Some-clause-has c = λ fold whole re finds.
    let machine = c.args.self.now.machine in
    let made = subst (λ table. IfSome table (λ made. IsMade machine.steps.items machine.fold machine.whole made)) c.in-Some.is finds.table in
    let answer = made_has machine fold whole re c.args.line.now c.in-Some.table finds.seeks (are_bytes c.args.line.now c.type_inv.line) made in
    (λ h. answer.0 (sym c.has.ensures ∙ h), λ h. c.has.ensures ∙ answer.1 h)

pub returns-in-Some-told_by_cache-clause-has : goal.returns-in-Some-told_by_cache-clause-has
returns-in-Some-told_by_cache-clause-has c = λ fold whole re finds.
    let answer = answers-has c.args.self.now fold whole re c.args.line.now finds.seeks in
    (λ h. answer.0 (sym c.in-Some-told_by_cache.ensures.has ∙ h), λ h. c.in-Some-told_by_cache.ensures.has ∙ answer.1 h)

pub invariant_of-self : goal.invariant_of-self
invariant_of-self c = record {
  serves = serves-same c.told_by_cache.new.self.machine c.has-in-None-told_by_cache.new.self c.told_by_cache.new.self.cache c.has-in-None-told_by_cache.ensures.same c.told_by_cache.new.self.serves;
  made = made-same c.told_by_cache.new.self.machine c.has-in-None-told_by_cache.new.self c.told_by_cache.new.self.table c.told_by_cache.new.self.literal c.has-in-None-told_by_cache.ensures.same
      c.told_by_cache.new.self.made;
}
