use Rattle.std.proofs.Common.{◌∙◌, false, refl, ap, sym, subst, rules, arith}
use Rattle.ut_regex.proofs.ScanLemmas.{Scanned, scan_start, scanned_on, has_early, has_last, led_is}
use Rattle.ut_regex.proofs.machine.Machine.has.Goals as goal
use Rattle.ut_regex.proofs.machine.Machine.has.Goals.{else-led-via-then-led+else-not-self, else-led-via-else-led}

pub loop-place-init : goal.loop-place-init
loop-place-init c = record {
  same = record { steps = refl; fold = refl; whole = refl };
  scanned = λ fold whole re seeks.
      subst (λ bits. Scanned fold whole re c.args.line.now bits 0) (sym (ap (λ held. held.bits) c.clear.ensures))
      (scan_start fold whole re c.args.line.now);
}

pub returns-then-not-self-clause-has : goal.returns-then-not-self-clause-has
returns-then-not-self-clause-has c = λ fold whole re seeks.
    let l = c.loop-place in
    let scanned = l.invariant.scanned fold whole re seeks in
    let is_whole = l.invariant.same.whole ∙ seeks.is_whole in (
      λ _. has_early fold whole re c.args.line.now l.self.marks.bits l.place scanned
          (sym is_whole ∙ sym c.leads_on-led.ensures.same.whole ∙ c.if-not-self.true) c.loop-place-test.true
          (sym (led_is fold whole re c.args.line.now l.self.marks.bits l.place scanned l.self.steps.items l.self.whole false c.leads_on-led.result
          (l.invariant.same.steps ∙ seeks.program) is_whole c.leads_on-led.ensures.leads) ∙ c.if-led.true),
      λ _. refl,
    )

pub loop-place-preserved : goal.loop-place-preserved
loop-place-preserved c =
    let l = c.loop-place in
    let same = c.leads_on-led.ensures.same in
    record {
      same = search rules;
      scanned = λ fold whole re seeks.
          scanned_on fold whole re c.args.line.now l.self.marks.bits l.place (l.invariant.scanned fold whole re seeks)
          l.self.steps.items l.self.fold l.self.whole c.leads_on-led.result c.leads_on-led.new.self.kept.bits c.read.new.self.marks.bits
          (l.invariant.same.steps ∙ seeks.program) (l.invariant.same.fold ∙ seeks.folds) (l.invariant.same.whole ∙ seeks.is_whole)
          c.loop-place-test.true c.leads_on-led.ensures.leads
          (λ part. elim c.else-led.branch [
            | else-led-via-then-led+else-not-self w ↦ absurd (cc (part, same.whole, w.if-not-self.false))
            | else-led-via-else-led w ↦ w.if-led.false
          ])
          c.leads_on-led.ensures.kept
          (cc (c.read.ensures.marks, same.steps, same.fold, same.whole));
    }

pub returns-clause-has : goal.returns-clause-has
returns-clause-has c = λ fold whole re seeks.
    let l = c.loop-place in
    has_last fold whole re c.args.line.now l.self.marks.bits l.place (l.invariant.scanned fold whole re seeks) (omega arith)
    l.self.steps.items l.self.whole c.is_empty.result c.leads_on.result
    (l.invariant.same.steps ∙ seeks.program) (l.invariant.same.whole ∙ seeks.is_whole) c.is_empty.ensures c.leads_on.ensures.leads
