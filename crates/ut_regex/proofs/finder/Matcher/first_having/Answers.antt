use Rattle.std.proofs.Common.{◌+◌, true, false, arith, refl, length, length-drop, take}
use Rattle.std.proofs.lemmas.Bool.{false≢true}
use Rattle.std.proofs.lemmas.List.{take_rest}
use Rattle.ps_lines.proofs.ClosedLemmas.{closed-drop}
use Rattle.std.specs.List.{list_any}
use Rattle.ps_lines.specs.Lines.{lines}
use Rattle.ut_regex.specs.Answers.{answers}
use Rattle.ut_regex.proofs.AnswerLemmas.{answers-has, any-none, by_finder, lack-answers, stays-on}
use Rattle.ut_regex.proofs.HavingLemmas.{finds-stays, passed-all, passed-before, walked-all, walked-cut, walked-ends, walked-having, walked-lack, walked-rest}
use Rattle.ut_regex.proofs.finder.Matcher.first_having.Goals as goal

pub passed-place-requires : goal.passed-place-requires
passed-place-requires c = rw take_rest (record { closed = closed-drop c.args.text.now c.loop-cut.from c.requires.closed })

pub returns-in_default-clause-none : goal.returns-in_default-clause-none
returns-in_default-clause-none c = λ fold whole re finds.
    let l = c.loop-cut in
    let left = closed-drop c.args.text.now l.from c.requires.closed in
    let here = rw take_rest at c.passed-place.ensures.passed fold whole re (finds-stays c.args.self.now l.self fold whole re l.invariant.stays finds) in
    walked-all c.args.text.now l.from fold whole re l.invariant.ends (l.invariant.passed fold whole re finds)
    (passed-all fold whole re _ c.passed-place.result here left ((rw take_rest at c.in_default.ensures.none) left))

pub returns-then-runs_over-clause-found : goal.returns-then-runs_over-clause-found
returns-then-runs_over-clause-found c = λ fold whole re finds.
    let l = c.loop-cut in
    let cut = rw take_rest at c.in-Some.ensures.cut in
    let now = finds-stays c.args.self.now l.self fold whole re l.invariant.stays finds in
    let here = rw take_rest at c.passed-place.ensures.passed fold whole re now in
    walked-having c.args.text.now c.in-Some.cut.before.now c.in-Some.cut.line.now c.in-Some.cut.rest.now l.from l.invariant.within l.invariant.ends cut fold whole re
    (l.invariant.passed fold whole re finds)
    (passed-before fold whole re _ c.in-Some.cut.before.now c.in-Some.cut.line.now c.in-Some.cut.rest.now c.passed-place.result here cut c.in-Some.ensures.here)
    ((c.if-runs_over.ensures.has fold whole re (finds-stays l.self c.passed-place.new.self fold whole re c.passed-place.ensures.stays now)).0 refl)

pub returns-then-runs_over-clause-rest : goal.returns-then-runs_over-clause-rest
returns-then-runs_over-clause-rest c =
    walked-rest c.args.text.now c.in-Some.cut.before.now c.in-Some.cut.line.now c.in-Some.cut.rest.now c.loop-cut.from c.loop-cut.invariant.within
    c.loop-cut.invariant.ends (rw take_rest at c.in-Some.ensures.cut) c.requires.closed

pub loop-cut-preserved : goal.loop-cut-preserved
loop-cut-preserved c =
    let l = c.loop-cut in
    let cut = rw take_rest at c.in-Some.ensures.cut in
    let shorter = rw take_rest at c.in-Some.ensures.shorter in
    let size = length-drop l.from c.args.text.now in
    record {
      within = omega arith;
      counted = omega (arith, shorter, size, l.invariant.counted);
      ends = walked-ends c.args.text.now c.in-Some.cut.before.now c.in-Some.cut.line.now c.in-Some.cut.rest.now l.from l.invariant.within l.invariant.ends cut;
      stays =
          stays-on c.args.self.now l.self c.runs_over.new.self l.invariant.stays
          (stays-on l.self c.passed-place.new.self c.runs_over.new.self c.passed-place.ensures.stays c.if-runs_over.ensures.stays);
      passed = λ fold whole re finds.
          let now = finds-stays c.args.self.now l.self fold whole re l.invariant.stays finds in
          let here = rw take_rest at c.passed-place.ensures.passed fold whole re now in
          walked-lack c.args.text.now c.in-Some.cut.before.now c.in-Some.cut.line.now c.in-Some.cut.rest.now l.from l.invariant.within l.invariant.ends cut fold whole re
          (l.invariant.passed fold whole re finds)
          (passed-before fold whole re _ c.in-Some.cut.before.now c.in-Some.cut.line.now c.in-Some.cut.rest.now c.passed-place.result here cut c.in-Some.ensures.here)
          (λ has. false≢true ((c.if-runs_over.ensures.has fold whole re (finds-stays l.self c.passed-place.new.self fold whole re c.passed-place.ensures.stays now)).1 has));
    }

pub returns-in_default-clause-no_line : goal.returns-in_default-clause-no_line
returns-in_default-clause-no_line c =
    by_finder c.args.self.now (list_any (answers c.args.self.now) (lines c.args.text.now)) false (λ fold whole re finds.
    lack-answers c.args.self.now fold whole re finds.seeks (lines c.args.text.now) (returns-in_default-clause-none c fold whole re finds))

pub returns-then-runs_over-clause-first : goal.returns-then-runs_over-clause-first
returns-then-runs_over-clause-first c =
    let l = c.loop-cut in
    let before = take (l.from + length c.in-Some.cut.before.now) c.args.text.now in
    record {
      cut =
          walked-cut c.args.text.now c.in-Some.cut.before.now c.in-Some.cut.line.now c.in-Some.cut.rest.now l.from l.invariant.within l.invariant.ends
          (rw take_rest at c.in-Some.ensures.cut);
      passed = any-none (answers c.args.self.now) (lines before)
          (by_finder c.args.self.now (list_any (answers c.args.self.now) (lines before)) false (λ fold whole re finds.
          lack-answers c.args.self.now fold whole re finds.seeks (lines before) (returns-then-runs_over-clause-found c fold whole re finds).passed));
      has = by_finder c.args.self.now (answers c.args.self.now c.in-Some.cut.line.now) true (λ fold whole re finds.
          (answers-has c.args.self.now fold whole re c.in-Some.cut.line.now finds.seeks).1 (returns-then-runs_over-clause-found c fold whole re finds).has);
    }
