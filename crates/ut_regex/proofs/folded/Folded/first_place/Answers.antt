use Rattle.std.proofs.Common.{◌+◌, ◌-◌, true, refl, subst, sym, arith}
use Rattle.std.proofs.lemmas.List.{take_rest}
use Rattle.ut_regex.specs.Inner.Literals.{StandsAt}
use Rattle.ut_regex.proofs.FoldedLemmas.{after-found, at-end, before-found, none-left, too-short}
use Rattle.ut_regex.proofs.folded.Folded.first_place.Goals as goal

pub returns-in_default-clause-first : goal.returns-in_default-clause-first
returns-in_default-clause-first c = λ place low within stands.
    none-left c.args.text.now c.args.self.now.bytes.items c.args.self.now.rare c.index-byte.result.now c.other_case-other.result c.loop-from.from c.args.self.now.within
    c.index-byte.ensures c.other_case-other.ensures c.loop-from.invariant.after c.loop-from.invariant.nowhere (rw take_rest at c.in_default.ensures) place stands

pub returns-then-text-place-clause-first : goal.returns-then-text-place-clause-first
returns-then-text-place-clause-first c = λ place low within stands.
    too-short c.args.text.now c.args.self.now.bytes.items c.args.self.now.rare c.index-byte.result.now c.other_case-other.result c.loop-from.from c.args.self.now.within
    c.index-byte.ensures c.other_case-other.ensures c.loop-from.invariant.after c.loop-from.invariant.nowhere c.in-Some.offset (rw take_rest at c.in-Some.ensures)
    (let short = c.if-text-place.true in let long = c.len.ensures in omega (arith, short, long)) place stands

pub returns-then-stands_at-clause-first : goal.returns-then-stands_at-clause-first
returns-then-stands_at-clause-first c = λ place low within stands.
    before-found c.args.text.now c.args.self.now.bytes.items c.args.self.now.rare c.index-byte.result.now c.other_case-other.result c.loop-from.from c.args.self.now.within
    c.index-byte.ensures c.other_case-other.ensures c.loop-from.invariant.after c.loop-from.invariant.nowhere c.in-Some.offset (rw take_rest at c.in-Some.ensures)
    place within stands

pub returns-then-stands_at-clause-stands : goal.returns-then-stands_at-clause-stands
returns-then-stands_at-clause-stands c = λ within.
    subst (λ bytes. StandsAt true c.args.text.now bytes (c.loop-from.from + c.in-Some.offset - c.args.self.now.rare)) c.deref.ensures.value (c.if-stands_at.ensures.stands refl)

pub loop-from-preserved : goal.loop-from-preserved
loop-from-preserved c = record {
  after = let after = c.loop-from.invariant.after in omega (arith, after);
  nowhere = λ place low within stands.
      after-found c.args.text.now c.args.self.now.bytes.items c.args.self.now.rare c.index-byte.result.now c.other_case-other.result c.loop-from.from c.args.self.now.within
      c.index-byte.ensures c.other_case-other.ensures c.loop-from.invariant.after c.loop-from.invariant.nowhere c.in-Some.offset (rw take_rest at c.in-Some.ensures)
      (λ there. c.if-stands_at.ensures.lacks refl (subst (λ bytes. StandsAt true c.args.text.now bytes (c.loop-from.from + c.in-Some.offset - c.args.self.now.rare)) (sym c.deref.ensures.value) there)) place within stands;
}

pub returns-clause-first : goal.returns-clause-first
returns-clause-first c = λ place low within stands.
    at-end c.args.text.now c.args.self.now.bytes.items c.args.self.now.rare c.index-byte.result.now c.other_case-other.result c.loop-from.from c.args.self.now.within
    c.index-byte.ensures c.other_case-other.ensures c.loop-from.invariant.after c.loop-from.invariant.nowhere c.loop-from-test.false place stands
