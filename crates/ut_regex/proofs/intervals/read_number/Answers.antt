use Rattle.std.proofs.Common.{◌≡◌, ◌∷◌, ◌∙◌, ap, sym, min, length, rules, arith}
use Rattle.ut_regex.specs.Intervals.{number_from}
use Rattle.ut_regex.proofs.NumberLemmas.{digit_low, number_from-min, number_from-digit, behind_digits-digit}
use Rattle.ut_regex.proofs.intervals.read_number.Goals as goal

pub overflow_sub-digit : goal.overflow_sub-digit
overflow_sub-digit c = digit_low c.in-Some.digit.now (sym c.is_digit.ensures ∙ c.if-is_digit.true)

pub loop-digit-preserved : goal.loop-digit-preserved
loop-digit-preserved c =
    let l = c.loop-digit in
    let is : l.left.now ≡ c.in-Some.digit.now ∷ c.in-Some.rest.now = search (rules, c.in-Some.ensures.cases) in
    let digit = sym c.is_digit.ensures ∙ c.if-is_digit.true in
    record {
      number =
          ap (λ n. min (number_from n c.in-Some.rest.now) 256) c.min-number.ensures
          ∙ number_from-min c.in-Some.rest.now _
          ∙ ap (λ n. min n 256) (sym (number_from-digit l.left.now c.in-Some.rest.now l.number c.in-Some.digit.now is digit))
          ∙ l.invariant.number;
      small = omega (arith, c.min-number.ensures);
      behind = sym (behind_digits-digit l.left.now c.in-Some.rest.now c.in-Some.digit.now is digit) ∙ l.invariant.behind;
      shorter = omega (arith, ap length is, l.invariant.shorter);
    }
