use Rattle.std.proofs.Common.{ℕ, ◌+◌, ◌-◌, ◌*◌, ◌^◌, min, ◌∙◌, sym, ap, subst, ◌<◌, arith}
use Rattle.sh_arith.proofs.ConstantLemmas.{counted_more, are_digits_more, number_counted}
use Rattle.sh_arith.proofs.constants.number.Goals as goal

pub loop-byte-preserved : goal.loop-byte-preserved
loop-byte-preserved c =
    let base = c.args.base in
    let digits = c.args.digits.now in
    let at = c.loop-byte.byte-index in
    let is =
    c.saturating_add-value.ensures
    ∙ ap (λ (n : ℕ). min (n + c.digit-digit.result) (2 ^ 64 - 1)) c.saturating_mul.ensures
    ∙ ap (λ (n : ℕ). min (min (c.loop-byte.value * base) (2 ^ 64 - 1) + n) (2 ^ 64 - 1)) c.digit-digit.ensures.digit in
    record {
      digits = are_digits_more base at digits (omega arith) (subst (λ d. d < base) c.digit-digit.ensures.digit c.if-digit-base.false) ∙ c.loop-byte.invariant.digits;
      value = counted_more base (2 ^ 64 - 1) c.loop-byte.value _ at digits c.requires (omega arith) is ∙ c.loop-byte.invariant.value;
      small = omega (arith, c.saturating_add-value.ensures);
    }

pub returns : goal.returns
returns c = number_counted c.args.base (2 ^ 64 - 1) c.loop-byte.value c.loop-byte.byte-index c.args.digits.now (sym c.is_empty.ensures ∙ c.if-is_empty.false) (omega arith) c.loop-byte.invariant.digits c.loop-byte.invariant.value c.loop-byte.invariant.small
