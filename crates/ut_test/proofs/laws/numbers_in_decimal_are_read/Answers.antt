use Rattle.std.proofs.Common.{◌^◌, ◌-◌, ◌∙◌, ap, arith, pos, neg_ℤ}
use Rattle.std.specs.Option.{option_map}
use Rattle.ut_options.proofs.DigitLemmas.{digits_up_to-decimal, number_of-decimal}
use Rattle.ut_test.proofs.laws.numbers_in_decimal_are_read.Goals as goal

pub returns-clause-plain : goal.returns-clause-plain
returns-clause-plain c = λ number small.
    number_of-decimal number (omega arith) ∙ ap (option_map (λ n. pos n)) (digits_up_to-decimal (2 ^ 63 - 1) number (omega arith) (omega arith))

pub returns-clause-plus : goal.returns-clause-plus
returns-clause-plus c = λ number small. ap (option_map (λ n. pos n)) (digits_up_to-decimal (2 ^ 63 - 1) number (omega arith) (omega arith))

pub returns-clause-minus : goal.returns-clause-minus
returns-clause-minus c = λ number small. ap (option_map (λ n. neg_ℤ (pos n))) (digits_up_to-decimal (2 ^ 63) number small (omega arith))
