-- Reading a number digit by digit.
use Rattle.std.proofs.Common.{◌≡◌, ℕ, ◌+◌, ◌*◌, ◌<◌, ◌≤◌, ◌^◌, ◌∙◌, true, false, nat_eq, decimal, ◌&&◌, if◌then◌else◌, List, [], ◌∷◌, Option, Some, None, nat_le, length, refl, arith}
use Rattle.std.proofs.lemmas.Bool.Decides.{nat_tests}
use Rattle.std.proofs.lemmas.List.{drop_more, drop_all}
use Rattle.std.proofs.lemmas.Bool.{and_parts}
use Rattle.std.proofs.lemmas.Fmt.{digits_decimal, digits_value-decimal, decimal_nonempty}
use Rattle.std.proofs.lemmas.Str.Parse.{numerals_by_value, tells_all_ascii_digits}
use Rattle.std.specs.Char.{digit_value, is_ascii_digit}
use Rattle.std.specs.Str.{all_ascii_digits}
use Rattle.std.specs.Str.Parse.{digits_value, digits_value_after}
use Rattle.ut_options.specs.Numbers.{behind_plus, digits_up_to, number_of, with_one_more}

-- the number that a text of digits writes after those of `number`, where it is at most `most`
abbrev pub digits_on : ℕ → ℕ → List ℕ → Option ℕ
digits_on most number text =
    if all_ascii_digits text && nat_le (digits_value_after 10 number text) most then Some (digits_value_after 10 number text) else None

-- further digits make no number less
value_grows : (number : ℕ) (text : List ℕ) → number ≤ digits_value_after 10 number text
value_grows number [] = omega arith
value_grows number (byte ∷ text) = omega (arith, value_grows (number * 10 + digit_value byte) text)

-- where the next byte doesn't fit, nothing is spelled
pub digits_on-stops : (most number byte : ℕ) (text : List ℕ) → with_one_more most number byte ≡ None → digits_on most number (byte ∷ text) ≡ None
digits_on-stops most number byte text stops = grind (arith, nat_tests, value_grows (number * 10 + digit_value byte) text)

-- of some bytes their digits and their value decide
pub digits_up_to-some : (most : ℕ) (text : List ℕ) → 0 < length text → digits_up_to most text ≡ digits_on most 0 text
digits_up_to-some most [] some = absurd (omega arith)
digits_up_to-some most (byte ∷ rest) some = refl

-- no byte spells nothing
pub digits_up_to-empty : (most : ℕ) (text : List ℕ) → length text ≡ 0 → digits_up_to most text ≡ None
digits_up_to-empty most [] none = refl
digits_up_to-empty most (byte ∷ rest) none = absurd (omega arith)

-- reading from digit to digit
pub ruleset digit_steps = (nat_tests, drop_more, drop_all, digits_up_to-some, digits_up_to-empty, digits_on-stops)

-- a number in decimal writes itself
pub digits_up_to-decimal : (most number : ℕ) → number ≤ most → number < 2 ^ 64 → digits_up_to most (decimal number) ≡ Some number
digits_up_to-decimal most number within small =
    let own = numerals_by_value (λ text. all_ascii_digits text ≡ true) tells_all_ascii_digits in
    let digits : all_ascii_digits (decimal number) ≡ true = digits_decimal own number small in
    let value : digits_value 10 (decimal number) ≡ number = digits_value-decimal own number small in
    digits_up_to-some most (decimal number) (decimal_nonempty number small) ∙ read most number (decimal number) digits value within
  where
    read : (most number : ℕ) (text : List ℕ) → all_ascii_digits text ≡ true → digits_value 10 text ≡ number → number ≤ most → digits_on most 0 text ≡ Some number
    read most number text digits value within = grind (arith, nat_tests)

-- a digit is no sign
no_sign : (byte : ℕ) → is_ascii_digit byte ≡ true → (nat_eq byte 45 ≡ false) × (nat_eq byte 43 ≡ false)
no_sign byte digit = (grind (arith, nat_tests), grind (arith, nat_tests))

unsigned : (text : List ℕ) → 0 < length text → all_ascii_digits text ≡ true → number_of text ≡ behind_plus text
unsigned [] some digits = absurd (omega arith)
unsigned (byte ∷ rest) some digits =
    let signs = no_sign byte (and_parts (is_ascii_digit byte) (all_ascii_digits rest) digits).0 in rw (signs.0, signs.1) refl

-- without a sign it is read as with a plus sign
pub number_of-decimal : (number : ℕ) → number < 2 ^ 64 → number_of (decimal number) ≡ behind_plus (decimal number)
number_of-decimal number small =
    let own = numerals_by_value (λ text. all_ascii_digits text ≡ true) tells_all_ascii_digits in
    unsigned (decimal number) (decimal_nonempty number small) (digits_decimal own number small)
