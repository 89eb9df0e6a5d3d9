-- Reading a number digit by digit.
use Rattle.std.proofs.Common.{◌≡◌, ℕ, ◌+◌, ◌*◌, ◌^◌, ◌<◌, ◌≤◌, ◌&&◌, if◌then◌else◌, List, [], ◌∷◌, Option, Some, None, nat_lt, length, decimal, true, arith}
use Rattle.std.proofs.lemmas.Bool.Decides.{nat_tests}
use Rattle.std.proofs.lemmas.List.{drop_more, drop_all}
use Rattle.std.proofs.lemmas.Fmt.{digits_decimal, digits_value-decimal, decimal_nonempty, length-decimal-le}
use Rattle.std.proofs.lemmas.Str.Parse.{numerals_by_value, tells_all_ascii_digits}
use Rattle.std.specs.Char.{digit_value}
use Rattle.std.specs.Str.{all_ascii_digits}
use Rattle.std.specs.Str.Parse.{digits_value, digits_value_after}
use Rattle.ps_lines.specs.Numbers.{number_of, spells_number, with_one_more}

-- the number that a text of digits writes after those of `number`, where it stays below 2^64
abbrev pub number_on : ℕ → List ℕ → Option ℕ
number_on number text =
    if all_ascii_digits text && nat_lt (digits_value_after 10 number text) (2 ^ 64) then Some (digits_value_after 10 number text) else None

-- further digits make no number less
value_grows : (number : ℕ) (text : List ℕ) → number ≤ digits_value_after 10 number text
value_grows number [] = omega arith
value_grows number (byte ∷ text) = omega (arith, value_grows (number * 10 + digit_value byte) text)

-- where the next byte doesn't fit, nothing is spelled
pub number_on-stops : (number byte : ℕ) (text : List ℕ) → with_one_more number byte ≡ None → number_on number (byte ∷ text) ≡ None
number_on-stops number byte text stops = grind (arith, nat_tests, value_grows (number * 10 + digit_value byte) text)

-- of 1 to 20 bytes only their digits and their value decide
pub number_of-fits : (text : List ℕ) → 0 < length text → length text ≤ 20 → number_of text ≡ number_on 0 text
unfolding spells_number
number_of-fits text some few = grind (arith, nat_tests)

-- no byte and more than 20 bytes spell nothing
pub number_of-empty : (text : List ℕ) → length text ≡ 0 → number_of text ≡ None
unfolding spells_number
number_of-empty text none = grind (arith, nat_tests)

pub number_of-long : (text : List ℕ) → 20 < length text → number_of text ≡ None
unfolding spells_number
number_of-long text long = grind (arith, nat_tests)

-- a number in decimal spells itself
pub number_of-decimal : (number : ℕ) → number < 2 ^ 64 → number_of (decimal number) ≡ Some number
unfolding spells_number
number_of-decimal number small =
    let own = numerals_by_value (λ text. all_ascii_digits text ≡ true) tells_all_ascii_digits in
    let digits : all_ascii_digits (decimal number) ≡ true = digits_decimal own number small in
    let value : digits_value 10 (decimal number) ≡ number = digits_value-decimal own number small in
    let some : 0 < length (decimal number) = decimal_nonempty number small in
    let short : length (decimal number) ≤ 20 = length-decimal-le 20 number (omega arith) (omega arith) small in
    grind (arith, nat_tests)

-- reading from digit to digit
pub ruleset number_steps = (nat_tests, drop_more, drop_all, number_of-fits, number_of-empty, number_of-long, number_on-stops)

pub ruleset number_laws = number_of-decimal
