-- Numbers in words: those of options (own: below 2^63) and those of `test` (XCU test: "integers"; own: 64 bits with sign). The code reads
-- digit by digit, and stops at the first that does not fit.
use Rattle.std.specs.Prelude.{ℕ, ◌+◌, ◌*◌, ◌-◌, ◌^◌, ◌==◌, nat_le, ◌&&◌, List, [], ◌∷◌, Option, Some, None, option_map, if◌then◌else◌, ℤ, pos, neg_ℤ}
use Rattle.std.specs.Char.{digit_value, is_ascii_digit}
use Rattle.std.specs.Str.{all_ascii_digits}
use Rattle.std.specs.Str.Parse.{digits_value}

-- the number that one or more digits write in decimal, where it is at most `most`
abbrev pub digits_up_to : ℕ → List ℕ → Option ℕ
digits_up_to most [] = None
digits_up_to most (byte ∷ rest) =
    if all_ascii_digits (byte ∷ rest) && nat_le (digits_value 10 (byte ∷ rest)) most then Some (digits_value 10 (byte ∷ rest)) else None

-- the number of an option: one or more digits, leading zeros among them
abbrev pub option_number : List ℕ → Option ℕ
option_number text = digits_up_to (2 ^ 63 - 1) text

-- the number of digits behind a minus sign, and behind a plus sign or none
abbrev pub behind_minus : List ℕ → Option ℤ
behind_minus digits = option_map (λ number. neg_ℤ (pos number)) (digits_up_to (2 ^ 63) digits)

abbrev pub behind_plus : List ℕ → Option ℤ
behind_plus digits = option_map (λ number. pos number) (digits_up_to (2 ^ 63 - 1) digits)

-- the number that a text spells: an optional sign, and digits
abbrev pub number_of : List ℕ → Option ℤ
number_of [] = None
number_of (byte ∷ rest) =
    if byte == 45 then behind_minus rest else
    if byte == 43 then behind_plus rest else
    behind_plus (byte ∷ rest)

-- between the steps of the code: the number with one more digit at its end
abbrev pub with_one_more : ℕ → ℕ → ℕ → Option ℕ
with_one_more most number byte =
    if is_ascii_digit byte && nat_le (number * 10 + digit_value byte) most then Some (number * 10 + digit_value byte) else None
