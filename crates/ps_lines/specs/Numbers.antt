-- Numbers in decimal (own: XBD 12.1 leaves the range of a number to each utility). The code reads digit by digit and stops at the first that does not fit.
use Rattle.std.specs.Prelude.{ℕ, ◌+◌, ◌*◌, ◌^◌, List, Bool, ◌&&◌, Option, Some, None, if◌then◌else◌, nat_lt, nat_le, length}
use Rattle.std.specs.Char.{digit_value, is_ascii_digit}
use Rattle.std.specs.Str.{all_ascii_digits}
use Rattle.std.specs.Str.Parse.{digits_value}

-- the text is 1 to 20 digits of a number below 2^64
unfoldable pub spells_number : List ℕ → Bool
spells_number text =
    nat_lt 0 (length text) && nat_le (length text) 20 && all_ascii_digits text && nat_lt (digits_value 10 text) (2 ^ 64)

-- the number that a text spells, or None
abbrev pub number_of : List ℕ → Option ℕ
number_of text = if spells_number text then Some (digits_value 10 text) else None

-- the number with one more digit at its end, where the byte is a digit and the number stays below 2^64
abbrev pub with_one_more : ℕ → ℕ → Option ℕ
with_one_more number byte =
    if is_ascii_digit byte && nat_lt (number * 10 + digit_value byte) (2 ^ 64) then Some (number * 10 + digit_value byte) else None
