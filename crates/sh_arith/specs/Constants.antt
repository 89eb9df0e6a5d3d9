-- Constants (XCU 2.6.4: those of ISO C, decimal, octal and hexadecimal), and the numbers that variables hold.
use Rattle.std.specs.Prelude.{ℕ, ◌+◌, ◌-◌, ◌*◌, ◌==◌, ◌&&◌, ◌||◌, nat_le, nat_lt, Bool, true, false, List, [], ◌∷◌, Option, Some, None, option_map, if◌then◌else◌, ℤ, pos, ◌+ℤ◌, ◌-ℤ◌, Result, Err}
use Rattle.std.specs.Option.{option_map_or}
use Rattle.sh_arith.specs.declared.faults.ArithFault.{ArithFault}
use Rattle.sh_arith.specs.declared.faults.ArithFault.TheVariants as fault
use Rattle.sh_arith.specs.Operators.{in_range}
use Rattle.std.specs.Char.{is_ascii_digit}

-- what a digit counts, of those below 16; 16 for another byte
abbrev pub digit : ℕ → ℕ
digit byte =
    if is_ascii_digit byte then byte - 48
    else (if nat_le 97 byte && nat_le byte 102 then byte - 87
    else (if nat_le 65 byte && nat_le byte 70 then byte - 55 else 16))

-- the digits are all below the base
abbrev pub are_digits : ℕ → List ℕ → Bool
are_digits base [] = true
are_digits base (byte ∷ rest) = nat_lt (digit byte) base && are_digits base rest

-- what the digits count, after those before them
abbrev pub counted : ℕ → ℕ → List ℕ → ℕ
counted base before [] = before
counted base before (byte ∷ rest) = counted base (before * base + digit byte) rest

-- the number that digits write, if there is a digit and all are below the base
abbrev pub number : ℕ → List ℕ → Option ℕ
number base [] = None
number base (byte ∷ rest) = if are_digits base (byte ∷ rest) then Some (counted base 0 (byte ∷ rest)) else None

-- after a leading `0`: `x` or `X` and hexadecimal digits, else octal ones
abbrev pub after_zero : List ℕ → Option ℕ
after_zero [] = Some 0
after_zero (byte ∷ rest) = if byte == 120 || byte == 88 then number 16 rest else number 8 (byte ∷ rest)

-- the number that a word writes as a constant
abbrev pub constant : List ℕ → Option ℕ
constant [] = None
constant (byte ∷ rest) = if byte == 48 then after_zero rest else number 10 (byte ∷ rest)

-- the number that is this far from 0
abbrev pub from_zero : Bool → ℕ → ℤ
from_zero negative far = if negative then pos 0 -ℤ pos far else pos 0 +ℤ pos far

-- what a variable's text writes, a constant with an optional sign: whether it is negative, and how far from 0
abbrev pub written : List ℕ → Option (Bool × ℕ)
written [] = Some (false, 0)
written (byte ∷ rest) =
    if byte == 45 then option_map (λ n. (true, n)) (constant rest)
    else (if byte == 43 then option_map (λ n. (false, n)) (constant rest)
    else option_map (λ n. (false, n)) (constant (byte ∷ rest)))

-- the value of a word that is a constant
abbrev pub constant_value : List ℕ → Result ℤ ArithFault
constant_value word = option_map_or (λ n. in_range (from_zero false n)) (constant word) (Err fault.Syntax)

-- the value of a variable that has this text; an empty text is 0 (own)
abbrev pub variable_value : List ℕ → List ℕ → Result ℤ ArithFault
variable_value name text = option_map_or (λ w. in_range (from_zero w.0 w.1)) (written text) (Err (fault.NotANumber name))
