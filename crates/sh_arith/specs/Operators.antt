-- What the operators compute (XCU 2.6.4, XBD 1.1.2.1), on whole numbers of 64 bits with sign.
use Rattle.std.specs.Prelude.{ℕ, ◌^◌, nat_lt, ◌==◌, Bool, false, ◌&&◌, ◌||◌, not, if◌then◌else◌, ℤ, pos, negsuc, neg_ℤ, ◌+ℤ◌, ◌-ℤ◌, ◌*ℤ◌, Result, Ok, Err}
use Rattle.std.specs.Int.{w64, int_bit_and, int_bit_or, int_bit_xor, int_bit_not, int_shr}
use Rattle.std.specs.Int.RustNames.{int_lt, int_le, int_div, int_rem}
use Rattle.sh_arith.specs.declared.operators.Operator.{Operator}
use Rattle.sh_arith.specs.declared.operators.Operator.TheVariants as operator
use Rattle.sh_arith.specs.declared.operators.Prefix.{Prefix}
use Rattle.sh_arith.specs.declared.operators.Prefix.TheVariants as prefix
use Rattle.sh_arith.specs.declared.faults.ArithFault.{ArithFault}
use Rattle.sh_arith.specs.declared.faults.ArithFault.TheVariants as fault

-- the number has 64 bits with sign
abbrev pub fits : ℤ → Bool
fits (pos n) = nat_lt n (2 ^ 63)
fits (negsuc n) = nat_lt n (2 ^ 63)

-- a result: the number, where it fits
abbrev pub in_range : ℤ → Result ℤ ArithFault
in_range n = if fits n then Ok n else Err fault.Overflow

abbrev pub is_zero : ℤ → Bool
is_zero (pos n) = n == 0
is_zero (negsuc n) = false

-- 1 or 0
abbrev pub truth : Bool → ℤ
truth holds = if holds then pos 1 else pos 0

-- a shift by a count from 0 to 63
abbrev pub shifted : (ℕ → Result ℤ ArithFault) → ℤ → Result ℤ ArithFault
shifted shift (pos n) = if nat_lt n 64 then shift n else Err fault.Overflow
shifted shift (negsuc n) = Err fault.Overflow

abbrev pub unless_zero : ℤ → Result ℤ ArithFault → Result ℤ ArithFault
unless_zero divisor quotient = if is_zero divisor then Err fault.DivideByZero else quotient

-- what a binary operator computes; `/` goes towards zero, and `%` has the dividend's sign
abbrev pub applied : Operator → ℤ → ℤ → Result ℤ ArithFault
applied operator.Multiply a b = in_range (a *ℤ b)
applied operator.Divide a b = unless_zero b (in_range (int_div a b))
applied operator.Remainder a b = unless_zero b (Ok (int_rem a b))
applied operator.Add a b = in_range (a +ℤ b)
applied operator.Subtract a b = in_range (a -ℤ b)
applied operator.ShiftLeft a b = shifted (λ n. in_range (a *ℤ pos (2 ^ n))) b
applied operator.ShiftRight a b = shifted (λ n. Ok (int_shr a n)) b
applied operator.Less a b = Ok (truth (int_lt a b))
applied operator.LessOrEqual a b = Ok (truth (int_le a b))
applied operator.Greater a b = Ok (truth (int_lt b a))
applied operator.GreaterOrEqual a b = Ok (truth (int_le b a))
applied operator.Equal a b = Ok (truth (is_zero (a -ℤ b)))
applied operator.NotEqual a b = Ok (truth (not (is_zero (a -ℤ b))))
applied operator.BitAnd a b = Ok (int_bit_and w64 a b)
applied operator.BitXor a b = Ok (int_bit_xor w64 a b)
applied operator.BitOr a b = Ok (int_bit_or w64 a b)
applied operator.And a b = Ok (truth (not (is_zero a) && not (is_zero b)))
applied operator.Or a b = Ok (truth (not (is_zero a) || not (is_zero b)))

-- what a unary operator computes
abbrev pub prefixed : Prefix → ℤ → Result ℤ ArithFault
prefixed prefix.Plus a = Ok a
prefixed prefix.Minus a = in_range (neg_ℤ a)
prefixed prefix.Complement a = Ok (int_bit_not w64 a)
prefixed prefix.Not a = Ok (truth (is_zero a))
