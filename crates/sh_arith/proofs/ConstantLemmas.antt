-- Digits counted with a cap: once the cap is reached, it stays.
use Rattle.std.proofs.Common.{◌≡◌, ℕ, zero, suc, ◌+◌, ◌-◌, ◌*◌, ◌^◌, ◌<◌, ◌≤◌, min, nat_eq, Bool, true, false, ◌&&◌, List, [], ◌∷◌, length, drop, get_or, Some, Err, pos, negsuc, ◌-ℤ◌, sym, ap, ◌∙◌, arith, inl, inr}
use Rattle.std.proofs.Math.Nat.{mul-le-mul_left}
use Rattle.std.proofs.lemmas.List.{at_drop_more, at_drop_all}
use Rattle.std.proofs.lemmas.Bool.Decides.{nat_tests}
use Rattle.std.proofs.lemmas.Bool.{lt-ltb, cases_lt}
use Rattle.std.proofs.lemmas.Int.{ints}
use Rattle.std.specs.Option.{option_map}
use Rattle.sh_arith.specs.Constants.{digit, are_digits, counted, number, from_zero}
use Rattle.sh_arith.specs.Operators.{in_range}
use Rattle.sh_arith.specs.declared.faults.ArithFault.TheVariants as fault

more_capped : (base cap a b d : ℕ) → 1 ≤ base → min a cap ≡ min b cap → min (a * base + d) cap ≡ min (b * base + d) cap
more_capped base cap a b d some same =
    elim (cases_lt a cap) [
      | inl below ↦ let equal : a ≡ b = omega arith in ap (λ n. min (n * base + d) cap) equal
      | inr reached ↦ omega (arith, mul-le-mul_left a some, mul-le-mul_left b some)
    ]

-- digits counted from two numbers that are one under the cap are one under it
pub counted_capped : (base cap a b : ℕ) (digits : List ℕ) → 1 ≤ base → min a cap ≡ min b cap → min (counted base a digits) cap ≡ min (counted base b digits) cap
counted_capped base cap a b [] some same = same
counted_capped base cap a b (byte ∷ rest) some same = counted_capped base cap (a * base + digit byte) (b * base + digit byte) rest some (more_capped base cap a b (digit byte) some same)

-- one digit more
pub counted_more : (base cap value next at : ℕ) (digits : List ℕ) → 1 ≤ base → at < length digits → next ≡ min (min (value * base) cap + digit (get_or digits at 0)) cap → min (counted base next (drop (at + 1) digits)) cap ≡ min (counted base value (drop at digits)) cap
counted_more base cap value next at digits some within is =
    let byte = get_or digits at 0 in
    let capped : min next cap ≡ min (value * base + digit byte) cap = omega arith in
    counted_capped base cap next (value * base + digit byte) (drop (at + 1) digits) some capped
    ∙ sym (ap (λ n. min n cap) (at_drop_more (counted base value) digits at 0 within))

pub are_digits_more : (base at : ℕ) (digits : List ℕ) → at < length digits → digit (get_or digits at 0) < base → are_digits base (drop (at + 1) digits) ≡ are_digits base (drop at digits)
are_digits_more base at digits within below =
    sym (at_drop_more (are_digits base) digits at 0 within ∙ ap (λ b. b && are_digits base (drop (at + 1) digits)) (lt-ltb _ _ below))

-- all digits are counted
pub number_counted : (base cap value at : ℕ) (digits : List ℕ) → nat_eq (length digits) 0 ≡ false → length digits ≤ at → are_digits base (drop at digits) ≡ are_digits base digits → min (counted base value (drop at digits)) cap ≡ min (counted base 0 digits) cap → value ≤ cap → Some value ≡ option_map (λ n. min n cap) (number base digits)
number_counted base cap value at [] some end good same small = cc
number_counted base cap value at (byte ∷ rest) some end good same small =
    let all = sym (at_drop_all (are_digits base) (byte ∷ rest) at end) ∙ good in
    let count = ap (λ n. min n cap) (sym (at_drop_all (counted base value) (byte ∷ rest) at end)) ∙ same in
    let under : min value cap ≡ value = omega arith in
    rw (← all) (ap (λ n. Some n) (sym under ∙ count))

far_below : (n : ℕ) → 2 ^ 63 ≤ n → in_range (negsuc n) ≡ Err fault.Overflow
far_below n far = grind (arith, nat_tests)

far_out : (negative : Bool) (n : ℕ) → 2 ^ 64 - 1 ≤ n → in_range (from_zero negative n) ≡ Err fault.Overflow
far_out true zero far = absurd (omega arith)
far_out true (suc n) far = let below : pos 0 -ℤ pos (suc n) ≡ negsuc n = omega (arith, ints) in ap in_range below ∙ far_below n (omega arith)
far_out false n far = grind (arith, nat_tests)

-- a number that is capped far outside the range is as much outside
pub from_zero_capped : (negative : Bool) (n : ℕ) → in_range (from_zero negative (min n (2 ^ 64 - 1))) ≡ in_range (from_zero negative n)
from_zero_capped negative n = elim (cases_lt n (2 ^ 64)) [
  | inl below ↦ let same : min n (2 ^ 64 - 1) ≡ n = omega arith in ap (λ m. in_range (from_zero negative m)) same
  | inr beyond ↦ far_out negative (min n (2 ^ 64 - 1)) (omega arith) ∙ sym (far_out negative n (omega arith))
]
