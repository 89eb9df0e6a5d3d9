-- Digits at the ends of numbers, and the numbers that they make.
use Rattle.std.proofs.Common.{◌≡◌, ℕ, ◌+◌, ◌*◌, ◌≤◌, ◌==◌, ◌&&◌, List, [], ◌∷◌, ◌++◌, true, false, if◌then◌else◌, refl, ap, ◌∙◌, arith}
use Rattle.std.specs.Char.{digit_value}
use Rattle.std.specs.Str.Parse.{digits_value_after}
use Rattle.ps_lines.specs.Lines.{is_empty}
use Rattle.ut_sort.specs.Numbers.{without_end_zeros}

-- a zero at the end is left out, and any other digit keeps all before it
pub dropped : (front : List ℕ) (digit : ℕ) → (digit == 48) ≡ true → without_end_zeros (front ++ digit ∷ []) ≡ without_end_zeros front
dropped [] digit zero = rw zero refl
dropped (first ∷ front) digit zero =
    ap (λ rest. if is_empty rest && (first == 48) then [] else first ∷ rest) (dropped front digit zero)

some : (front : List ℕ) (digit : ℕ) → is_empty (front ++ digit ∷ []) ≡ false
some [] digit = refl
some (first ∷ front) digit = refl

pub stays : (front : List ℕ) (digit : ℕ) → (digit == 48) ≡ false → without_end_zeros (front ++ digit ∷ []) ≡ front ++ digit ∷ []
stays [] digit other = rw other refl
stays (first ∷ front) digit other =
    ap (λ rest. if is_empty rest && (first == 48) then [] else first ∷ rest) (stays front digit other) ∙ (rw (some front digit) refl)

pub ruleset end_zeros = (dropped, stays)

-- more digits make no lesser number
pub digits_least : (number : ℕ) (digits : List ℕ) → number ≤ digits_value_after 10 number digits
digits_least number [] = omega arith
digits_least number (digit ∷ digits) = let rest = digits_least (number * 10 + digit_value digit) digits in omega (arith, rest)
