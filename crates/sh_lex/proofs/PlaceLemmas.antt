-- A place's value, digit by digit.
use Rattle.std.proofs.Common.{◌≡◌, ◌<◌, ◌≤◌, ℕ, List, [], ◌∷◌, ◌++◌, ◌+◌, ◌-◌, ◌*◌, ◌^◌, true, Some, None, arith}
use Rattle.std.proofs.lemmas.Bool.Decides.{nat_tests}
use Rattle.std.proofs.lemmas.Int.Digits.{digits_value_push}
use Rattle.std.specs.Char.{digit_value}
use Rattle.std.specs.Char.{is_ascii_digit}
use Rattle.sh_lex.specs.Heads.{place_value}

-- a digit more
digit_is : (digit : ℕ) → is_ascii_digit digit ≡ true → (digit_value digit ≡ digit - 48) × ((48 ≤ digit) × (digit ≤ 57))
digit_is digit h = grind (arith, nat_tests)

pub place_value-one : (digit : ℕ) → is_ascii_digit digit ≡ true → place_value (digit ∷ []) ≡ Some (digit - 48)
place_value-one digit h = let (value, (low, high)) = digit_is digit h in grind (arith, nat_tests)

pub place_value-more : (digits : List ℕ) (value digit : ℕ) → is_ascii_digit digit ≡ true → place_value digits ≡ Some value
    → value * 10 + (digit - 48) < 2 ^ 32 → place_value (digits ++ digit ∷ []) ≡ Some (value * 10 + (digit - 48))
place_value-more digits value digit h before small =
    let (is, (low, high)) = digit_is digit h in
    let pushed = digits_value_push 10 digits digit in grind (arith, nat_tests)

pub place_value-large : (digits : List ℕ) (value digit : ℕ) → is_ascii_digit digit ≡ true → place_value digits ≡ Some value
    → 2 ^ 32 ≤ value * 10 + (digit - 48) → place_value (digits ++ digit ∷ []) ≡ None
place_value-large digits value digit h before large =
    let (is, (low, high)) = digit_is digit h in
    let pushed = digits_value_push 10 digits digit in grind (arith, nat_tests)

pub place_value-none : (digits : List ℕ) (digit : ℕ) → is_ascii_digit digit ≡ true → place_value digits ≡ None
    → place_value (digits ++ digit ∷ []) ≡ None
place_value-none digits digit h before =
    let (is, (low, high)) = digit_is digit h in
    let pushed = digits_value_push 10 digits digit in grind (arith, nat_tests)

pub ruleset values = (place_value-one, place_value-more, place_value-large, place_value-none)
