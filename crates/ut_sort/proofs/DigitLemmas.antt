-- The numbers that digits make are in the order of their lengths, and then of their bytes.
use Rattle.std.proofs.Common.{◌≡◌, ℕ, ◌+◌, ◌-◌, ◌*◌, ◌<◌, ◌≤◌, ◌==◌, ◌≢◌, ◌⊎◌, inl, inr, length, List, [], ◌∷◌, true, false, refl, ap, sym, ◌∙◌, arith, Ordering}
use Rattle.std.specs.List.{list_all}
use Rattle.std.specs.Char.{is_ascii_digit, digit_value}
use Rattle.std.specs.Cmp.{nat_cmp_is}
use Rattle.std.specs.Cmp.Lexicographic.{slice_cmp}
use Rattle.std.specs.Ordering.{nat_cmp, ordering_then, MatchOrdering}
use Rattle.std.specs.declared.cmp.Ordering.TheVariants.{Less, Equal, Greater}
use Rattle.std.specs.Str.Parse.{digits_value, digits_value_after}
use Rattle.std.proofs.lemmas.Bool.{and_parts, true≢false}
use Rattle.std.proofs.lemmas.Bool.Decides.{nat_tests, eqb_tells}
use Rattle.std.proofs.lemmas.Cmp.{ranked}
use Rattle.ut_sort.specs.Numbers.{begins}

pub record IsDigit (byte : ℕ) : Type 0 where
  pub low : 48 ≤ byte
  pub high : byte ≤ 57
  pub value : digit_value byte ≡ byte - 48

pub digit-is : (byte : ℕ) → is_ascii_digit byte ≡ true → IsDigit byte
digit-is byte is =
    let low : 48 ≤ byte = grind (arith, nat_tests) in
    let high : byte ≤ 57 = grind (arith, nat_tests) in
    let value : digit_value byte ≡ byte - 48 = grind (arith, nat_tests) in
    record { low = low; high = high; value = value }

then_assoc : (o p q : Ordering) → ordering_then (ordering_then o p) q ≡ ordering_then o (ordering_then p q)
then_assoc Less p q = refl
then_assoc Equal p q = refl
then_assoc Greater p q = refl

-- one more digit of each
one_more : (m n x y : ℕ) → IsDigit x → IsDigit y → ordering_then (nat_cmp m n) (nat_cmp x y) ≡ nat_cmp (m * 10 + digit_value x) (n * 10 + digit_value y)
one_more m n x y first second = rw (first.value, second.value) (by_both (nat_cmp m n) (nat_cmp x y) (ranked m n _ refl) (ranked x y _ refl))
  where
    by_both : (o p : Ordering) → MatchOrdering o (m < n) (m ≡ n) (n < m) → MatchOrdering p (x < y) (x ≡ y) (y < x)
        → ordering_then o p ≡ nat_cmp (m * 10 + (x - 48)) (n * 10 + (y - 48))
    by_both Less p low next =
        nat_cmp_is (m * 10 + (x - 48)) (n * 10 + (y - 48)) Less (omega (arith, first.low, first.high, second.low, second.high, low))
    by_both Greater p low next =
        nat_cmp_is (m * 10 + (x - 48)) (n * 10 + (y - 48)) Greater (omega (arith, first.low, first.high, second.low, second.high, low))
    by_both Equal Less same next =
        nat_cmp_is (m * 10 + (x - 48)) (n * 10 + (y - 48)) Less (omega (arith, first.low, first.high, second.low, second.high, same, next))
    by_both Equal Greater same next =
        nat_cmp_is (m * 10 + (x - 48)) (n * 10 + (y - 48)) Greater (omega (arith, first.low, first.high, second.low, second.high, same, next))
    by_both Equal Equal same next =
        nat_cmp_is (m * 10 + (x - 48)) (n * 10 + (y - 48)) Equal (omega (arith, first.low, first.high, second.low, second.high, same, next))

-- as many digits behind two numbers
as_many : (m n : ℕ) (xs ys : List ℕ) → list_all is_ascii_digit xs ≡ true → list_all is_ascii_digit ys ≡ true → length xs ≡ length ys
    → ordering_then (nat_cmp m n) (slice_cmp nat_cmp xs ys) ≡ nat_cmp (digits_value_after 10 m xs) (digits_value_after 10 n ys)
as_many m n [] [] first second same = end (nat_cmp m n)
  where
    end : (o : Ordering) → ordering_then o Equal ≡ o
    end Less = refl
    end Equal = refl
    end Greater = refl
as_many m n [] (y ∷ ys) first second same = absurd (omega (arith, same))
as_many m n (x ∷ xs) [] first second same = absurd (omega (arith, same))
as_many m n (x ∷ xs) (y ∷ ys) first second same =
    let digit = and_parts (is_ascii_digit x) (list_all is_ascii_digit xs) first in
    let digit' = and_parts (is_ascii_digit y) (list_all is_ascii_digit ys) second in
    sym (then_assoc (nat_cmp m n) (nat_cmp x y) (slice_cmp nat_cmp xs ys))
    ∙ ap (λ o. ordering_then o (slice_cmp nat_cmp xs ys)) (one_more m n x y (digit-is x digit.0) (digit-is y digit'.0))
    ∙ as_many (m * 10 + digit_value x) (n * 10 + digit_value y) xs ys digit.1 digit'.1 (omega (arith, same))

below_more : (n : ℕ) → 1 ≤ n → nat_cmp 0 n ≡ Less
below_more n some = sym (nat_cmp_is 0 n Less some)

-- fewer digits make a lesser number
same_size : (n : ℕ) (xs ys : List ℕ) → list_all is_ascii_digit xs ≡ true → list_all is_ascii_digit ys ≡ true → 1 ≤ n → length xs ≡ length ys
    → digits_value_after 10 0 xs < digits_value_after 10 n ys
same_size n xs ys first second some same =
    ranked (digits_value_after 10 0 xs) (digits_value_after 10 n ys) Less
    (ap (λ o. ordering_then o (slice_cmp nat_cmp xs ys)) (sym (below_more n some)) ∙ as_many 0 n xs ys first second same)

fewer : (n : ℕ) (xs ys : List ℕ) → list_all is_ascii_digit xs ≡ true → list_all is_ascii_digit ys ≡ true → 1 ≤ n → length xs ≤ length ys
    → digits_value_after 10 0 xs < digits_value_after 10 n ys
fewer n xs [] first second some few = same_size n xs [] first second some (omega (arith, few))
fewer n xs (y ∷ ys) first second some few =
    by_size (eqb_tells (length xs) (length (y ∷ ys)))
    (λ few. fewer (n * 10 + digit_value y) xs ys first (and_parts (is_ascii_digit y) (list_all is_ascii_digit ys) second).1 (omega (arith, some)) few)
  where
    by_size : (((length xs == length (y ∷ ys)) ≡ true) × (length xs ≡ length (y ∷ ys))) ⊎ (((length xs == length (y ∷ ys)) ≡ false) × (length xs ≢ length (y ∷ ys)))
        → (length xs ≤ length ys → digits_value_after 10 0 xs < digits_value_after 10 (n * 10 + digit_value y) ys)
        → digits_value_after 10 0 xs < digits_value_after 10 n (y ∷ ys)
    by_size (inl same) rest = same_size n xs (y ∷ ys) first second some same.1
    by_size (inr apart) rest = let other = apart.1 in rest (omega (arith, few, other))

-- and of numbers without zeros in front
fewer_digits : (xs ys : List ℕ) → list_all is_ascii_digit xs ≡ true → list_all is_ascii_digit ys ≡ true → begins 48 ys ≡ false → length xs < length ys
    → digits_value 10 xs < digits_value 10 ys
fewer_digits xs [] first second plain few = absurd (omega (arith, few))
fewer_digits xs (y ∷ ys) first second plain few =
    let digits = and_parts (is_ascii_digit y) (list_all is_ascii_digit ys) second in
    let digit = digit-is y digits.0 in
    let other : y ≢ 48 = λ same. true≢false (sym (ap (λ byte. byte == 48) same) ∙ plain) in
    fewer (0 * 10 + digit_value y) xs ys first digits.1 (rw digit.value (omega (arith, digit.low, other))) (omega (arith, few))

pub equal_lengths : (xs ys : List ℕ) → list_all is_ascii_digit xs ≡ true → list_all is_ascii_digit ys ≡ true → Equal ≡ nat_cmp (length xs) (length ys)
    → slice_cmp nat_cmp xs ys ≡ nat_cmp (digits_value 10 xs) (digits_value 10 ys)
equal_lengths xs ys first second same = as_many 0 0 xs ys first second (ranked (length xs) (length ys) Equal same)

pub other_lengths : (o : Ordering) (xs ys : List ℕ) → list_all is_ascii_digit xs ≡ true → list_all is_ascii_digit ys ≡ true
    → begins 48 xs ≡ false → begins 48 ys ≡ false → o ≡ nat_cmp (length xs) (length ys) → (o ≡ Equal → ⊥) → o ≡ nat_cmp (digits_value 10 xs) (digits_value 10 ys)
other_lengths Less xs ys first second plain plain' is apart =
    nat_cmp_is (digits_value 10 xs) (digits_value 10 ys) Less (fewer_digits xs ys first second plain' (ranked (length xs) (length ys) Less is))
other_lengths Equal xs ys first second plain plain' is apart = absurd (apart refl)
other_lengths Greater xs ys first second plain plain' is apart =
    nat_cmp_is (digits_value 10 xs) (digits_value 10 ys) Greater (fewer_digits ys xs second first plain (ranked (length xs) (length ys) Greater is))
