-- A lesser number is of a line that is before, and the same number of equal keys where it is exact.
use Rattle.std.proofs.Common.{◌≡◌, ℕ, zero, suc, ◌+◌, ◌-◌, ◌*◌, ◌%◌, ◌<◌, ◌≤◌, ◌==◌, ◌&&◌, ◌⊎◌, inl, inr, List, [], ◌∷◌, length, drop, min, nat_lt, Bool, true, false, if◌then◌else◌, Option, refl, ap, sym, ◌∙◌, arith, Ordering, subst, get_or}
use Rattle.std.specs.Char.{is_ascii_digit}
use Rattle.std.specs.Cmp.Lexicographic.{slice_cmp}
use Rattle.std.specs.declared.cmp.Ordering.TheVariants.{Less, Equal, Greater}
use Rattle.std.specs.Ordering.{nat_cmp, ordering_then, MatchOrdering}
use Rattle.std.specs.Ordering.{is_lt}
use Rattle.std.specs.Cmp.{nat_cmp_is}
use Rattle.std.proofs.lemmas.Bool.{true≢false}
use Rattle.std.proofs.lemmas.Bool.Decides.{nat_tests}
use Rattle.std.proofs.lemmas.Cmp.{ranked, tied_itself, nat_cmp_total, nat_list_cmp_total}
use Rattle.ps_lines.specs.Lines.{is_empty}
use Rattle.ut_args.specs.Keys.{behind_digits, digits_front}
use Rattle.ut_args.specs.declared.Key.{Key}
use Rattle.ut_args.specs.declared.Ordering.{Ordering as Letters}
use Rattle.ut_sort.specs.Numbers.{above_zero, below_zero, behind_first, begins, fraction, numbers_cmp, sizes_cmp, whole, without_end_zeros}
use Rattle.ut_fields.specs.Fields.{behind_blanks}
use Rattle.ut_sort.specs.Keys.{bytes_cmp, folded, texts_cmp, directed, letters_of, key_in, key_cmp, keys_cmp}
use Rattle.ut_sort.specs.Order.{last_cmp}
use Rattle.ut_sort.specs.LineOrders.{cmp_by, number_by}
use Rattle.ut_sort.specs.Prefixes.{first_byte, prefix_after, packed, prefix, text_number, size_number, value_number, letters_number, directed_number, key_number, keys_number, distance, is_exact, first_letters, AreBytes, IsKey, FirstKey}
use Rattle.ut_sort.specs.declared.line_orders.LineOrder.{LineOrder}
use Rattle.ut_sort.proofs.DigitLemmas.{digit-is}

bytes-first : (text : List ℕ) → AreBytes text → first_byte text < 256
bytes-first [] are = omega arith
bytes-first (byte ∷ rest) are = are.0

bytes-behind : (text : List ℕ) → AreBytes text → AreBytes (behind_first text)
bytes-behind [] are = tt
bytes-behind (byte ∷ rest) are = are.1

-- a lesser number in front decides
prefix-less : (count m n : ℕ) (xs ys : List ℕ) → AreBytes xs → AreBytes ys → m < n → prefix_after count m xs < prefix_after count n ys
prefix-less zero m n xs ys are are' less = less
prefix-less (suc count) m n xs ys are are' less =
    let first = bytes-first xs are in
    let first' = bytes-first ys are' in
    prefix-less count (m * 256 + first_byte xs) (n * 256 + first_byte ys) (behind_first xs) (behind_first ys) (bytes-behind xs are) (bytes-behind ys are')
    (omega (arith, less, first, first'))

-- nothing is before the end
not_before_end : (xs : List ℕ) → slice_cmp nat_cmp xs [] ≡ Less → ⊥
not_before_end [] is = true≢false (sym (ap is_lt is))
not_before_end (x ∷ xs) is = true≢false (sym (ap is_lt is))

prefix-decides : (count m : ℕ) (xs ys : List ℕ) → AreBytes xs → AreBytes ys → prefix_after count m xs < prefix_after count m ys → slice_cmp nat_cmp xs ys ≡ Less
prefix-decides zero m xs ys are are' less = absurd (omega (arith, less))
prefix-decides (suc count) m [] [] are are' less = absurd (omega (arith, less))
prefix-decides (suc count) m [] (y ∷ ys) are are' less = refl
prefix-decides (suc count) m (x ∷ xs) [] are are' less =
    absurd (by_cmp (nat_cmp 0 x) (ranked 0 x _ refl) less (prefix-decides count (m * 256 + 0) xs [] are.1 tt))
  where
    by_cmp : (o : Ordering) → MatchOrdering o (0 < x) (0 ≡ x) (x < 0) → prefix_after count (m * 256 + x) xs < prefix_after count (m * 256 + 0) []
        → (prefix_after count (m * 256 + 0) xs < prefix_after count (m * 256 + 0) [] → slice_cmp nat_cmp xs [] ≡ Less) → ⊥
    by_cmp Less low less rest =
        let back = prefix-less count (m * 256 + 0) (m * 256 + x) [] xs tt are.1 (omega (arith, low)) in omega (arith, less, back)
    by_cmp Equal same less rest =
        not_before_end xs (rest (subst (λ byte. prefix_after count (m * 256 + byte) xs < prefix_after count (m * 256 + 0) []) (sym same) less))
    by_cmp Greater low less rest = omega (arith, low)
prefix-decides (suc count) m (x ∷ xs) (y ∷ ys) are are' less =
    by_cmp (nat_cmp x y) (ranked x y _ refl) less (prefix-decides count (m * 256 + x) xs ys are.1 are'.1)
  where
    by_cmp : (o : Ordering) → MatchOrdering o (x < y) (x ≡ y) (y < x) → prefix_after count (m * 256 + x) xs < prefix_after count (m * 256 + y) ys
        → (prefix_after count (m * 256 + x) xs < prefix_after count (m * 256 + x) ys → slice_cmp nat_cmp xs ys ≡ Less)
        → ordering_then o (slice_cmp nat_cmp xs ys) ≡ Less
    by_cmp Less low less rest = refl
    by_cmp Equal same less rest =
        rest (subst (λ byte. prefix_after count (m * 256 + x) xs < prefix_after count (m * 256 + byte) ys) (sym same) less)
    by_cmp Greater low less rest =
        let back = prefix-less count (m * 256 + y) (m * 256 + x) ys xs are'.1 are.1 (omega (arith, low)) in absurd (omega (arith, less, back))

-- where the bytes are the same, the shorter text is before
prefix-shorter : (count m : ℕ) (xs ys : List ℕ) → AreBytes xs → AreBytes ys → prefix_after count m xs ≡ prefix_after count m ys
    → length xs < length ys → length xs ≤ count → slice_cmp nat_cmp xs ys ≡ Less
prefix-shorter count m [] [] are are' same less few = absurd (omega (arith, less))
prefix-shorter count m [] (y ∷ ys) are are' same less few = refl
prefix-shorter count m (x ∷ xs) [] are are' same less few = absurd (omega (arith, less))
prefix-shorter zero m (x ∷ xs) (y ∷ ys) are are' same less few = absurd (omega (arith, few))
prefix-shorter (suc count) m (x ∷ xs) (y ∷ ys) are are' same less few =
    by_cmp (nat_cmp x y) (ranked x y _ refl) same
    (λ same. prefix-shorter count (m * 256 + x) xs ys are.1 are'.1 same (omega (arith, less)) (omega (arith, few)))
  where
    by_cmp : (o : Ordering) → MatchOrdering o (x < y) (x ≡ y) (y < x) → prefix_after count (m * 256 + x) xs ≡ prefix_after count (m * 256 + y) ys
        → (prefix_after count (m * 256 + x) xs ≡ prefix_after count (m * 256 + x) ys → slice_cmp nat_cmp xs ys ≡ Less)
        → ordering_then o (slice_cmp nat_cmp xs ys) ≡ Less
    by_cmp Less low same rest = refl
    by_cmp Equal equal same rest =
        rest (subst (λ byte. prefix_after count (m * 256 + x) xs ≡ prefix_after count (m * 256 + byte) ys) (sym equal) same)
    by_cmp Greater low same rest =
        let back = prefix-less count (m * 256 + y) (m * 256 + x) ys xs are'.1 are.1 (omega (arith, low)) in absurd (omega (arith, same, back))

record AreSame (m n : ℕ) (xs ys : List ℕ) : Type 0 where
  number : m ≡ n
  text : xs ≡ ys

-- and texts that aren't longer are the same
prefix-same : (count m n : ℕ) (xs ys : List ℕ) → AreBytes xs → AreBytes ys → prefix_after count m xs ≡ prefix_after count n ys
    → length xs ≡ length ys → length xs ≤ count → AreSame m n xs ys
prefix-same zero m n [] [] are are' same size few = record { number = same; text = refl }
prefix-same (suc count) m n [] [] are are' same size few =
    let rest = prefix-same count (m * 256 + 0) (n * 256 + 0) [] [] tt tt same refl (omega arith) in
    let number = rest.number in
    record { number = omega (arith, number); text = refl }
prefix-same count m n [] (y ∷ ys) are are' same size few = absurd (omega (arith, size))
prefix-same count m n (x ∷ xs) [] are are' same size few = absurd (omega (arith, size))
prefix-same zero m n (x ∷ xs) (y ∷ ys) are are' same size few = absurd (omega (arith, few))
prefix-same (suc count) m n (x ∷ xs) (y ∷ ys) are are' same size few =
    let rest = prefix-same count (m * 256 + x) (n * 256 + y) xs ys are.1 are'.1 same (omega (arith, size)) (omega (arith, few)) in
    let number = rest.number in
    let small = are.0 in
    let small' = are'.0 in
    let first : x ≡ y = omega (arith, number, small, small') in
    record { number = omega (arith, number, small, small'); text = λ i. first i ∷ rest.text i }

-- the numbers in front first, and then the texts
prefix-order : (count m n : ℕ) (xs ys : List ℕ) → AreBytes xs → AreBytes ys → prefix_after count m xs < prefix_after count n ys
    → ordering_then (nat_cmp m n) (slice_cmp nat_cmp xs ys) ≡ Less
prefix-order count m n xs ys are are' less = by_cmp (nat_cmp m n) (ranked m n _ refl)
  where
    by_cmp : (o : Ordering) → MatchOrdering o (m < n) (m ≡ n) (n < m) → ordering_then o (slice_cmp nat_cmp xs ys) ≡ Less
    by_cmp Less low = refl
    by_cmp Equal same = prefix-decides count m xs ys are are' (subst (λ number. prefix_after count m xs < prefix_after count number ys) (sym same) less)
    by_cmp Greater low = let back = prefix-less count n m ys xs are' are low in absurd (omega (arith, less, back))

prefix-ends : (count m n : ℕ) (xs ys : List ℕ) → AreBytes xs → AreBytes ys → prefix_after count m xs ≡ prefix_after count n ys
    → length xs < length ys → length xs ≤ count → ordering_then (nat_cmp m n) (slice_cmp nat_cmp xs ys) ≡ Less
prefix-ends count m n xs ys are are' same less few = by_cmp (nat_cmp m n) (ranked m n _ refl)
  where
    by_cmp : (o : Ordering) → MatchOrdering o (m < n) (m ≡ n) (n < m) → ordering_then o (slice_cmp nat_cmp xs ys) ≡ Less
    by_cmp Less low = refl
    by_cmp Equal equal = prefix-shorter count m xs ys are are' (subst (λ number. prefix_after count m xs ≡ prefix_after count number ys) (sym equal) same) less few
    by_cmp Greater low = let back = prefix-less count n m ys xs are' are low in absurd (omega (arith, same, back))

packed-order : (count m n : ℕ) (xs ys : List ℕ) → AreBytes xs → AreBytes ys
    → (prefix_after count m xs < prefix_after count n ys) ⊎ ((prefix_after count m xs ≡ prefix_after count n ys) × (min (length xs) (suc count) < min (length ys) (suc count)))
    → ordering_then (nat_cmp m n) (slice_cmp nat_cmp xs ys) ≡ Less
packed-order count m n xs ys are are' (inl less) = prefix-order count m n xs ys are are' less
packed-order count m n xs ys are are' (inr both) =
    let size = both.1 in
    prefix-ends count m n xs ys are are' both.0 (omega (arith, size)) (omega (arith, size))

packed-same : (count m n : ℕ) (xs ys : List ℕ) → AreBytes xs → AreBytes ys → prefix_after count m xs ≡ prefix_after count n ys
    → min (length xs) (suc count) ≡ min (length ys) (suc count) → min (length xs) (suc count) ≤ count → AreSame m n xs ys
packed-same count m n xs ys are are' same size few = prefix-same count m n xs ys are are' same (omega (arith, size, few)) (omega (arith, few))

-- a text
apart_256 : (p q a b : ℕ) → b < 256 → p * 256 + a < q * 256 + b → (p < q) ⊎ ((p ≡ q) × (a < b))
apart_256 p q a b small less = by_cmp (nat_cmp p q) (ranked p q _ refl)
  where
    by_cmp : (o : Ordering) → MatchOrdering o (p < q) (p ≡ q) (q < p) → (p < q) ⊎ ((p ≡ q) × (a < b))
    by_cmp Less low = inl low
    by_cmp Equal same = inr (same, omega (arith, less, same))
    by_cmp Greater low = absurd (omega (arith, less, small, low))

prefix-from : (text : List ℕ) → prefix_after 7 0 text ≡ prefix text
unfolding prefix
prefix-from text = ap (λ number. prefix_after 6 number (behind_first text)) zero_more
  where
    zero_more : 0 * 256 + first_byte text ≡ first_byte text
    zero_more = omega arith

less_text : (xs ys : List ℕ) → AreBytes xs → AreBytes ys → text_number xs < text_number ys → bytes_cmp xs ys ≡ Less
less_text xs ys are are' less =
    packed-order 7 0 0 xs ys are are'
    (rw (prefix-from xs, prefix-from ys) (apart_256 (prefix xs) (prefix ys) (min (length xs) 8) (min (length ys) 8) (omega arith) less))

same_text : (xs ys : List ℕ) → AreBytes xs → AreBytes ys → text_number xs ≡ text_number ys → nat_lt (text_number xs % 256) 8 ≡ true → xs ≡ ys
same_text xs ys are are' same exact =
    let short : text_number xs % 256 < 8 = grind (arith, nat_tests) in
    let first : prefix xs ≡ prefix ys = omega (arith, same) in
    let size : min (length xs) 8 ≡ min (length ys) 8 = omega (arith, same) in
    let few : min (length xs) 8 ≤ 7 = omega (arith, short) in
    (packed-same 7 0 0 xs ys are are' (prefix-from xs ∙ first ∙ sym (prefix-from ys)) size few).text

-- a number without a sign
digits-bytes : (text : List ℕ) → AreBytes (digits_front text)
digits-bytes [] = tt
digits-bytes (byte ∷ rest) = by_digit (is_ascii_digit byte) refl (digits-bytes rest)
  where
    by_digit : (digit : Bool) → is_ascii_digit byte ≡ digit → AreBytes (digits_front rest) → AreBytes (if digit then byte ∷ digits_front rest else [])
    by_digit true digit are = let high = (digit-is byte digit).high in (omega (arith, high), are)
    by_digit false digit are = tt

end_zeros-bytes : (digits : List ℕ) → AreBytes digits → AreBytes (without_end_zeros digits)
end_zeros-bytes [] are = tt
end_zeros-bytes (digit ∷ digits) are = by_zero (is_empty (without_end_zeros digits) && (digit == 48)) (end_zeros-bytes digits are.1)
  where
    by_zero : (zero : Bool) → AreBytes (without_end_zeros digits) → AreBytes (if zero then [] else digit ∷ without_end_zeros digits)
    by_zero true rest = tt
    by_zero false rest = (are.0, rest)

fraction-bytes : (text : List ℕ) → AreBytes (fraction text)
fraction-bytes text = by_point (begins 46 (behind_digits text))
  where
    by_point : (point : Bool) → AreBytes (if point then without_end_zeros (digits_front (behind_first (behind_digits text))) else [])
    by_point true = end_zeros-bytes (digits_front (behind_first (behind_digits text))) (digits-bytes (behind_first (behind_digits text)))
    by_point false = tt

apart_4 : (p q a b : ℕ) → b < 4 → p * 4 + a < q * 4 + b → (p < q) ⊎ ((p ≡ q) × (a < b))
apart_4 p q a b small less = by_cmp (nat_cmp p q) (ranked p q _ refl)
  where
    by_cmp : (o : Ordering) → MatchOrdering o (p < q) (p ≡ q) (q < p) → (p < q) ⊎ ((p ≡ q) × (a < b))
    by_cmp Less low = inl low
    by_cmp Equal same = inr (same, omega (arith, less, same))
    by_cmp Greater low = absurd (omega (arith, less, small, low))

-- small numbers have less than those that are too large
packed-small : (m : ℕ) (xs : List ℕ) → AreBytes xs → m < 8796093022208 → packed 2 4 m xs < 2305843009213693952
packed-small m xs are small =
    let first = bytes-first xs are in
    let second = bytes-first (behind_first xs) (bytes-behind xs are) in
    omega (arith, first, second, small)

module _ (one other : List ℕ) where
  abbrev Sizes : Bool → Bool → ℕ × ℕ
  Sizes small small' = (
    if small then packed 2 4 (whole one) (fraction one) else 2305843009213693955,
    if small' then packed 2 4 (whole other) (fraction other) else 2305843009213693955,
  )

  less_size : size_number one < size_number other → sizes_cmp one other ≡ Less
  less_size less = by_small (nat_lt (whole one) 8796093022208) (nat_lt (whole other) 8796093022208) refl refl less
    where
      by_small : (small small' : Bool) → nat_lt (whole one) 8796093022208 ≡ small → nat_lt (whole other) 8796093022208 ≡ small'
          → (Sizes small small').0 < (Sizes small small').1 → sizes_cmp one other ≡ Less
      by_small true true is is' less =
          packed-order 2 (whole one) (whole other) (fraction one) (fraction other) (fraction-bytes one) (fraction-bytes other)
          (apart_4 (prefix_after 2 (whole one) (fraction one)) (prefix_after 2 (whole other) (fraction other)) (min (length (fraction one)) 3) (min (length (fraction other)) 3)
          (omega arith) less)
      by_small true false is is' less =
          let low : whole one < 8796093022208 = grind (arith, nat_tests) in
          let high : 8796093022208 ≤ whole other = grind (arith, nat_tests) in
          ap (λ o. ordering_then o (slice_cmp nat_cmp (fraction one) (fraction other))) (sym (nat_cmp_is (whole one) (whole other) Less (omega (arith, low, high))))
      by_small false true is is' less =
          let high : whole other < 8796093022208 = grind (arith, nat_tests) in
          let bound = packed-small (whole other) (fraction other) (fraction-bytes other) high in absurd (omega (arith, less, bound))
      by_small false false is is' less = absurd (omega (arith, less))

  same_size : size_number one ≡ size_number other → size_number one % 4 < 3 → sizes_cmp one other ≡ Equal
  same_size same exact = by_small (nat_lt (whole one) 8796093022208) (nat_lt (whole other) 8796093022208) refl refl same exact
    where
      by_small : (small small' : Bool) → nat_lt (whole one) 8796093022208 ≡ small → nat_lt (whole other) 8796093022208 ≡ small'
          → (Sizes small small').0 ≡ (Sizes small small').1 → (Sizes small small').0 % 4 < 3 → sizes_cmp one other ≡ Equal
      by_small true true is is' same exact =
          let p = prefix_after 2 (whole one) (fraction one) in
          let q = prefix_after 2 (whole other) (fraction other) in
          let first : prefix_after 2 (whole one) (fraction one) ≡ prefix_after 2 (whole other) (fraction other) = omega (arith, same) in
          let size : min (length (fraction one)) 3 ≡ min (length (fraction other)) 3 = omega (arith, same) in
          let few : min (length (fraction one)) 3 ≤ 2 = omega (arith, exact) in
          let are = packed-same 2 (whole one) (whole other) (fraction one) (fraction other) (fraction-bytes one) (fraction-bytes other) first size few in
          (λ i. ordering_then (nat_cmp (whole one) (sym are.number i)) (slice_cmp nat_cmp (fraction one) (sym are.text i)))
          ∙ ap (λ o. ordering_then o (slice_cmp nat_cmp (fraction one) (fraction one))) (tied_itself nat_cmp_total (whole one))
          ∙ tied_itself nat_list_cmp_total (fraction one)
      by_small true false is is' same exact =
          let high : whole one < 8796093022208 = grind (arith, nat_tests) in
          let bound = packed-small (whole one) (fraction one) (fraction-bytes one) high in absurd (omega (arith, same, bound))
      by_small false true is is' same exact = absurd (omega (arith, exact))
      by_small false false is is' same exact = absurd (omega (arith, exact))

size-most : (text : List ℕ) → size_number text ≤ 2305843009213693955
size-most text = by_small (nat_lt (whole text) 8796093022208) refl
  where
    by_small : (small : Bool) → nat_lt (whole text) 8796093022208 ≡ small → (if small then packed 2 4 (whole text) (fraction text) else 2305843009213693955) ≤ 2305843009213693955
    by_small true is =
        let high : whole text < 8796093022208 = grind (arith, nat_tests) in
        let bound = packed-small (whole text) (fraction text) (fraction-bytes text) high in omega (arith, bound)
    by_small false is = omega arith

-- a number: one of its sizes above and below zero is none
one_sided : (text : List ℕ) → (size_number (above_zero text) ≡ 0) ⊎ (size_number (below_zero text) ≡ 0)
one_sided text = by_sign (begins 45 (behind_blanks text))
  where
    by_sign : (minus : Bool) → (size_number (if minus then [] else behind_blanks text) ≡ 0) ⊎ (size_number (if minus then behind_first (behind_blanks text) else []) ≡ 0)
    by_sign true = inl refl
    by_sign false = inr refl

less_value : (one other : List ℕ) → value_number one < value_number other → numbers_cmp one other ≡ Less
less_value one other less =
    by_cmp (nat_cmp (size_number (above_zero one)) (size_number (above_zero other)))
    (ranked (size_number (above_zero one)) (size_number (above_zero other)) _ refl) (one_sided one) (one_sided other)
  where
    by_cmp : (o : Ordering)
        → MatchOrdering o (size_number (above_zero one) < size_number (above_zero other)) (size_number (above_zero one) ≡ size_number (above_zero other))
        (size_number (above_zero other) < size_number (above_zero one))
        → (size_number (above_zero one) ≡ 0) ⊎ (size_number (below_zero one) ≡ 0) → (size_number (above_zero other) ≡ 0) ⊎ (size_number (below_zero other) ≡ 0)
        → numbers_cmp one other ≡ Less
    by_cmp Less low side side' =
        ap (λ o. ordering_then o (sizes_cmp (below_zero other) (below_zero one))) (less_size (above_zero one) (above_zero other) low)
    by_cmp Greater low (inl none) side' = absurd (omega (arith, low, none))
    by_cmp Greater low (inr none) side' = let most = size-most (below_zero other) in absurd (omega (arith, low, less, none, most))
    by_cmp Equal same (inr none) side' = let most = size-most (below_zero other) in absurd (omega (arith, same, less, none, most))
    by_cmp Equal same (inl none) side' =
        let most = size-most (below_zero one) in
        let below : size_number (below_zero other) < size_number (below_zero one) = omega (arith, same, less, most) in
        ap (λ o. ordering_then o (sizes_cmp (below_zero other) (below_zero one))) (same_size (above_zero one) (above_zero other) same (omega (arith, none)))
        ∙ less_size (below_zero other) (below_zero one) below

same_value : (one other : List ℕ) → value_number one ≡ value_number other → nat_lt (distance (value_number one) % 4) 3 ≡ true → numbers_cmp one other ≡ Equal
same_value one other same exact =
    let short : distance (value_number one) % 4 < 3 = grind (arith, nat_tests) in
    let most = size-most (below_zero one) in
    let most' = size-most (below_zero other) in
    by_side short most most' (one_sided one) (one_sided other)
  where
    by_side : distance (value_number one) % 4 < 3 → size_number (below_zero one) ≤ 2305843009213693955 → size_number (below_zero other) ≤ 2305843009213693955
        → (size_number (above_zero one) ≡ 0) ⊎ (size_number (below_zero one) ≡ 0) → (size_number (above_zero other) ≡ 0) ⊎ (size_number (below_zero other) ≡ 0)
        → numbers_cmp one other ≡ Equal
    by_side short most most' side side' =
        let above = above_same side side' most most' in
        let below = below_same side side' most most' in
        let exact_above = above_exact side short most in
        let exact_below = below_exact side short most in
        ap (λ o. ordering_then o (sizes_cmp (below_zero other) (below_zero one))) (same_size (above_zero one) (above_zero other) above exact_above)
        ∙ same_size (below_zero other) (below_zero one) (sym below) (rw (sym below) exact_below)
      where
        Side : List ℕ → Type 0
        Side text = (size_number (above_zero text) ≡ 0) ⊎ (size_number (below_zero text) ≡ 0)

        above_same : Side one → Side other → size_number (below_zero one) ≤ 2305843009213693955 → size_number (below_zero other) ≤ 2305843009213693955
            → size_number (above_zero one) ≡ size_number (above_zero other)
        above_same (inl none) (inl none') most most' = none ∙ sym none'
        above_same (inl none) (inr none') most most' = omega (arith, same, none, none', most, most')
        above_same (inr none) (inl none') most most' = omega (arith, same, none, none', most, most')
        above_same (inr none) (inr none') most most' = omega (arith, same, none, none')

        below_same : Side one → Side other → size_number (below_zero one) ≤ 2305843009213693955 → size_number (below_zero other) ≤ 2305843009213693955
            → size_number (below_zero one) ≡ size_number (below_zero other)
        below_same (inl none) (inl none') most most' = omega (arith, same, none, none', most, most')
        below_same (inl none) (inr none') most most' = omega (arith, same, none, none', most, most')
        below_same (inr none) (inl none') most most' = omega (arith, same, none, none', most, most')
        below_same (inr none) (inr none') most most' = none ∙ sym none'

        above_exact : Side one → distance (value_number one) % 4 < 3 → size_number (below_zero one) ≤ 2305843009213693955 → size_number (above_zero one) % 4 < 3
        above_exact (inl none) short most = omega (arith, none)
        above_exact (inr none) short most = omega (arith, none, short)

        below_exact : Side one → distance (value_number one) % 4 < 3 → size_number (below_zero one) ≤ 2305843009213693955 → size_number (below_zero one) % 4 < 3
        below_exact (inl none) short most = omega (arith, none, short, most)
        below_exact (inr none) short most = omega (arith, none)

-- a key
folded-bytes : (text : List ℕ) → AreBytes text → AreBytes (folded text)
folded-bytes [] are = tt
folded-bytes (byte ∷ rest) are = let first = are.0 in (grind (arith, nat_tests), folded-bytes rest are.1)

module _ (letters : Letters) (one other : List ℕ) (are : AreBytes one) (are' : AreBytes other) where
  less_letters : letters_number letters one < letters_number letters other → texts_cmp letters one other ≡ Less
  less_letters less = by_letters letters.numeric letters.fold less
    where
      by_letters : (numeric fold : Bool)
          → (if numeric then value_number one else text_number (if fold then folded one else one)) < (if numeric then value_number other else text_number (if fold then folded other else other))
          → (if numeric then numbers_cmp one other else if fold then bytes_cmp (folded one) (folded other) else bytes_cmp one other) ≡ Less
      by_letters true fold less = less_value one other less
      by_letters false true less = less_text (folded one) (folded other) (folded-bytes one are) (folded-bytes other are') less
      by_letters false false less = less_text one other are are' less

  same_letters : letters_number letters one ≡ letters_number letters other
      → (if letters.numeric then nat_lt (distance (letters_number letters one) % 4) 3 else nat_lt (letters_number letters one % 256) 8) ≡ true
      → texts_cmp letters one other ≡ Equal
  same_letters same exact = by_letters letters.numeric letters.fold same exact
    where
      by_letters : (numeric fold : Bool)
          → (if numeric then value_number one else text_number (if fold then folded one else one)) ≡ (if numeric then value_number other else text_number (if fold then folded other else other))
          → (if numeric then nat_lt (distance (if numeric then value_number one else text_number (if fold then folded one else one)) % 4) 3
          else nat_lt ((if numeric then value_number one else text_number (if fold then folded one else one)) % 256) 8) ≡ true
          → (if numeric then numbers_cmp one other else if fold then bytes_cmp (folded one) (folded other) else bytes_cmp one other) ≡ Equal
      by_letters true fold same exact = same_value one other same exact
      by_letters false true same exact =
          let texts = same_text (folded one) (folded other) (folded-bytes one are) (folded-bytes other are') same exact in
          ap (bytes_cmp (folded one)) (sym texts) ∙ tied_itself nat_list_cmp_total (folded one)
      by_letters false false same exact =
          let texts = same_text one other are are' same exact in ap (bytes_cmp one) (sym texts) ∙ tied_itself nat_list_cmp_total one

module _ (separator : Option ℕ) (key : Key) (one other : List ℕ) (is : IsKey separator key one) (is' : IsKey separator key other) where
  less_key : key_number separator key one < key_number separator key other → key_cmp separator key one other ≡ Less
  less_key less = by_reverse (letters_of key).reverse less
    where
      by_reverse : (reverse : Bool)
          → directed_number reverse (letters_number (letters_of key) (key_in separator key one)) < directed_number reverse (letters_number (letters_of key) (key_in separator key other))
          → directed reverse (texts_cmp (letters_of key)) (key_in separator key one) (key_in separator key other) ≡ Less
      by_reverse true less = less_letters (letters_of key) (key_in separator key other) (key_in separator key one) is'.bytes is.bytes (omega (arith, less))
      by_reverse false less = less_letters (letters_of key) (key_in separator key one) (key_in separator key other) is.bytes is'.bytes less

  pub same_key : key_number separator key one ≡ key_number separator key other → is_exact (letters_of key) (key_number separator key one) ≡ true
      → key_cmp separator key one other ≡ Equal
  same_key same exact = by_reverse (letters_of key).reverse same exact
    where
      number : List ℕ → ℕ
      number line = letters_number (letters_of key) (key_in separator key line)

      Exact : ℕ → Type 0
      Exact n = (if (letters_of key).numeric then nat_lt (distance n % 4) 3 else nat_lt (n % 256) 8) ≡ true

      by_reverse : (reverse : Bool) → directed_number reverse (number one) ≡ directed_number reverse (number other)
          → Exact (directed_number reverse (directed_number reverse (number one)))
          → directed reverse (texts_cmp (letters_of key)) (key_in separator key one) (key_in separator key other) ≡ Equal
      by_reverse true same exact =
          let small = is.small in
          let small' = is'.small in
          let back : number other ≡ number one = omega (arith, same, small, small') in
          let twice : 18446744073709551615 - (18446744073709551615 - number one) ≡ number other = omega (arith, same, small, small') in
          same_letters (letters_of key) (key_in separator key other) (key_in separator key one) is'.bytes is.bytes back (subst Exact twice exact)
      by_reverse false same exact = same_letters (letters_of key) (key_in separator key one) (key_in separator key other) is.bytes is'.bytes same exact

less_keys : (separator : Option ℕ) (keys : List Key) (one other : List ℕ) → FirstKey separator keys one → FirstKey separator keys other
    → keys_number separator keys one < keys_number separator keys other → keys_cmp separator keys one other ≡ Less
less_keys separator [] one other is is' less = absurd (omega (arith, less))
less_keys separator (key ∷ others) one other is is' less =
    ap (λ o. ordering_then o (keys_cmp separator others one other)) (less_key separator key one other is is' less)

-- a lesser number is of a line that is before
pub less_number : (order : LineOrder) (one other : List ℕ) → FirstKey order.separator order.keys.items one → FirstKey order.separator order.keys.items other
    → number_by order one < number_by order other → cmp_by order one other ≡ Less
less_number order one other is is' less =
    ap (λ o. ordering_then o (last_cmp order.unique order.reverse one other)) (less_keys order.separator order.keys.items one other is is' less)

-- the same number, where it is exact, leaves it to the other keys
pub same_keys : (separator : Option ℕ) (keys : List Key) (one other : List ℕ) → FirstKey separator keys one → FirstKey separator keys other
    → keys_number separator keys one ≡ keys_number separator keys other → is_exact (first_letters keys) (keys_number separator keys one) ≡ true
    → keys_cmp separator keys one other ≡ keys_cmp separator (drop 1 keys) one other
same_keys separator [] one other is is' same exact = refl
same_keys separator (key ∷ others) one other is is' same exact =
    ap (λ o. ordering_then o (keys_cmp separator others one other)) (same_key separator key one other is is' same exact)

-- what a slice holds are bytes
pub bytes_of_slice : (text : List ℕ) → ((place : ℕ) → get_or text place 0 < 256) → AreBytes text
bytes_of_slice [] each = tt
bytes_of_slice (byte ∷ rest) each = (each 0, bytes_of_slice rest (λ place. each (suc place)))
