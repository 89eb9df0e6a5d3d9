-- Lists in order: a list in order that has of each set of equal items what is to be kept is the only one, and `sorted` is it.
use Rattle.std.proofs.Common.{◌≡◌, ℕ, suc, ◌<◌, List, [], ◌∷◌, map, length, take, drop, get_or, Bool, true, false, not, ◌&&◌, cond, if◌then◌else◌, ◌≤◌, refl, ap, sym, ◌∙◌, arith}
use Rattle.std.specs.List.{filter, dedup, dedup_from}
use Rattle.std.specs.List.Sorted.{IsSortedBy, IsStableBy, ties}
use Rattle.std.specs.Cmp.{IsTotalOrder, Equal-is}
use Rattle.std.specs.declared.cmp.Ordering.{Ordering}
use Rattle.std.specs.declared.cmp.Ordering.TheVariants.{Less, Equal, Greater}
use Rattle.std.specs.Ordering.{is_lt, is_eq, on, ordering_reverse, eq_by_cmp}
use Rattle.std.proofs.lemmas.Bool.{true≢false}
use Rattle.std.proofs.lemmas.Cmp.{tied_itself, alike_right}
use Rattle.std.proofs.lemmas.List.MinMax.{ranks_by}
use Rattle.std.proofs.lemmas.List.Sorted.{sorted_far}
use Rattle.ut_sort.specs.Sorted.{equals, NoneBefore, InOrder, kept, IsSorted, insert, others_of, sorted}

head_is : {Item : Type 0} (x y : Item) (xs ys : List Item) → x ∷ xs ≡ y ∷ ys → x ≡ y
head_is x y xs ys same = ap (λ items. get_or items 0 x) same

tail_is : {Item : Type 0} (x y : Item) (xs ys : List Item) → x ∷ xs ≡ y ∷ ys → xs ≡ ys
tail_is x y xs ys same = ap (drop 1) same

some≢none : {Item : Type 0} (x : Item) (xs : List Item) → x ∷ xs ≡ [] → ⊥
some≢none x xs same = let size : length (x ∷ xs) ≡ 0 = ap length same in omega (arith, size)

lt-is : (o : Ordering) → is_lt o ≡ true → o ≡ Less
lt-is Less lt = refl
lt-is Equal lt = absurd (true≢false (sym lt))
lt-is Greater lt = absurd (true≢false (sym lt))

eq-lt : (o : Ordering) → is_eq o ≡ true → is_lt o ≡ true → ⊥
eq-lt Less eq lt = true≢false (sym eq)
eq-lt Equal eq lt = true≢false (sym lt)
eq-lt Greater eq lt = true≢false (sym eq)

-- neither before nor equal is behind
above-is : (o : Ordering) → is_lt o ≡ false → is_eq o ≡ false → ordering_reverse o ≡ Less
above-is Less lt eq = absurd (true≢false lt)
above-is Equal lt eq = absurd (true≢false eq)
above-is Greater lt eq = refl

tie-is : (o : Ordering) → (not (is_lt o) && not (is_lt (ordering_reverse o))) ≡ is_eq o
tie-is Less = refl
tie-is Equal = refl
tie-is Greater = refl

module _ {Item : Type 0} (cmp : Item → Item → Ordering) (total : IsTotalOrder cmp) where
  pub tied : (x y : Item) → is_eq (cmp x y) ≡ true → cmp x y ≡ Equal
  tied x y eq = (Equal-is (cmp x y)).0 eq

  -- what is equal to an item compares as that
  eq-same : (x y z : Item) → is_eq (cmp x y) ≡ true → is_eq (cmp x z) ≡ is_eq (cmp y z)
  eq-same x y z eq = ap is_eq (total.congr x y z (tied x y eq))

  eq-back : (x y : Item) → is_eq (cmp x y) ≡ is_eq (cmp y x)
  eq-back x y = ap is_eq (total.antisymm x y) ∙ turned (cmp y x)
    where
      turned : (o : Ordering) → is_eq (ordering_reverse o) ≡ is_eq o
      turned Less = refl
      turned Equal = refl
      turned Greater = refl

  -- an item before another is equal to none that stands behind that
  not_equal : (x y z : Item) → cmp x y ≡ Less → is_lt (cmp z y) ≡ false → is_eq (cmp x z) ≡ false
  not_equal x y z less behind = by_eq (is_eq (cmp x z)) refl
    where
      by_eq : (eq : Bool) → is_eq (cmp x z) ≡ eq → eq ≡ false
      by_eq false _ = refl
      by_eq true eq = absurd (true≢false (sym (ap is_lt (sym (total.congr x z y (tied x z eq)) ∙ less)) ∙ behind))

  none_equal : (x y : Item) (items : List Item) → cmp x y ≡ Less → NoneBefore cmp y items → equals cmp x items ≡ []
  none_equal x y [] less behind = refl
  none_equal x y (z ∷ items) less behind = rw (not_equal x y z less behind.0) (none_equal x y items less behind.1)

  pub none_at_all : (x y : Item) (items : List Item) → cmp x y ≡ Less → NoneBefore cmp y items → equals cmp x (y ∷ items) ≡ []
  none_at_all x y items less behind = rw (ap is_eq less) (none_equal x y items less behind)

  equals-self : (x : Item) (items : List Item) → equals cmp x (x ∷ items) ≡ x ∷ equals cmp x items
  equals-self x items = rw (tied_itself total x) refl

  -- only one list is in order and has these equals
  pub only_one : (xs ys : List Item) → InOrder cmp xs → InOrder cmp ys → ((item : Item) → equals cmp item xs ≡ equals cmp item ys) → xs ≡ ys
  only_one [] [] ordered ordered' same = refl
  only_one [] (y ∷ ys) ordered ordered' same = absurd (some≢none y (equals cmp y ys) (sym (same y ∙ equals-self y ys)))
  only_one (x ∷ xs) [] ordered ordered' same = absurd (some≢none x (equals cmp x xs) (sym (equals-self x xs) ∙ same x))
  only_one (x ∷ xs) (y ∷ ys) ordered ordered' same = by_cmp (cmp x y) refl (only_one xs ys ordered.1 ordered'.1)
    where
      by_cmp : (o : Ordering) → cmp x y ≡ o → (((item : Item) → equals cmp item xs ≡ equals cmp item ys) → xs ≡ ys) → x ∷ xs ≡ y ∷ ys
      by_cmp Less is rest =
          absurd (some≢none x (equals cmp x xs) (sym (equals-self x xs) ∙ same x ∙ none_at_all x y ys is ordered'.0))
      by_cmp Greater is rest =
          absurd (some≢none y (equals cmp y ys) (sym (equals-self y ys) ∙ sym (same y) ∙ none_at_all y x xs (total.antisymm y x ∙ ap ordering_reverse is) ordered.0))
      by_cmp Equal is rest =
          let whole : x ∷ equals cmp x xs ≡ y ∷ equals cmp x ys =
          sym (equals-self x xs) ∙ same x ∙ (rw is refl) in
          let heads : x ≡ y = head_is x y (equals cmp x xs) (equals cmp x ys) whole in
          let each : (item : Item) → equals cmp item xs ≡ equals cmp item ys = λ item. by_eq item (is_eq (cmp item x)) refl (same item) in
          ap (λ first. first ∷ xs) heads ∙ ap (λ others. y ∷ others) (rest each)
        where
          by_eq : (item : Item) (eq : Bool) → is_eq (cmp item x) ≡ eq → equals cmp item (x ∷ xs) ≡ equals cmp item (y ∷ ys) → equals cmp item xs ≡ equals cmp item ys
          by_eq item true eq all =
              let other : is_eq (cmp item y) ≡ true = ap is_eq (total.congr item x y (tied item x eq) ∙ is) in
              tail_is x y (equals cmp item xs) (equals cmp item ys) (sym (rw eq refl) ∙ all ∙ (rw other refl))
          by_eq item false eq all =
              let other : is_eq (cmp item y) ≡ false = sym (ap is_eq (alike_right total x y item is)) ∙ eq in
              sym (rw eq refl) ∙ all ∙ (rw other refl)

  -- an insertion keeps what is equal, in order
  equals-insert : (item new : Item) (items : List Item) → equals cmp item (insert cmp new items) ≡ equals cmp item (new ∷ items)
  equals-insert item new [] = refl
  equals-insert item new (x ∷ items) = by_lt (is_lt (cmp x new)) refl (equals-insert item new items)
    where
      Whole : Bool → Type 0
      Whole lt = equals cmp item (if lt then x ∷ insert cmp new items else new ∷ x ∷ items) ≡ equals cmp item (new ∷ x ∷ items)

      by_both : (eq eq' : Bool) → is_eq (cmp item x) ≡ eq → is_eq (cmp item new) ≡ eq' → is_lt (cmp x new) ≡ true
          → equals cmp item (insert cmp new items) ≡ equals cmp item (new ∷ items) → Whole true
      by_both true true same same' lt rest =
          absurd (eq-lt (cmp x new) (sym (eq-same item x new same) ∙ same') lt)
      by_both true false same same' lt rest = rw (same, same') (ap (λ others. x ∷ others) (rest ∙ (rw same' refl)))
      by_both false eq' same same' lt rest = rw same (rest)

      by_lt : (lt : Bool) → is_lt (cmp x new) ≡ lt → equals cmp item (insert cmp new items) ≡ equals cmp item (new ∷ items) → Whole lt
      by_lt true lt rest = by_both (is_eq (cmp item x)) (is_eq (cmp item new)) refl refl lt rest
      by_lt false lt rest = refl

  behind : (x y : Item) → is_lt (cmp x y) ≡ true → is_lt (cmp y x) ≡ false
  behind x y lt = ap is_lt (total.antisymm y x ∙ ap ordering_reverse (lt-is (cmp x y) lt))

  none_before-insert : (x new : Item) (items : List Item) → is_lt (cmp new x) ≡ false → NoneBefore cmp x items → NoneBefore cmp x (insert cmp new items)
  none_before-insert x new [] after none = (after, tt)
  none_before-insert x new (y ∷ items) after none = by_lt (is_lt (cmp y new)) (none_before-insert x new items after none.1)
    where
      by_lt : (lt : Bool) → NoneBefore cmp x (insert cmp new items) → NoneBefore cmp x (if lt then y ∷ insert cmp new items else new ∷ y ∷ items)
      by_lt true rest = (none.0, rest)
      by_lt false rest = (after, none)

  pub none_before-more : (x y : Item) (items : List Item) → is_lt (cmp y x) ≡ false → NoneBefore cmp y items → NoneBefore cmp x items
  none_before-more x y [] after none = tt
  none_before-more x y (z ∷ items) after none = ((ranks_by total (λ item. item)).chain z y x none.0 after, none_before-more x y items after none.1)

  in_order-insert : (new : Item) (items : List Item) → InOrder cmp items → InOrder cmp (insert cmp new items)
  in_order-insert new [] ordered = (tt, tt)
  in_order-insert new (x ∷ items) ordered = by_lt (is_lt (cmp x new)) refl (in_order-insert new items ordered.1)
    where
      by_lt : (lt : Bool) → is_lt (cmp x new) ≡ lt → InOrder cmp (insert cmp new items) → InOrder cmp (if lt then x ∷ insert cmp new items else new ∷ x ∷ items)
      by_lt true lt rest = (none_before-insert x new items (behind x new lt) ordered.0, rest)
      by_lt false lt rest = ((lt, none_before-more new x items lt ordered.0), ordered)

  none_before-filter : (test : Item → Bool) (x : Item) (items : List Item) → NoneBefore cmp x items → NoneBefore cmp x (filter test items)
  none_before-filter test x [] none = tt
  none_before-filter test x (y ∷ items) none = by_test (test y) (none_before-filter test x items none.1)
    where
      by_test : (passes : Bool) → NoneBefore cmp x (filter test items) → NoneBefore cmp x (cond passes (y ∷ filter test items) (filter test items))
      by_test true rest = (none.0, rest)
      by_test false rest = rest

  in_order-filter : (test : Item → Bool) (items : List Item) → InOrder cmp items → InOrder cmp (filter test items)
  in_order-filter test [] ordered = tt
  in_order-filter test (x ∷ items) ordered = by_test (test x) (in_order-filter test items ordered.1)
    where
      by_test : (passes : Bool) → InOrder cmp (filter test items) → InOrder cmp (cond passes (x ∷ filter test items) (filter test items))
      by_test true rest = (none_before-filter test x items ordered.0, rest)
      by_test false rest = rest

  in_order-others : (unique : Bool) (item : Item) (items : List Item) → InOrder cmp items → InOrder cmp (others_of cmp unique item items)
  in_order-others true item items ordered = in_order-filter (λ other. not (is_eq (cmp item other))) items ordered
  in_order-others false item items ordered = ordered

  in_order-sorted : (unique : Bool) (items : List Item) → InOrder cmp (sorted cmp unique items)
  in_order-sorted unique [] = tt
  in_order-sorted unique (item ∷ items) =
      in_order-insert item (others_of cmp unique item (sorted cmp unique items)) (in_order-others unique item (sorted cmp unique items) (in_order-sorted unique items))

  -- without the items equal to one, those equal to another are all there or gone
  equals-gone : (item first : Item) (items : List Item) → is_eq (cmp item first) ≡ true → equals cmp item (filter (λ other. not (is_eq (cmp first other))) items) ≡ []
  equals-gone item first [] same = refl
  equals-gone item first (x ∷ items) same = by_eq (is_eq (cmp first x)) refl (equals-gone item first items same)
    where
      Others : List Item
      Others = filter (λ other. not (is_eq (cmp first other))) items

      by_eq : (eq : Bool) → is_eq (cmp first x) ≡ eq → equals cmp item Others ≡ [] → equals cmp item (cond (not eq) (x ∷ Others) Others) ≡ []
      by_eq true eq rest = rest
      by_eq false eq rest = rw (eq-same item first x same ∙ eq) rest

  equals-there : (item first : Item) (items : List Item) → is_eq (cmp item first) ≡ false
      → equals cmp item (filter (λ other. not (is_eq (cmp first other))) items) ≡ equals cmp item items
  equals-there item first [] other = refl
  equals-there item first (x ∷ items) other = by_eq (is_eq (cmp first x)) refl (equals-there item first items other)
    where
      Others : List Item
      Others = filter (λ other. not (is_eq (cmp first other))) items

      by_eq : (eq : Bool) → is_eq (cmp first x) ≡ eq → equals cmp item Others ≡ equals cmp item items
          → equals cmp item (cond (not eq) (x ∷ Others) Others) ≡ equals cmp item (x ∷ items)
      by_eq true eq rest =
          let apart : is_eq (cmp item x) ≡ false = eq-back item x ∙ sym (eq-same first x item eq) ∙ eq-back first item ∙ other in
          rest ∙ (rw apart refl)
      by_eq false eq rest = ap (λ others. cond (is_eq (cmp item x)) (x ∷ others) others) rest

  equals-sorted : (unique : Bool) (item : Item) (items : List Item) → equals cmp item (sorted cmp unique items) ≡ kept cmp unique (equals cmp item items)
  equals-sorted true item [] = refl
  equals-sorted false item [] = refl
  equals-sorted false item (x ∷ items) =
      equals-insert item x (sorted cmp false items) ∙ ap (λ others. cond (is_eq (cmp item x)) (x ∷ others) others) (equals-sorted false item items)
  equals-sorted true item (x ∷ items) =
      equals-insert item x (others_of cmp true x (sorted cmp true items)) ∙ by_eq (is_eq (cmp item x)) refl (equals-sorted true item items)
    where
      Others : List Item
      Others = others_of cmp true x (sorted cmp true items)

      by_eq : (eq : Bool) → is_eq (cmp item x) ≡ eq → equals cmp item (sorted cmp true items) ≡ kept cmp true (equals cmp item items)
          → cond eq (x ∷ equals cmp item Others) (equals cmp item Others) ≡ take 1 (cond eq (x ∷ equals cmp item items) (equals cmp item items))
      by_eq true eq rest = ap (λ others. x ∷ others) (equals-gone item x (sorted cmp true items) eq)
      by_eq false eq rest = equals-there item x (sorted cmp true items) eq ∙ rest

  -- `sorted` gives the list, and no other is it
  pub sorted_is : (unique : Bool) (items : List Item) → IsSorted cmp unique items (sorted cmp unique items)
  sorted_is unique items = record { order = in_order-sorted unique items; each = λ item. equals-sorted unique item items }

  pub only_sorted : (unique : Bool) (items list : List Item) → IsSorted cmp unique items list → list ≡ sorted cmp unique items
  only_sorted unique items list is =
      only_one list (sorted cmp unique items) is.order (in_order-sorted unique items) (λ item. is.each item ∙ sym (equals-sorted unique item items))

  -- what std's stable sort leaves is the list
  none_before-from : (x : Item) (items : List Item) → ((place : ℕ) (d : Item) → place < length items → is_lt (cmp (get_or items place d) x) ≡ false) → NoneBefore cmp x items
  none_before-from x [] none = tt
  none_before-from x (y ∷ items) none = (none 0 y (omega arith), none_before-from x items (λ place d low. none (suc place) d (omega arith)))

  in_order-far : (items : List Item)
      → ((front back : ℕ) (d : Item) → front ≤ back → back < length items → is_lt (cmp (get_or items back d) (get_or items front d)) ≡ false) → InOrder cmp items
  in_order-far [] far = tt
  in_order-far (x ∷ items) far = (
    none_before-from x items (λ place d low. far 0 (suc place) d (omega arith) (omega arith)),
    in_order-far items (λ front back d after low. far (suc front) (suc back) d (omega arith) (omega arith)),
  )

  pub in_order-from : (items : List Item) → IsSortedBy (λ x y. is_lt (cmp x y)) items → InOrder cmp items
  in_order-from items up = in_order-far items (sorted_far (λ x y. is_lt (cmp x y)) (ranks_by total (λ item. item)) items up)

  same_ties : (x y : Item) → ties (λ x y. is_lt (cmp x y)) x y ≡ is_eq (cmp x y)
  same_ties x y = ap (λ back. not (is_lt (cmp x y)) && not (is_lt back)) (total.antisymm y x) ∙ tie-is (cmp x y)

  equals-stable : (items list : List Item) → IsStableBy (λ x y. is_lt (cmp x y)) items list → (item : Item) → equals cmp item list ≡ equals cmp item items
  equals-stable items list stable item =
      ap (λ test. filter test list) (λ i y. sym (same_ties item y) i) ∙ stable item ∙ ap (λ test. filter test items) (λ i y. same_ties item y i)

  pub stable_is : (items list : List Item) → IsSortedBy (λ x y. is_lt (cmp x y)) list → IsStableBy (λ x y. is_lt (cmp x y)) items list → IsSorted cmp false items list
  stable_is items list up stable = record { order = in_order-from list up; each = equals-stable items list stable }

  -- of neighbours that are equal the first one
  none_before-dedup : (x first : Item) (items : List Item) → is_lt (cmp first x) ≡ false → NoneBefore cmp x items → NoneBefore cmp x (dedup_from (eq_by_cmp cmp) first items)
  none_before-dedup x first [] after none = (after, tt)
  none_before-dedup x first (y ∷ items) after none =
      by_eq (is_eq (cmp y first)) (none_before-dedup x first items after none.1) (none_before-dedup x y items none.0 none.1)
    where
      by_eq : (eq : Bool) → NoneBefore cmp x (dedup_from (eq_by_cmp cmp) first items) → NoneBefore cmp x (dedup_from (eq_by_cmp cmp) y items)
          → NoneBefore cmp x (cond eq (dedup_from (eq_by_cmp cmp) first items) (first ∷ dedup_from (eq_by_cmp cmp) y items))
      by_eq true same other = same
      by_eq false same other = (after, other)

  in_order-dedup : (first : Item) (items : List Item) → InOrder cmp (first ∷ items) → InOrder cmp (dedup_from (eq_by_cmp cmp) first items)
  in_order-dedup first [] ordered = (tt, tt)
  in_order-dedup first (y ∷ items) ordered =
      by_eq (is_eq (cmp y first)) (in_order-dedup first items (ordered.0.1, ordered.1.1)) (in_order-dedup y items ordered.1)
    where
      by_eq : (eq : Bool) → InOrder cmp (dedup_from (eq_by_cmp cmp) first items) → InOrder cmp (dedup_from (eq_by_cmp cmp) y items)
          → InOrder cmp (cond eq (dedup_from (eq_by_cmp cmp) first items) (first ∷ dedup_from (eq_by_cmp cmp) y items))
      by_eq true same other = same
      by_eq false same other = (none_before-dedup first y items ordered.0.0 ordered.0.1, other)

  equals-dedup : (item first : Item) (items : List Item) → InOrder cmp (first ∷ items)
      → equals cmp item (dedup_from (eq_by_cmp cmp) first items) ≡ take 1 (equals cmp item (first ∷ items))
  equals-dedup item first [] ordered = by_eq (is_eq (cmp item first))
    where
      by_eq : (eq : Bool) → cond eq (first ∷ []) [] ≡ take 1 (cond eq (first ∷ []) [])
      by_eq true = refl
      by_eq false = refl
  equals-dedup item first (y ∷ items) ordered =
      by_next (is_eq (cmp y first)) refl (equals-dedup item first items (ordered.0.1, ordered.1.1)) (equals-dedup item y items ordered.1)
    where
      Alike : Bool → Bool → Type 0
      Alike next eq =
          equals cmp item (cond next (dedup_from (eq_by_cmp cmp) first items) (first ∷ dedup_from (eq_by_cmp cmp) y items))
          ≡ take 1 (cond eq (first ∷ equals cmp item (y ∷ items)) (equals cmp item (y ∷ items)))

      same_next : (eq : Bool) → is_eq (cmp y first) ≡ true → is_eq (cmp item first) ≡ eq
          → equals cmp item (dedup_from (eq_by_cmp cmp) first items) ≡ take 1 (equals cmp item (first ∷ items)) → Alike true eq
      same_next true next eq rest = rest ∙ (rw eq refl)
      same_next false next eq rest =
          let apart : is_eq (cmp item y) ≡ false = eq-back item y ∙ eq-same y first item next ∙ eq-back first item ∙ eq in
          rest ∙ (rw (eq, apart) refl)

      other_next : (eq : Bool) → is_eq (cmp y first) ≡ false → is_eq (cmp item first) ≡ eq
          → equals cmp item (dedup_from (eq_by_cmp cmp) y items) ≡ take 1 (equals cmp item (y ∷ items)) → Alike false eq
      other_next true next eq rest =
          let before : cmp item y ≡ Less = total.congr item first y (tied item first eq) ∙ total.antisymm first y ∙ above-is (cmp y first) ordered.0.0 next in
          rw eq (ap (λ others. first ∷ others) (rest ∙ ap (take 1) (none_at_all item y items before ordered.1.0)))
      other_next false next eq rest = rw eq rest

      by_next : (next : Bool) → is_eq (cmp y first) ≡ next
          → equals cmp item (dedup_from (eq_by_cmp cmp) first items) ≡ take 1 (equals cmp item (first ∷ items))
          → equals cmp item (dedup_from (eq_by_cmp cmp) y items) ≡ take 1 (equals cmp item (y ∷ items)) → Alike next (is_eq (cmp item first))
      by_next true next same other = same_next (is_eq (cmp item first)) next refl same
      by_next false next same other = other_next (is_eq (cmp item first)) next refl other

  pub dedup_is : (items list : List Item) → IsSorted cmp false items list → IsSorted cmp true items (dedup (eq_by_cmp cmp) list)
  dedup_is items [] is = record { order = tt; each = λ item. ap (take 1) (is.each item) }
  dedup_is items (first ∷ list) is =
      record { order = in_order-dedup first list is.order; each = λ item. equals-dedup item first list is.order ∙ ap (take 1) (is.each item) }

-- the same order through a function
module _ {Item Key : Type 0} (key : Item → Key) (cmp : Key → Key → Ordering) where
  map-insert : (new : Item) (items : List Item) → map key (insert (on key cmp) new items) ≡ insert cmp (key new) (map key items)
  map-insert new [] = refl
  map-insert new (x ∷ items) = by_lt (is_lt (cmp (key x) (key new))) (map-insert new items)
    where
      by_lt : (lt : Bool) → map key (insert (on key cmp) new items) ≡ insert cmp (key new) (map key items)
          → map key (if lt then x ∷ insert (on key cmp) new items else new ∷ x ∷ items)
          ≡ (if lt then key x ∷ insert cmp (key new) (map key items) else key new ∷ key x ∷ map key items)
      by_lt true rest = ap (λ others. key x ∷ others) rest
      by_lt false rest = refl

  map-filter : (test : Key → Bool) (items : List Item) → map key (filter (λ item. test (key item)) items) ≡ filter test (map key items)
  map-filter test [] = refl
  map-filter test (x ∷ items) = by_test (test (key x)) (map-filter test items)
    where
      by_test : (passes : Bool) → map key (filter (λ item. test (key item)) items) ≡ filter test (map key items)
          → map key (cond passes (x ∷ filter (λ item. test (key item)) items) (filter (λ item. test (key item)) items))
          ≡ cond passes (key x ∷ filter test (map key items)) (filter test (map key items))
      by_test true rest = ap (λ others. key x ∷ others) rest
      by_test false rest = rest

  map-others : (unique : Bool) (item : Item) (items : List Item) → map key (others_of (on key cmp) unique item items) ≡ others_of cmp unique (key item) (map key items)
  map-others true item items = map-filter (λ other. not (is_eq (cmp (key item) other))) items
  map-others false item items = refl

  pub map-sorted : (unique : Bool) (items : List Item) → map key (sorted (on key cmp) unique items) ≡ sorted cmp unique (map key items)
  map-sorted unique [] = refl
  map-sorted unique (item ∷ items) =
      map-insert item (others_of (on key cmp) unique item (sorted (on key cmp) unique items))
      ∙ ap (insert cmp (key item)) (map-others unique item (sorted (on key cmp) unique items) ∙ ap (others_of cmp unique (key item)) (map-sorted unique items))
