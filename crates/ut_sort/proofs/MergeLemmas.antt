-- The merge of two lists in order is in order, and has what both have.
use Rattle.std.proofs.Common.{◌≡◌, List, [], ◌∷◌, ◌++◌, Bool, true, false, cond, take, drop, refl, ap, sym, ◌∙◌, append-nil}
use Rattle.std.specs.Cmp.{IsTotalOrder}
use Rattle.std.specs.declared.cmp.Ordering.{Ordering}
use Rattle.std.specs.declared.cmp.Ordering.TheVariants.{Less, Equal, Greater}
use Rattle.std.specs.Ordering.{is_lt, is_eq, ordering_reverse}
use Rattle.std.proofs.lemmas.Cmp.{alike_right}
use Rattle.ut_sort.specs.Sorted.{equals, NoneBefore, InOrder, IsSorted, sorted}
use Rattle.ut_sort.specs.Merging.{by_step, step_of, merged}
use Rattle.ut_sort.proofs.SortedLemmas.{tied, none_at_all, none_before-more, only_sorted, sorted_is}

module _ {Item : Type 0} (cmp : Item → Item → Ordering) (total : IsTotalOrder cmp) where
  equals-append : (item : Item) (xs ys : List Item) → equals cmp item (xs ++ ys) ≡ equals cmp item xs ++ equals cmp item ys
  equals-append item [] ys = refl
  equals-append item (x ∷ xs) ys = by_eq (is_eq (cmp item x)) (equals-append item xs ys)
    where
      by_eq : (eq : Bool) → equals cmp item (xs ++ ys) ≡ equals cmp item xs ++ equals cmp item ys
          → cond eq (x ∷ equals cmp item (xs ++ ys)) (equals cmp item (xs ++ ys)) ≡ cond eq (x ∷ equals cmp item xs) (equals cmp item xs) ++ equals cmp item ys
      by_eq true rest = ap (λ others. x ∷ others) rest
      by_eq false rest = rest

  -- what stands before neither list's items
  none_before-merged : (unique : Bool) (item : Item) (xs ys : List Item) → NoneBefore cmp item xs → NoneBefore cmp item ys → NoneBefore cmp item (merged cmp unique xs ys)
  none_before-merged unique item [] ys none none' = none'
  none_before-merged unique item (x ∷ xs) [] none none' = none
  none_before-merged unique item (x ∷ xs) (y ∷ ys) none none' =
      by_cmp (cmp x y) unique (none_before-merged unique item xs (y ∷ ys) none.1 none') (none_before-merged unique item (x ∷ xs) ys none none'.1)
    where
      by_cmp : (o : Ordering) (drops : Bool) → NoneBefore cmp item (merged cmp unique xs (y ∷ ys)) → NoneBefore cmp item (merged cmp unique (x ∷ xs) ys)
          → NoneBefore cmp item (by_step (step_of drops o) (x ∷ merged cmp unique xs (y ∷ ys)) (merged cmp unique (x ∷ xs) ys) (y ∷ merged cmp unique (x ∷ xs) ys))
      by_cmp Less drops first second = (none.0, first)
      by_cmp Equal true first second = second
      by_cmp Equal false first second = (none.0, first)
      by_cmp Greater drops first second = (none'.0, second)

  pub in_order-merged : (unique : Bool) (xs ys : List Item) → InOrder cmp xs → InOrder cmp ys → InOrder cmp (merged cmp unique xs ys)
  in_order-merged unique [] ys ordered ordered' = ordered'
  in_order-merged unique (x ∷ xs) [] ordered ordered' = ordered
  in_order-merged unique (x ∷ xs) (y ∷ ys) ordered ordered' =
      by_cmp (cmp x y) refl unique (in_order-merged unique xs (y ∷ ys) ordered.1 ordered') (in_order-merged unique (x ∷ xs) ys ordered ordered'.1)
    where
      from_left : is_lt (cmp y x) ≡ false → NoneBefore cmp x (merged cmp unique xs (y ∷ ys))
      from_left after = none_before-merged unique x xs (y ∷ ys) ordered.0 (after, none_before-more cmp total x y ys after ordered'.0)

      by_cmp : (o : Ordering) → cmp x y ≡ o → (drops : Bool) → InOrder cmp (merged cmp unique xs (y ∷ ys)) → InOrder cmp (merged cmp unique (x ∷ xs) ys)
          → InOrder cmp (by_step (step_of drops o) (x ∷ merged cmp unique xs (y ∷ ys)) (merged cmp unique (x ∷ xs) ys) (y ∷ merged cmp unique (x ∷ xs) ys))
      by_cmp Less is drops first second = (from_left (ap is_lt (total.antisymm y x ∙ ap ordering_reverse is)), first)
      by_cmp Equal is true first second = second
      by_cmp Equal is false first second = (from_left (ap is_lt (total.antisymm y x ∙ ap ordering_reverse is)), first)
      by_cmp Greater is drops first second =
          let after : is_lt (cmp x y) ≡ false = ap is_lt is in
          (none_before-merged unique y (x ∷ xs) ys (after, none_before-more cmp total y x xs after ordered.0) ordered'.0, second)

  -- what is equal to the right's first item, where that is before the left's, isn't on the left
  not_left : (item x y : Item) (xs : List Item) → cmp x y ≡ Greater → InOrder cmp (x ∷ xs) → is_eq (cmp item y) ≡ true → equals cmp item (x ∷ xs) ≡ []
  not_left item x y xs is ordered eq =
      none_at_all cmp total item x xs (total.congr item y x (tied cmp total item y eq) ∙ total.antisymm y x ∙ ap ordering_reverse is) ordered.0

  -- and what is equal to the left's first item, where that is before the right's, isn't on the right
  not_right : (item x y : Item) (ys : List Item) → cmp x y ≡ Less → InOrder cmp (y ∷ ys) → is_eq (cmp item x) ≡ true → equals cmp item (y ∷ ys) ≡ []
  not_right item x y ys is ordered eq = none_at_all cmp total item y ys (total.congr item x y (tied cmp total item x eq) ∙ is) ordered.0

  -- all of both
  equals-merged_all : (item : Item) (xs ys : List Item) → InOrder cmp xs → InOrder cmp ys
      → equals cmp item (merged cmp false xs ys) ≡ equals cmp item xs ++ equals cmp item ys
  equals-merged_all item [] ys ordered ordered' = refl
  equals-merged_all item (x ∷ xs) [] ordered ordered' = sym (append-nil (equals cmp item (x ∷ xs)))
  equals-merged_all item (x ∷ xs) (y ∷ ys) ordered ordered' =
      by_cmp (cmp x y) refl (equals-merged_all item xs (y ∷ ys) ordered.1 ordered') (equals-merged_all item (x ∷ xs) ys ordered ordered'.1)
    where
      Left : Type 0
      Left = equals cmp item (merged cmp false xs (y ∷ ys)) ≡ equals cmp item xs ++ equals cmp item (y ∷ ys)

      Right : Type 0
      Right = equals cmp item (merged cmp false (x ∷ xs) ys) ≡ equals cmp item (x ∷ xs) ++ equals cmp item ys

      left_first : (eq : Bool) → Left
          → cond eq (x ∷ equals cmp item (merged cmp false xs (y ∷ ys))) (equals cmp item (merged cmp false xs (y ∷ ys)))
          ≡ cond eq (x ∷ equals cmp item xs) (equals cmp item xs) ++ equals cmp item (y ∷ ys)
      left_first true first = ap (λ others. x ∷ others) first
      left_first false first = first

      right_first : (eq : Bool) → is_eq (cmp item y) ≡ eq → cmp x y ≡ Greater → Right
          → cond eq (y ∷ equals cmp item (merged cmp false (x ∷ xs) ys)) (equals cmp item (merged cmp false (x ∷ xs) ys))
          ≡ equals cmp item (x ∷ xs) ++ cond eq (y ∷ equals cmp item ys) (equals cmp item ys)
      right_first true eq is second =
          let none : equals cmp item (x ∷ xs) ≡ [] = not_left item x y xs is ordered eq in
          ap (λ others. y ∷ others) (second ∙ ap (λ front. front ++ equals cmp item ys) none)
          ∙ ap (λ front. front ++ y ∷ equals cmp item ys) (sym none)
      right_first false eq is second = second

      by_cmp : (o : Ordering) → cmp x y ≡ o → Left → Right
          → equals cmp item (by_step (step_of false o) (x ∷ merged cmp false xs (y ∷ ys)) (merged cmp false (x ∷ xs) ys) (y ∷ merged cmp false (x ∷ xs) ys))
          ≡ equals cmp item (x ∷ xs) ++ equals cmp item (y ∷ ys)
      by_cmp Less is first second = left_first (is_eq (cmp item x)) first
      by_cmp Equal is first second = left_first (is_eq (cmp item x)) first
      by_cmp Greater is first second = right_first (is_eq (cmp item y)) refl is second

  -- no two items are equal
  abbrev Single : List Item → Type 0
  Single items = (item : Item) → equals cmp item items ≡ take 1 (equals cmp item items)

  none_left : (x : Item) (xs : List Item) → x ∷ xs ≡ x ∷ [] → xs ≡ []
  none_left x xs same = ap (drop 1) same

  single-gone : (item x : Item) (xs : List Item) → Single (x ∷ xs) → is_eq (cmp item x) ≡ true → equals cmp item xs ≡ []
  single-gone item x xs single eq = none_left x (equals cmp item xs) (sym (rw eq refl) ∙ single item ∙ (rw eq refl))

  single-tail : (x : Item) (xs : List Item) → Single (x ∷ xs) → Single xs
  single-tail x xs single item = by_eq (is_eq (cmp item x)) refl
    where
      by_eq : (eq : Bool) → is_eq (cmp item x) ≡ eq → equals cmp item xs ≡ take 1 (equals cmp item xs)
      by_eq true eq = rw (single-gone item x xs single eq) refl
      by_eq false eq = sym (rw eq refl) ∙ single item ∙ (rw eq refl)

  equals-merged_one : (item : Item) (xs ys : List Item) → InOrder cmp xs → InOrder cmp ys → Single xs → Single ys
      → equals cmp item (merged cmp true xs ys) ≡ take 1 (equals cmp item xs ++ equals cmp item ys)
  equals-merged_one item [] ys ordered ordered' single single' = single' item
  equals-merged_one item (x ∷ xs) [] ordered ordered' single single' =
      single item ∙ ap (take 1) (sym (append-nil (equals cmp item (x ∷ xs))))
  equals-merged_one item (x ∷ xs) (y ∷ ys) ordered ordered' single single' =
      by_cmp (cmp x y) refl (equals-merged_one item xs (y ∷ ys) ordered.1 ordered' (single-tail x xs single) single')
      (equals-merged_one item (x ∷ xs) ys ordered ordered'.1 single (single-tail y ys single'))
    where
      Left : Type 0
      Left = equals cmp item (merged cmp true xs (y ∷ ys)) ≡ take 1 (equals cmp item xs ++ equals cmp item (y ∷ ys))

      Right : Type 0
      Right = equals cmp item (merged cmp true (x ∷ xs) ys) ≡ take 1 (equals cmp item (x ∷ xs) ++ equals cmp item ys)

      left_first : (eq : Bool) → is_eq (cmp item x) ≡ eq → cmp x y ≡ Less → Left
          → cond eq (x ∷ equals cmp item (merged cmp true xs (y ∷ ys))) (equals cmp item (merged cmp true xs (y ∷ ys)))
          ≡ take 1 (cond eq (x ∷ equals cmp item xs) (equals cmp item xs) ++ equals cmp item (y ∷ ys))
      left_first true eq is first =
          ap (λ others. x ∷ others)
          (first ∙ (rw (single-gone item x xs single eq, not_right item x y ys is ordered' eq) refl))
      left_first false eq is first = first

      dropped : (eq : Bool) → is_eq (cmp item y) ≡ eq → cmp x y ≡ Equal → Right
          → equals cmp item (merged cmp true (x ∷ xs) ys) ≡ take 1 (equals cmp item (x ∷ xs) ++ cond eq (y ∷ equals cmp item ys) (equals cmp item ys))
      dropped true eq is second =
          let both : is_eq (cmp item x) ≡ true = ap is_eq (alike_right total x y item is) ∙ eq in
          second ∙ (rw both refl)
      dropped false eq is second = second

      right_first : (eq : Bool) → is_eq (cmp item y) ≡ eq → cmp x y ≡ Greater → Right
          → cond eq (y ∷ equals cmp item (merged cmp true (x ∷ xs) ys)) (equals cmp item (merged cmp true (x ∷ xs) ys))
          ≡ take 1 (equals cmp item (x ∷ xs) ++ cond eq (y ∷ equals cmp item ys) (equals cmp item ys))
      right_first true eq is second =
          let none : equals cmp item (x ∷ xs) ≡ [] = not_left item x y xs is ordered eq in
          ap (λ others. y ∷ others)
          (second ∙ ap (λ front. take 1 (front ++ equals cmp item ys)) none ∙ ap (take 1) (single-gone item y ys single' eq))
          ∙ ap (λ front. take 1 (front ++ y ∷ equals cmp item ys)) (sym none)
      right_first false eq is second = second

      by_cmp : (o : Ordering) → cmp x y ≡ o → Left → Right
          → equals cmp item (by_step (step_of true o) (x ∷ merged cmp true xs (y ∷ ys)) (merged cmp true (x ∷ xs) ys) (y ∷ merged cmp true (x ∷ xs) ys))
          ≡ take 1 (equals cmp item (x ∷ xs) ++ equals cmp item (y ∷ ys))
      by_cmp Less is first second = left_first (is_eq (cmp item x)) refl is first
      by_cmp Equal is first second = dropped (is_eq (cmp item y)) refl is second
      by_cmp Greater is first second = right_first (is_eq (cmp item y)) refl is second

  take_take : (xs : List Item) → take 1 xs ≡ take 1 (take 1 xs)
  take_take [] = refl
  take_take (x ∷ xs) = refl

  take_both : (xs ys : List Item) → take 1 (take 1 xs ++ take 1 ys) ≡ take 1 (xs ++ ys)
  take_both [] [] = refl
  take_both [] (y ∷ ys) = refl
  take_both (x ∷ xs) ys = refl

  single-sorted : (items list : List Item) → IsSorted cmp true items list → Single list
  single-sorted items list is item = is.each item ∙ take_take (equals cmp item items) ∙ ap (take 1) (sym (is.each item))

  -- the merge of sorted lists is what both have, sorted
  merge_is : (unique : Bool) (items others list list' : List Item) → IsSorted cmp unique items list → IsSorted cmp unique others list'
      → IsSorted cmp unique (items ++ others) (merged cmp unique list list')
  merge_is true items others list list' is is' =
      record {
        order = in_order-merged true list list' is.order is'.order;
        each = λ item.
            equals-merged_one item list list' is.order is'.order (single-sorted items list is) (single-sorted others list' is')
            ∙ (λ i. take 1 (is.each item i ++ is'.each item i)) ∙ take_both (equals cmp item items) (equals cmp item others)
            ∙ ap (take 1) (sym (equals-append item items others));
      }
  merge_is false items others list list' is is' =
      record {
        order = in_order-merged false list list' is.order is'.order;
        each = λ item.
            equals-merged_all item list list' is.order is'.order ∙ (λ i. is.each item i ++ is'.each item i) ∙ sym (equals-append item items others);
      }

  pub merge-sorted : (unique : Bool) (items others : List Item)
      → merged cmp unique (sorted cmp unique items) (sorted cmp unique others) ≡ sorted cmp unique (items ++ others)
  merge-sorted unique items others =
      only_sorted cmp total unique (items ++ others) (merged cmp unique (sorted cmp unique items) (sorted cmp unique others))
      (merge_is unique items others (sorted cmp unique items) (sorted cmp unique others) (sorted_is cmp total unique items) (sorted_is cmp total unique others))
