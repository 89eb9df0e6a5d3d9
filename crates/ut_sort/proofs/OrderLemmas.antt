-- The order of lines is total, and tells all lines apart that aren't the same bytes, but with -u.
use Rattle.std.proofs.Common.{◌≡◌, ℕ, List, [], ◌∷◌, Bool, true, false, if◌then◌else◌, Option, refl, ap, sym, ◌∙◌, Ordering, ◌++◌}
use Rattle.std.specs.Cmp.{IsTotalOrder}
use Rattle.std.specs.Cmp.Derive.{point_total}
use Rattle.std.specs.FinMap.{slice_cmp-IsAntisymmetric, nat_cmp-IsAntisymmetric}
use Rattle.std.specs.declared.cmp.Ordering.TheVariants.{Less, Equal, Greater}
use Rattle.std.specs.Ordering.{ordering_then, is_eq}
use Rattle.std.proofs.lemmas.Cmp.{then_total, on_total, back_total, nat_cmp_total, nat_list_cmp_total}
use Rattle.std.proofs.lemmas.Bool.{true≢false}
use Rattle.ut_args.specs.declared.SortArgs.{SortArgs}
use Rattle.ut_args.specs.declared.Key.{Key}
use Rattle.ut_args.specs.declared.Ordering.{Ordering as Letters}
use Rattle.ut_sort.specs.Numbers.{sizes_cmp, numbers_cmp, whole, fraction, above_zero, below_zero}
use Rattle.ut_sort.specs.Keys.{bytes_cmp, folded, texts_cmp, directed, letters_of, key_in, key_cmp, keys_cmp, keys_in_force}
use Rattle.ut_sort.specs.Order.{last_cmp, lines_cmp, order_of, sorted_lines}
use Rattle.ut_sort.specs.Sorted.{IsSorted}
use Rattle.ut_sort.specs.Merging.{merged}
use Rattle.ut_sort.proofs.MergeLemmas.{merge-sorted}
use Rattle.ut_sort.proofs.SortedLemmas.{sorted_is, only_sorted}

sizes_total : IsTotalOrder sizes_cmp
sizes_total = then_total (on_total whole nat_cmp_total) (on_total fraction nat_list_cmp_total)

numbers_total : IsTotalOrder numbers_cmp
numbers_total = then_total (on_total above_zero sizes_total) (back_total (on_total below_zero sizes_total))

texts_total : (letters : Letters) → IsTotalOrder (texts_cmp letters)
texts_total letters = by_letters letters.numeric letters.fold
  where
    by_letters : (numeric fold : Bool)
        → IsTotalOrder (λ one other. if numeric then numbers_cmp one other else if fold then bytes_cmp (folded one) (folded other) else bytes_cmp one other)
    by_letters true fold = numbers_total
    by_letters false true = on_total folded nat_list_cmp_total
    by_letters false false = nat_list_cmp_total

directed_total : (reverse : Bool) (cmp : List ℕ → List ℕ → Ordering) → IsTotalOrder cmp → IsTotalOrder (directed reverse cmp)
directed_total true cmp total = back_total total
directed_total false cmp total = total

key_total : (separator : Option ℕ) (key : Key) → IsTotalOrder (key_cmp separator key)
key_total separator key =
    on_total (key_in separator key) (directed_total (letters_of key).reverse (texts_cmp (letters_of key)) (texts_total (letters_of key)))

keys_total : (separator : Option ℕ) (keys : List Key) → IsTotalOrder (keys_cmp separator keys)
keys_total separator [] = point_total
keys_total separator (key ∷ others) = then_total (key_total separator key) (keys_total separator others)

last_total : (unique reverse : Bool) → IsTotalOrder (last_cmp unique reverse)
last_total true reverse = point_total
last_total false reverse = directed_total reverse bytes_cmp nat_list_cmp_total

pub lines_total : (separator : Option ℕ) (keys : List Key) (unique reverse : Bool) → IsTotalOrder (lines_cmp separator keys unique reverse)
lines_total separator keys unique reverse = then_total (keys_total separator keys) (last_total unique reverse)

pub order_total : (args : SortArgs) → IsTotalOrder (order_of args)
order_total args = lines_total args.separator (keys_in_force args.ordering args.keys) args.unique args.ordering.reverse

-- where neither tells apart, the second doesn't
then_equal : (o p : Ordering) → ordering_then o p ≡ Equal → p ≡ Equal
then_equal Less p is = absurd (true≢false (sym (ap is_eq is)))
then_equal Equal p is = is
then_equal Greater p is = absurd (true≢false (sym (ap is_eq is)))

then_point : (o : Ordering) → ordering_then o Equal ≡ o
then_point Less = refl
then_point Equal = refl
then_point Greater = refl

pub bytes_same : (one other : List ℕ) → bytes_cmp one other ≡ Equal → one ≡ other
bytes_same = slice_cmp-IsAntisymmetric nat_cmp-IsAntisymmetric

last_same : (unique reverse : Bool) (one other : List ℕ) → unique ≡ false → last_cmp unique reverse one other ≡ Equal → one ≡ other
last_same true reverse one other not_unique is = absurd (true≢false not_unique)
last_same false true one other not_unique is = sym (bytes_same other one is)
last_same false false one other not_unique is = bytes_same one other is

pub lines_same : (separator : Option ℕ) (keys : List Key) (unique reverse : Bool) → unique ≡ false
    → (one other : List ℕ) → lines_cmp separator keys unique reverse one other ≡ Equal → one ≡ other
lines_same separator keys unique reverse all one other is =
    last_same unique reverse one other all (then_equal (keys_cmp separator keys one other) (last_cmp unique reverse one other) is)

pub order_same : (args : SortArgs) → args.unique ≡ false → (one other : List ℕ) → order_of args one other ≡ Equal → one ≡ other
order_same args all = lines_same args.separator (keys_in_force args.ordering args.keys) args.unique args.ordering.reverse all

pub order_unique : (args : SortArgs) → args.unique ≡ true → (one other : List ℕ)
    → order_of args one other ≡ keys_cmp args.separator (keys_in_force args.ordering args.keys) one other
order_unique args unique one other =
    ap (λ unique. ordering_then (keys_cmp args.separator (keys_in_force args.ordering args.keys) one other) (last_cmp unique args.ordering.reverse one other)) unique
    ∙ then_point (keys_cmp args.separator (keys_in_force args.ordering args.keys) one other)

pub lines_sorted : (args : SortArgs) (texts : List (List ℕ)) → IsSorted (order_of args) args.unique texts (sorted_lines args texts)
lines_sorted args texts = sorted_is (order_of args) (order_total args) args.unique texts

pub only_lines_sorted : (args : SortArgs) (texts list : List (List ℕ)) → IsSorted (order_of args) args.unique texts list → list ≡ sorted_lines args texts
only_lines_sorted args texts list is = only_sorted (order_of args) (order_total args) args.unique texts list is

pub lines_merged : (args : SortArgs) (texts others : List (List ℕ))
    → merged (order_of args) args.unique (sorted_lines args texts) (sorted_lines args others) ≡ sorted_lines args (texts ++ others)
lines_merged args texts others = merge-sorted (order_of args) (order_total args) args.unique texts others

pub ruleset order_laws = (order_total, order_same, order_unique, lines_sorted, only_lines_sorted, lines_merged)
