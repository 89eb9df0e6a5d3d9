-- Places in runs, and the selected ones of items.
use Rattle.std.proofs.Common.{◌≡◌, ◌<◌, ◌≤◌, ◌+◌, ◌-◌, ℕ, zero, suc, List, [], ◌∷◌, ◌++◌, take, drop, Bool, true, false, Some, refl, ap, sym, ◌∙◌, append_assoc, append-nil, arith, if◌then◌else◌}
use Rattle.std.proofs.Math.Dec.{ltb}
use Rattle.std.proofs.lemmas.Bool.{true≢false}
use Rattle.ut_args.specs.declared.lists.Range.{Range}
use Rattle.ut_slices.specs.declared.selections.Run.{Run}
use Rattle.ut_slices.specs.Cut.{is_selected, selected}
use Rattle.ut_slices.specs.Inner.Runs.{in_runs, is_before}

-- items that are all selected, or none of them, and those behind them
pub selected-cut : {Item : Type 0} (selects : ℕ → Bool) (all : Bool) (count index : ℕ) (items : List Item)
    → ((place : ℕ) → place < count → selects (index + place) ≡ all)
    → selected selects index items ≡ (if all then take count items else []) ++ selected selects (index + count) (drop count items)
selected-cut selects true zero index items are = ap (λ index. selected selects index items) (omega arith)
selected-cut selects false zero index items are = ap (λ index. selected selects index items) (omega arith)
selected-cut selects true (suc count) index [] are = refl
selected-cut selects false (suc count) index [] are = refl
selected-cut selects true (suc count) index (item ∷ items) are =
    let first : selects index ≡ true = ap selects (omega arith) ∙ are 0 (omega arith) in
    let next : (index + 1) + count ≡ index + suc count = omega arith in
    ap (λ first. if first then item ∷ selected selects (index + 1) items else selected selects (index + 1) items) first
    ∙ ap (λ rest. item ∷ rest) (selected-cut selects true count (index + 1) items (λ place low. ap selects (omega arith) ∙ are (place + 1) (omega (arith, low))))
    ∙ ap (λ index. item ∷ (take count items ++ selected selects index (drop count items))) next
selected-cut selects false (suc count) index (item ∷ items) are =
    let first : selects index ≡ false = ap selects (omega arith) ∙ are 0 (omega arith) in
    let next : (index + 1) + count ≡ index + suc count = omega arith in
    ap (λ first. if first then item ∷ selected selects (index + 1) items else selected selects (index + 1) items) first
    ∙ selected-cut selects false count (index + 1) items (λ place low. ap selects (omega arith) ∙ are (place + 1) (omega (arith, low)))
    ∙ ap (λ index. selected selects index (drop count items)) next

-- the same places under other numbers
pub selected-moved : {Item : Type 0} (selects others : ℕ → Bool) (index start : ℕ) (items : List Item) → ((place : ℕ) → selects (index + place) ≡ others (start + place))
    → selected selects index items ≡ selected others start items
selected-moved selects others index start [] same = refl
selected-moved selects others index start (item ∷ items) same =
    let first : selects index ≡ others start = ap selects (omega arith) ∙ same 0 ∙ ap others (omega arith) in
    let next = selected-moved selects others (index + 1) (start + 1) items (λ place. ap selects (omega arith) ∙ same (place + 1) ∙ ap others (omega arith)) in
    ap (λ first. if first then item ∷ selected selects (index + 1) items else selected selects (index + 1) items) first
    ∙ ap (λ rest. if others start then item ∷ rest else rest) next

-- a run is looked at, and those behind it
within-run : (run : Run) (others : List Run) (rest : Bool) (place : ℕ) → place < run.count → in_runs (run ∷ others) rest place ≡ run.selected
within-run run others rest place low =
    let is : ltb place run.count ≡ true = grind (arith, low) in
    ap (λ is. if is then run.selected else in_runs others rest (place - run.count)) is

behind-run : (run : Run) (others : List Run) (rest : Bool) (place : ℕ) → in_runs (run ∷ others) rest (run.count + place) ≡ in_runs others rest place
behind-run run others rest place =
    let is : ltb (run.count + place) run.count ≡ false = grind arith in
    let left : (run.count + place) - run.count ≡ place = omega arith in
    ap (λ is. if is then run.selected else in_runs others rest ((run.count + place) - run.count)) is ∙ ap (in_runs others rest) left

pub selected-run : {Item : Type 0} (run : Run) (others : List Run) (rest : Bool) (items : List Item)
    → selected (in_runs (run ∷ others) rest) 0 items
    ≡ (if run.selected then take run.count items else []) ++ selected (in_runs others rest) 0 (drop run.count items)
selected-run run others rest items =
    selected-cut (in_runs (run ∷ others) rest) run.selected run.count 0 items
    (λ place low. ap (in_runs (run ∷ others) rest) (omega arith) ∙ within-run run others rest place low)
    ∙ ap (λ behind. (if run.selected then take run.count items else []) ++ behind)
    (selected-moved (in_runs (run ∷ others) rest) (in_runs others rest) (0 + run.count) 0 (drop run.count items) (λ place. ap (in_runs (run ∷ others) rest) (omega arith) ∙ behind-run run others rest place ∙ ap (in_runs others rest) (omega arith)))

-- behind the runs all are selected, or none
selected-from : {Item : Type 0} (rest : Bool) (index : ℕ) (items : List Item) → selected (in_runs [] rest) index items ≡ (if rest then items else [])
selected-from true index [] = refl
selected-from false index [] = refl
selected-from true index (item ∷ items) = ap (λ items. item ∷ items) (selected-from true (index + 1) items)
selected-from false index (item ∷ items) = selected-from false (index + 1) items

pub selected-rest : {Item : Type 0} (rest : Bool) (items : List Item) → selected (in_runs [] rest) 0 items ≡ (if rest then items else [])
selected-rest rest items = selected-from rest 0 items

-- runs say what ranges do, up to some place
pub record Follows (ranges : List Range) (runs : List Run) (from : ℕ) : Type 0 where
  pub follows : (others : List Run) (rest : Bool) (index : ℕ)
      → in_runs (runs ++ others) rest index ≡ (if ltb index from then is_selected ranges index else in_runs others rest (index - from))

pub Follows-start : (ranges : List Range) → Follows ranges [] 0
Follows-start ranges =
    record {
      follows = λ others rest index.
          let is : ltb index 0 ≡ false = grind arith in
          let left : index - 0 ≡ index = omega arith in
          sym (ap (λ is. if is then is_selected ranges index else in_runs others rest (index - 0)) is ∙ ap (in_runs others rest) left);
    }

next-at : (ranges : List Range) (run : Run) (others : List Run) (rest : Bool) (from end index : ℕ) (first second : Bool)
    → run.selected ≡ is_selected ranges from → run.count ≡ end - from → from < end
    → ((index : ℕ) → from ≤ index → is_before index (Some end) ≡ true → is_selected ranges index ≡ is_selected ranges from)
    → ltb index from ≡ first → ltb index end ≡ second
    → (if first then is_selected ranges index else in_runs (run ∷ others) rest (index - from))
    ≡ (if second then is_selected ranges index else in_runs others rest (index - end))
next-at ranges run others rest from end index true true is counts more same low high = refl
next-at ranges run others rest from end index true false is counts more same low high = absurd (true≢false (sym (grind (arith, low, more)) ∙ high))
next-at ranges run others rest from end index false true is counts more same low high =
    let at : from ≤ index = grind (arith, low) in
    let below : index - from < run.count = grind (arith, high, counts, at) in
    within-run run others rest (index - from) below ∙ is ∙ sym (same index at high)
next-at ranges run others rest from end index false false is counts more same low high =
    let at : end ≤ index = grind (arith, high) in
    let place : index - from ≡ run.count + (index - end) = omega (arith, counts, more, at) in
    ap (in_runs (run ∷ others) rest) place ∙ behind-run run others rest (index - end)

pub Follows-next : (ranges : List Range) (runs : List Run) (run : Run) (from end : ℕ) → Follows ranges runs from
    → run.selected ≡ is_selected ranges from → run.count ≡ end - from → from < end
    → ((index : ℕ) → from ≤ index → is_before index (Some end) ≡ true → is_selected ranges index ≡ is_selected ranges from)
    → Follows ranges (runs ++ run ∷ []) end
Follows-next ranges runs run from end done is counts more same =
    record {
      follows = λ others rest index.
          ap (λ runs. in_runs runs rest index) (append_assoc runs (run ∷ []) others) ∙ done.follows (run ∷ others) rest index
          ∙ next-at ranges run others rest from end index (ltb index from) (ltb index end) is counts more same refl refl;
    }

all-at : (ranges : List Range) (rest : Bool) (from index : ℕ) (first : Bool) → ltb index from ≡ first → rest ≡ is_selected ranges from
    → ((index : ℕ) → from ≤ index → true ≡ true → is_selected ranges index ≡ is_selected ranges from)
    → (if first then is_selected ranges index else rest) ≡ is_selected ranges index
all-at ranges rest from index true low is same = refl
all-at ranges rest from index false low is same = is ∙ sym (same index (grind (arith, low)) refl)

pub Follows-all : (ranges : List Range) (runs : List Run) (rest : Bool) (from : ℕ) → Follows ranges runs from → rest ≡ is_selected ranges from
    → ((index : ℕ) → from ≤ index → true ≡ true → is_selected ranges index ≡ is_selected ranges from)
    → (index : ℕ) → in_runs runs rest index ≡ is_selected ranges index
Follows-all ranges runs rest from done is same index =
    ap (λ runs. in_runs runs rest index) (sym (append-nil runs)) ∙ done.follows [] rest index ∙ all-at ranges rest from index (ltb index from) refl is same
