-- The merge of two lists in order.
use Rattle.std.specs.Prelude.{ℕ, zero, suc, List, [], ◌∷◌, ◌++◌, Bool, if◌then◌else◌}
use Rattle.std.specs.declared.cmp.Ordering.{Ordering}
use Rattle.std.specs.declared.cmp.Ordering.TheVariants.{Less, Equal, Greater}
use Rattle.ps_lines.specs.Lines.{lines, text_of_lines}
use Rattle.ut_sort.specs.declared.merging.Step.{Step}
use Rattle.ut_sort.specs.declared.merging.Step.TheVariants as step

-- which of two first items goes on: the right's only where it is before the left's, and where equal items are one it is dropped
abbrev pub step_of : Bool → Ordering → Step
step_of unique Less = step.PutLeft
step_of unique Equal = if unique then step.DropRight else step.PutLeft
step_of unique Greater = step.PutRight

abbrev pub by_step : {Item : Type 0} → Step → List Item → List Item → List Item → List Item
by_step step.PutLeft left drops right = left
by_step step.DropRight left drops right = drops
by_step step.PutRight left drops right = right

module _ {Item : Type 0} (cmp : Item → Item → Ordering) where
  -- the items of both in order, the left's first among equal ones
  abbrev pub merged : Bool → List Item → List Item → List Item
  merged unique [] others = others
  merged unique (item ∷ items) [] = item ∷ items
  merged unique (item ∷ items) (other ∷ others) =
      by_step (step_of unique (cmp item other))
      (item ∷ merged unique items (other ∷ others))
      (merged unique (item ∷ items) others)
      (other ∷ merged unique (item ∷ items) others)

  -- those of so many lists, merged from the left
  abbrev pub merged_all : Bool → (ℕ → List Item) → ℕ → List Item
  merged_all unique lists zero = []
  merged_all unique lists (suc count) = merged unique (merged_all unique lists count) (lists count)

-- the text of the merge of two texts in order
abbrev pub merged_texts : (List ℕ → List ℕ → Ordering) → Bool → List ℕ → List ℕ → List ℕ
merged_texts cmp unique left right = text_of_lines (merged cmp unique (lines left) (lines right))

-- the same, of what has come and what is still to come of both
abbrev pub merged_with : (List ℕ → List ℕ → Ordering) → Bool → List ℕ → List ℕ → List ℕ × List ℕ → List ℕ
merged_with cmp unique left right more = merged_texts cmp unique (left ++ more.0) (right ++ more.1)

-- the text of the merge of so many texts in order, from the left
abbrev pub merged_of : (List ℕ → List ℕ → Ordering) → Bool → (ℕ → List ℕ) → ℕ → List ℕ
merged_of cmp unique texts count = text_of_lines (merged_all cmp unique (λ port. lines (texts port)) count)
