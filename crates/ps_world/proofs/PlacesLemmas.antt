-- A path's components.
use Rattle.std.proofs.Common.{◌≡◌, ℕ, ◌+◌, ◌-◌, ◌<◌, ◌≤◌, suc, Bool, true, false, cond, not, List, [], ◌∷◌, length, take, drop, Some, None, refl, sym, ap, arith, ◌∙◌, ltb, inl, inr, length-drop, length-append, ◌++◌}
use Rattle.std.specs.List.{list_any, position, position_or_len, prefix_len, before_first, slice_split, onto_first}
use Rattle.std.proofs.lemmas.List.{take_rest, take_all}
use Rattle.std.proofs.Math.Seq.{take-append_seam}
use Rattle.std.proofs.lemmas.Bool.{cases_lt, false≢true}
use Rattle.std.proofs.lemmas.List.Splits.{slice_split_first, slice_split-cons_no}
use Rattle.std.proofs.lemmas.Grind.{common_steps}
use Rattle.ps_world.specs.Paths.{Components, is_slash, has_slash, parent_of}
use Rattle.ps_world.specs.Places.{IsLastComponent, BeginsWithComponent}

module _ {Item : Type 0} (test : Item → Bool) where
  first_case : (item : Item) (items : List Item) (passes : Bool) → test item ≡ passes → list_any test (take (prefix_len (λ x. not (test x)) items) items) ≡ false
      → list_any test (take (cond (not passes) (1 + prefix_len (λ x. not (test x)) items) 0) (item ∷ items)) ≡ false
  first_case item items true is others = refl
  first_case item items false is others =
      let after : 1 + prefix_len (λ x. not (test x)) items ≡ suc (prefix_len (λ x. not (test x)) items) = omega arith in
      rw (after, is) others

  -- nothing before the first item that passes passes
  pub list_any-before_first : (items : List Item) → list_any test (before_first test items) ≡ false
  list_any-before_first [] = refl
  list_any-before_first (item ∷ items) = first_case item items (test item) refl (list_any-before_first items)

  alone_case : (item : Item) (items : List Item) (passes : Bool) → test item ≡ passes → list_any test (item ∷ items) ≡ false
      → (list_any test items ≡ false → slice_split test items ≡ items ∷ []) → slice_split test (item ∷ items) ≡ (item ∷ items) ∷ []
  alone_case item items true is none others = let never = rw is at none in absurd (false≢true (sym never))
  alone_case item items false is none others = let none_after = rw is at none in slice_split-cons_no test item items is ∙ ap (onto_first item) (others none_after)

  -- where no item passes, the list is its one part
  pub slice_split-alone : (items : List Item) → list_any test items ≡ false → slice_split test items ≡ items ∷ []
  slice_split-alone [] none = refl
  slice_split-alone (item ∷ items) none = alone_case item items (test item) refl none (slice_split-alone items)

  place_case : (place end : ℕ) (found : Bool) → Some end ≡ cond found (Some place) None → end ≡ place
  place_case place end true is = cc
  place_case place end false is = cc

  -- the place that is found is the first that passes
  pub position-first : (items : List Item) (end : ℕ) → Some end ≡ position test items → end ≡ position_or_len test items
  position-first items end is = place_case _ end _ is

  none_case : (place size : ℕ) → None ≡ cond (ltb place size) (Some place) None → size ≤ place
  none_case place size is = elim (cases_lt place size) [ inl below ↦ absurd (let found : ltb place size ≡ true = grind (arith, common_steps) in let never = rw found at is in cc) | inr above ↦ above ]

  -- where none is found, none passes
  pub position-none : (items : List Item) → None ≡ position test items → list_any test items ≡ false
  position-none items is =
      let past : length items ≤ position_or_len test items = none_case _ _ is in
      let all : take (position_or_len test items) items ≡ items = take_all _ _ past in
      rw (← all) (list_any-before_first items)

-- a text's first component is what stands before its first slash
pub first_component : (text : List ℕ) (end : ℕ) → Some end ≡ position is_slash text → end < length text
    → BeginsWithComponent text (take end text) (take (length text - (end + 1)) (drop (end + 1) text))
first_component text end found within =
    let is : end ≡ position_or_len is_slash text = position-first is_slash text end found in
    let inside : position_or_len is_slash text < length text = omega arith in
    record {
      components_are = rw (take_rest text (end + 1), is) (slice_split_first is_slash text 0 inside);
      part = rw is (list_any-before_first is_slash text);
      shorter = rw (take_rest text (end + 1)) (omega (arith, length-drop (end + 1) text));
    }

-- without a slash the text is one component
pub last_component : (text : List ℕ) → None ≡ position is_slash text → IsLastComponent text
last_component text none =
    let part : has_slash text ≡ false = position-none is_slash text none in
    record { alone = slice_split-alone is_slash text part; part = part }

-- what is above a name in a directory is the directory
pub parent_of_child : (dir : Components) (name : List ℕ) → parent_of (dir ++ name ∷ []) ≡ dir
parent_of_child dir name =
    let size : length (dir ++ name ∷ []) - 1 ≡ length dir = omega (arith, length-append dir (name ∷ [])) in
    rw size (take-append_seam dir (name ∷ []))
