-- Where bytes stand in a text with letters in either case, found by one of them.
use Rattle.std.proofs.Common.{ℕ, ◌≡◌, ◌+◌, ◌-◌, ◌<◌, ◌≤◌, inl, inr, true, List, length, slice_index, slice_index_or, drop, Some, None, ap, ap₂, subst, ◌∙◌, arith, length-drop}
use Rattle.std.proofs.lemmas.Bool.{cases_lt}
use Rattle.std.proofs.lemmas.List.{get_or-drop, get_or_default}
use Rattle.memchr.specs.Find.{Nowhere, Passes, IsFirstByte, is_byte2}
use Rattle.ut_regex.specs.Inner.Literals.{StandsAt}
use Rattle.ut_regex.specs.Spans.{other_case}
use Rattle.ut_regex.proofs.LiteralLemmas.{fits_either, stands_fits, stands_long, stands_within}

module _ (text bytes : List ℕ) (rare byte other from : ℕ) (within : rare < length bytes) (read : byte ≡ slice_index_or bytes rare byte) (other_is : other ≡ other_case byte)
    (after : rare ≤ from) (nowhere : Nowhere (StandsAt true text bytes) 0 (from - rare)) where
  is : byte ≡ slice_index bytes rare
  is = read ∙ get_or_default bytes rare byte 0 within

  passes : (place : ℕ) → StandsAt true text bytes place → is_byte2 byte other (slice_index text (place + rare)) ≡ true
  passes place stands =
      ap₂ (λ byte other. is_byte2 byte other (slice_index text (place + rare))) is (other_is ∙ ap other_case is)
      ∙ fits_either (slice_index bytes rare) (slice_index text (place + rare)) (stands_fits true text bytes place stands rare within)

  fits-in : (place : ℕ) → StandsAt true text bytes place → place + length bytes ≤ length text
  fits-in place stands =
      let low = stands_long true text bytes place stands (omega (arith, within)) in
      stands_within true text bytes place (omega (arith, low)) stands

  passes-left : (place : ℕ) → from ≤ place + rare → StandsAt true text bytes place → Passes (is_byte2 byte other) (drop from text) (place + rare - from)
  passes-left place late stands =
      let there : from + (place + rare - from) ≡ place + rare = omega (arith, late) in
      ap (is_byte2 byte other) (get_or-drop from text (place + rare - from) 0 ∙ ap (λ place. slice_index text place) there) ∙ passes place stands

  -- none of the byte is left
  pub none-left : IsFirstByte (is_byte2 byte other) (drop from text) None → (place : ℕ) → StandsAt true text bytes place → ⊥
  none-left none place stands = elim (cases_lt place (from - rare)) [
    | inl before ↦ nowhere place (omega arith) before stands
    | inr behind ↦
        let size = length-drop from text in
        let long = fits-in place stands in
        none (place + rare - from) (omega arith) (omega (arith, size, long, within, after, behind)) (passes-left place (omega (arith, after, behind)) stands)
  ]

  -- before the byte that is found they don't stand
  pub before-found : (offset : ℕ) → IsFirstByte (is_byte2 byte other) (drop from text) (Some offset) → (place : ℕ) → place < from + offset - rare
      → StandsAt true text bytes place → ⊥
  before-found offset found place low stands = elim (cases_lt place (from - rare)) [
    | inl before ↦ nowhere place (omega arith) before stands
    | inr behind ↦ found.0.before (place + rare - from) (omega arith) (omega (arith, low, after, behind)) (passes-left place (omega (arith, after, behind)) stands)
  ]

  -- there is no room for them where it is
  pub too-short : (offset : ℕ) → IsFirstByte (is_byte2 byte other) (drop from text) (Some offset) → length text - (from + offset - rare) < length bytes
      → (place : ℕ) → StandsAt true text bytes place → ⊥
  too-short offset found short place stands =
      let long = fits-in place stands in
      before-found offset found place (omega (arith, long, short)) stands

  -- nor do they stand where it is
  pub after-found : (offset : ℕ) → IsFirstByte (is_byte2 byte other) (drop from text) (Some offset) → ¬ StandsAt true text bytes (from + offset - rare)
      → (place : ℕ) → place < from + (offset + 1) - rare → StandsAt true text bytes place → ⊥
  after-found offset found not_there place low stands = elim (cases_lt place (from + offset - rare)) [
    | inl before ↦ before-found offset found place before stands
    | inr behind ↦ not_there (subst (λ place. StandsAt true text bytes place) (omega (arith, low, behind, after)) stands)
  ]

  -- the text has ended
  pub at-end : length text ≤ from → (place : ℕ) → StandsAt true text bytes place → ⊥
  at-end end place stands =
      let long = fits-in place stands in
      nowhere place (omega arith) (omega (arith, long, end, within, after)) stands
