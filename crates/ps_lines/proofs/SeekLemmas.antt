-- The first newline by blocks: among the first bytes, by the lowest bit of a mask, and behind bytes of which none is one.
use Rattle.std.proofs.Common.{◌≡◌, ℕ, suc, ◌+◌, ◌*◌, ◌-◌, ◌<◌, ◌≤◌, not, Bool, true, false, true≢false, inl, inr, List, [], ◌∷◌, Option, Some, None, MatchOption, length, map, take, drop, get_or, sym, ap, ◌∙◌, arith, w64, if◌then◌else◌}
use Rattle.std.specs.List.{prefix_len}
use Rattle.std.specs.Int.{trailing_zeros}
use Rattle.std.proofs.lemmas.Bool.{cases_lt}
use Rattle.std.proofs.lemmas.List.{get_or-take, get_or-drop, length-take, take_rest}
use Rattle.std.proofs.lemmas.Simd.{length-chunk, trailing_mask_l, run_in_chunk_fails, run_in_chunk_stops, none_from_empty_mask}
use Rattle.memchr.specs.Find.{Nowhere, NoneBefore, IsFirst, IsFirstByte, Passes, is_byte}
use lib.Lanes.{chunk, mask_l}

-- where a bit of the mask is set, a byte passes
passes_within : (p : ℕ → Bool) (bytes : List ℕ) → 0 < mask_l (map p bytes) → prefix_len (λ x. not (p x)) bytes < length bytes
passes_within p [] set = absurd (omega arith)
passes_within p (byte ∷ bytes) set = by_test (p byte) set (passes_within p bytes)
  where
    by_test : (test : Bool) → 0 < (if test then 1 else 0) + 2 * mask_l (map p bytes) → (0 < mask_l (map p bytes) → prefix_len (λ x. not (p x)) bytes < length bytes)
        → (if not test then 1 + prefix_len (λ x. not (p x)) bytes else 0) < suc (length bytes)
    by_test true set within = omega arith
    by_test false set within = omega (arith, within (omega (arith, set)))

-- the lowest bit of the mask of a front is the place of its first newline
pub lowest_lane : (text : List ℕ) (count bits : ℕ) (result : Option ℕ) → count ≤ length text → count ≤ 64 → bits ≡ mask_l (map (is_byte 10) (chunk 0 count text))
    → MatchOption result (bits ≡ 0) (λ place. (0 < bits) × (place ≡ trailing_zeros w64 bits)) → IsFirst (Passes (is_byte 10) text) 0 count result
lowest_lane text count bits None room few mask none =
    λ k low high passes. true≢false (sym passes ∙ none_from_empty_mask (is_byte 10) text 0 count 0 (omega arith) (sym mask ∙ none) k low (omega arith))
lowest_lane text count bits (Some place) room few mask lowest =
    let long : length (chunk 0 count text) ≡ count = length-chunk 0 count text (omega arith) in
    let set : 0 < mask_l (map (is_byte 10) (chunk 0 count text)) = omega (arith, mask, lowest.0) in
    let counted : place ≡ prefix_len (λ x. not (is_byte 10 x)) (chunk 0 count text) =
    lowest.1 ∙ ap (trailing_zeros w64) mask ∙ trailing_mask_l (is_byte 10) 64 (chunk 0 count text) (omega (arith, long)) set in
    let within : place < count = omega (arith, counted, long, passes_within (is_byte 10) (chunk 0 count text) set) in
    let start : place ≡ 0 + place = omega arith in (
      record {
        low = omega arith;
        high = within;
        before = λ k low high passes. true≢false (sym passes ∙ run_in_chunk_fails (is_byte 10) text 0 count place 0 (omega arith) counted k low (omega arith));
      },
      ap (λ at. is_byte 10 (get_or text at 0)) start ∙ run_in_chunk_stops (is_byte 10) text 0 count place 0 (omega arith) counted within,
    )

module _ (text : List ℕ) (count : ℕ) (none : Nowhere (Passes (is_byte 10) text) 0 count) where
  -- the byte at a place behind the first ones
  behind : (offset : ℕ) → get_or (take (length text - count) (drop count text)) offset 0 ≡ get_or text (count + offset) 0
  behind offset = rw take_rest (get_or-drop count text offset 0)

  -- behind bytes of which none is a newline
  pub none_behind : (limit : ℕ) → Nowhere (Passes (is_byte 10) (take (length text - count) (drop count text))) 0 limit → Nowhere (Passes (is_byte 10) text) 0 (count + limit)
  none_behind limit further k low high passes =
      elim (cases_lt k count) [
        | inl within ↦ none k low within passes
        | inr ge ↦
            let back : count + (k - count) ≡ k = omega arith in
            further (k - count) (omega arith) (omega arith) (ap (λ byte. is_byte 10 byte) (behind (k - count) ∙ ap (λ place. get_or text place 0) back) ∙ passes)
      ]

  pub first_behind : (limit offset : ℕ) → count + limit ≤ length text → NoneBefore (Passes (is_byte 10) (take (length text - count) (drop count text))) 0 limit offset
      → Passes (is_byte 10) (take (length text - count) (drop count text)) offset
      → NoneBefore (Passes (is_byte 10) text) 0 (length text) (count + offset) × Passes (is_byte 10) text (count + offset)
  first_behind limit offset room found passes = (
    record {
      low = omega arith;
      high = omega (arith, found.high);
      before = none_behind offset found.before;
    },
    ap (λ byte. is_byte 10 byte) (sym (behind offset)) ∙ passes,
  )

-- a front that ends in a newline has the text's first one
pub first_of_front : (text : List ℕ) (end : ℕ) → end < length text → get_or text end 0 ≡ 10 → (place : Option ℕ)
    → IsFirstByte (is_byte 10) (take (end + 1) text) place → IsFirstByte (is_byte 10) text place
first_of_front text end within newline None none =
    absurd (none end (omega arith) (omega (arith, length-take (end + 1) text)) (ap (is_byte 10) (get_or-take (end + 1) text end 0 (omega arith) ∙ newline)))
first_of_front text end within newline (Some place) found =
    let high : place < end + 1 = omega (arith, found.0.high, length-take (end + 1) text) in (
      record {
        low = omega arith;
        high = omega arith;
        before = λ k low below passes. found.0.before k low below (ap (is_byte 10) (get_or-take (end + 1) text k 0 (omega arith)) ∙ passes);
      },
      ap (is_byte 10) (sym (get_or-take (end + 1) text place 0 (omega arith))) ∙ found.1,
    )
