-- What the operations on vectors of 16 bytes give at each lane.
use Rattle.std.proofs.Common.{◌≡◌, ℕ, zero, suc, ◌+◌, ◌-◌, ◌*◌, ◌/◌, ◌%◌, ◌<◌, ◌≤◌, ◌^◌, List, inl, inr, false, not, cond, leb, ltb, bit_or, length, get_or, map, replicate, refl, sym, ap, subst, ◌∙◌, arith, w8, w64}
use Rattle.std.specs.Int.{trailing_zeros}
use Rattle.std.specs.List.{prefix_len}
use Rattle.std.specs.Simd.Lanes.{zip2, mask_l, sel_l, top}
use Rattle.std.proofs.lemmas.Bool.{cases_lt, leb-false, not-true}
use Rattle.std.proofs.lemmas.Nat.{le_or_l, le_or_r}
use Rattle.std.proofs.lemmas.List.{length-map}
use Rattle.std.proofs.lemmas.List.Sums.{prefix_len_passes, prefix_len-le-length}
use Rattle.std.proofs.lemmas.Simd.{length-zip2, get_or-zip2, get_or-replicate, length-sel_l, get_or-sel_l, length-swz_l, get_or-swz_l_below, swz_l, SwzOk, SwzOk-from_below, Each1-from_get_or, tops_compared, zip2_splat_left, mask_l-mod, leading_from_mask_l, trailing_mask_l}
use Rattle.ut_regex.specs.Inner.Lanes.{HasLanes}

-- an operator on two vectors
pub lanes-zip2 : (f : ℕ → ℕ → ℕ) (first second : List ℕ) → length first ≡ 16 → length second ≡ 16 → HasLanes (zip2 f first second) (λ lane. f (get_or first lane 0) (get_or second lane 0))
lanes-zip2 f first second p q = record {
  long = length-zip2 f first second (p ∙ sym q) ∙ p;
  each = λ lane low. get_or-zip2 f first second lane 0 0 0 (omega arith) (omega arith);
}

-- an operator on a vector and one value
pub lanes-splat : (f : ℕ → ℕ → ℕ) (lanes : List ℕ) (value : ℕ) → length lanes ≡ 16 → HasLanes (zip2 f lanes (replicate 16 value)) (λ lane. f (get_or lanes lane 0) value)
lanes-splat f lanes value long =
    let h = lanes-zip2 f lanes (replicate 16 value) long refl in
    record { long = h.long; each = λ lane low. h.each lane low ∙ ap (f (get_or lanes lane 0)) (get_or-replicate 16 lane value 0 low) }

-- the lesser of two vectors
pub lanes-lesser : (first second : List ℕ) → length first ≡ 16 → length second ≡ 16
    → HasLanes (sel_l (map (top 7) (zip2 (λ a b. cond (ltb a b) 255 0) first second)) first second) (λ lane. cond (ltb (get_or first lane 0) (get_or second lane 0)) (get_or first lane 0) (get_or second lane 0))
lanes-lesser first second p q =
    let long : length (zip2 ltb first second) ≡ 16 = length-zip2 ltb first second (p ∙ sym q) ∙ p in
    subst (λ tests. HasLanes (sel_l tests first second) (λ lane. cond (ltb (get_or first lane 0) (get_or second lane 0)) (get_or first lane 0) (get_or second lane 0)))
    (sym (tops_compared w8 ltb first second)) (record {
      long = length-sel_l (zip2 ltb first second) first second (long ∙ sym p) (long ∙ sym q) ∙ long;
      each = λ lane low.
          get_or-sel_l (zip2 ltb first second) first second lane 0 (omega (arith, long, low)) (omega (arith, p, low)) (omega (arith, q, low))
          ∙ ap (λ test. cond test (get_or first lane 0) (get_or second lane 0)) (get_or-zip2 ltb first second lane 0 0 false (omega (arith, p, low)) (omega (arith, q, low)));
    })

module _ (places : List ℕ) (long : length places ≡ 16) (small : (lane : ℕ) → lane < 16 → get_or places lane 0 < 16) where
  -- such places may be looked up
  pub may_look_up : SwzOk w8 16 16 0 places
  may_look_up = SwzOk-from_below w8 16 1 16 0 places refl (omega (arith, long)) (Each1-from_get_or (λ place. place < 16) places 0 (λ lane low. small lane (omega (arith, low, long))))

  -- and the entries are those of the table
  pub lanes-look_up : (table : List ℕ) → HasLanes (swz_l w8 16 table 0 places) (λ lane. get_or table (get_or places lane 0) 0)
  lanes-look_up table = record {
    long = length-swz_l w8 16 table 0 places ∙ long;
    each = λ lane low.
        let here : 16 * ((0 + lane) / 16) + get_or places lane 0 ≡ get_or places lane 0 = omega (arith, low) in
        get_or-swz_l_below w8 16 table 0 places lane (omega (arith, low, long)) (small lane low) ∙ ap (λ place. get_or table place 0) here;
  }

-- the mask of the lanes that aren't 0
abbrev some_bits : List ℕ → ℕ
some_bits lanes = mask_l (map (top 7) (zip2 (λ a b. cond (leb a b) 255 0) (replicate 16 1) lanes)) % 2 ^ 64

module _ (lanes : List ℕ) (long : length lanes ≡ 16) where
  mask-some : some_bits lanes ≡ mask_l (map (leb 1) lanes)
  mask-some =
      ap (λ ms. mask_l ms % 2 ^ 64) (tops_compared w8 leb (replicate 16 1) lanes ∙ zip2_splat_left leb 1 16 lanes long)
      ∙ mask_l-mod (map (leb 1) lanes) 64 (omega (arith, length-map lanes (leb 1), long))

  -- the lanes before the first that isn't 0 are 0
  zero-before : (lane : ℕ) → lane < prefix_len (λ value. not (leb 1 value)) lanes → get_or lanes lane 0 ≡ 0
  zero-before lane low = omega (arith, leb-false 1 (get_or lanes lane 0) (not-true _ (prefix_len_passes (λ value. not (leb 1 value)) lanes lane 0 low)))

  pub none-set : some_bits lanes ≡ 0 → (lane : ℕ) → lane < 16 → get_or lanes lane 0 ≡ 0
  none-set none lane low =
      let all : prefix_len (λ value. not (leb 1 value)) lanes ≡ length lanes =
      leading_from_mask_l (leb 1) lanes (sym mask-some ∙ none) in
      zero-before lane (omega (arith, all, long, low))

  module _ (some : ¬ (some_bits lanes ≡ 0)) where
    counted : trailing_zeros w64 (some_bits lanes) ≡ prefix_len (λ value. not (leb 1 value)) lanes
    counted =
        ap (trailing_zeros w64) mask-some
        ∙ trailing_mask_l (leb 1) 64 lanes (omega (arith, long)) (positive (mask_l (map (leb 1) lanes)) (λ none. some (mask-some ∙ none)))
      where
        positive : (bits : ℕ) → ¬ (bits ≡ 0) → 0 < bits
        positive zero h = absurd (h refl)
        positive (suc bits) h = omega arith

    pub counted-within : trailing_zeros w64 (some_bits lanes) ≤ 16
    counted-within = omega (arith, counted, prefix_len-le-length (λ value. not (leb 1 value)) lanes, long)

    pub counted-zero : (lane : ℕ) → lane < trailing_zeros w64 (some_bits lanes) → get_or lanes lane 0 ≡ 0
    counted-zero lane low = zero-before lane (subst (λ count. lane < count) counted low)

-- the values of lanes from a place on are 0
module _ (value : ℕ → ℕ) where
  pub zero-lanes : (place : ℕ) (lanes : List ℕ) (count : ℕ) → HasLanes lanes (λ lane. value (place + lane)) → count ≤ 16
      → ((lane : ℕ) → lane < count → get_or lanes lane 0 ≡ 0) → (later : ℕ) → place ≤ later → later < place + count → value later ≡ 0
  zero-lanes place lanes count has few zeros later low high =
      let lane : place + (later - place) ≡ later = omega (arith, low) in
      ap value (sym lane) ∙ sym (has.each (later - place) (omega (arith, low, high, few))) ∙ zeros (later - place) (omega (arith, low, high))

  zero-left : (first second : ℕ) → bit_or first second ≡ 0 → first ≡ 0
  zero-left first second none = omega (arith, none, le_or_l first second)

  zero-right : (first second : ℕ) → bit_or first second ≡ 0 → second ≡ 0
  zero-right first second none = omega (arith, none, le_or_r first second)

  pub zero-in-four : (place : ℕ) (first second third fourth front back whole : List ℕ) → HasLanes first (λ lane. value (place + lane))
      → HasLanes second (λ lane. value (place + 16 + lane)) → HasLanes third (λ lane. value (place + 32 + lane)) → HasLanes fourth (λ lane. value (place + 48 + lane))
      → HasLanes front (λ lane. bit_or (get_or first lane 0) (get_or second lane 0)) → HasLanes back (λ lane. bit_or (get_or third lane 0) (get_or fourth lane 0))
      → HasLanes whole (λ lane. bit_or (get_or front lane 0) (get_or back lane 0)) → ((lane : ℕ) → lane < 16 → get_or whole lane 0 ≡ 0)
      → (later : ℕ) → place ≤ later → later < place + 64 → value later ≡ 0
  zero-in-four place first second third fourth front back whole one two three four joined others all none later low high =
      let in_front = λ (lane : ℕ) (within : lane < 16). sym (joined.each lane within) ∙ zero-left (get_or front lane 0) (get_or back lane 0) (sym (all.each lane within) ∙ none lane within) in
      let in_back = λ (lane : ℕ) (within : lane < 16). sym (others.each lane within) ∙ zero-right (get_or front lane 0) (get_or back lane 0) (sym (all.each lane within) ∙ none lane within) in
      elim (cases_lt later (place + 32)) [
        | inl half ↦ elim (cases_lt later (place + 16)) [
          | inl here ↦ zero-lanes place first 16 one (omega arith) (λ lane within. zero-left (get_or first lane 0) (get_or second lane 0) (in_front lane within)) later low here
          | inr behind ↦
              zero-lanes (place + 16) second 16 two (omega arith) (λ lane within. zero-right (get_or first lane 0) (get_or second lane 0) (in_front lane within)) later behind
              (omega (arith, half))
        ]
        | inr half ↦ elim (cases_lt later (place + 48)) [
          | inl here ↦
              zero-lanes (place + 32) third 16 three (omega arith) (λ lane within. zero-left (get_or third lane 0) (get_or fourth lane 0) (in_back lane within)) later half
              (omega (arith, here))
          | inr behind ↦
              zero-lanes (place + 48) fourth 16 four (omega arith) (λ lane within. zero-right (get_or third lane 0) (get_or fourth lane 0) (in_back lane within)) later behind
              (omega (arith, high))
        ]
      ]
