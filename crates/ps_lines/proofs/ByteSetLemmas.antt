-- What a bit of the four words is after each call.
use Rattle.std.proofs.Common.{◌≡◌, ℕ, ◌-◌, ◌*◌, ◌<◌, ◌≤◌, ◌^◌, ◌/◌, ◌%◌, ◌==◌, ◌||◌, ◌&&◌, ◌≢◌, inl, inr, not, nat_lt, true, false, List, [], ◌∷◌, length, slice_index_or, slice_set, bit_or, refl, ap, sym, ◌∙◌, arith, w64, zero, suc}
use Rattle.std.proofs.lemmas.Bool.Decides.{eqb_tells, leb_tells, nat_tests}
use Rattle.std.proofs.lemmas.List.{get_or-set_same, get_or-set_other, get_or_past}
use Rattle.std.proofs.lemmas.Nat.Bits.{bit_at-zero, bit_at_set_same, bit_at_set_other, bit_at_not, bit_at-lt}
use Rattle.std.specs.Int.{bit_at}
use Rattle.ps_lines.specs.Bits.{bit_of}

-- the words with the bit of a byte set
abbrev pub with_bit : List ℕ → ℕ → List ℕ
with_bit words added = slice_set words (added / 64) (bit_or (slice_index_or words (added / 64) 0) (1 * 2 ^ (added % 64) % 2 ^ 64))

bit_of-with_bit_same : (words : List ℕ) (added : ℕ) → added / 64 < length words → bit_of (with_bit words added) added ≡ 1
bit_of-with_bit_same words added h =
    ap (λ word. bit_at word (added % 64)) (get_or-set_same words (added / 64) _ 0 h)
    ∙ bit_at_set_same w64 (slice_index_or words (added / 64) 0) (added % 64) (omega arith)

bit_of-with_bit_other : (words : List ℕ) (added byte : ℕ) → added / 64 < length words → byte ≢ added → bit_of (with_bit words added) byte ≡ bit_of words byte
bit_of-with_bit_other words added byte h differ =
    elim (eqb_tells (byte / 64) (added / 64)) [
      | inl same ↦
          let e : byte / 64 ≡ added / 64 = same.1 in
          let place : byte % 64 ≢ added % 64 = λ f. differ (omega (arith, e, f)) in
          ap (λ word. bit_at (slice_index_or (with_bit words added) word 0) (byte % 64)) e
          ∙ ap (λ word. bit_at word (byte % 64)) (get_or-set_same words (added / 64) _ 0 h)
          ∙ bit_at_set_other w64 (slice_index_or words (added / 64) 0) (added % 64) (omega arith) (byte % 64) place
          ∙ ap (λ word. bit_at (slice_index_or words word 0) (byte % 64)) (sym e)
      | inr other ↦ ap (λ word. bit_at word (byte % 64)) (get_or-set_other words (added / 64) (byte / 64) _ 0 other.1)
    ]

-- a byte has its bit after one is added where it is that one, or had it before
pub has-with_bit : (words : List ℕ) (added byte : ℕ) → added / 64 < length words
    → (bit_of (with_bit words added) byte == 1) ≡ (byte == added || bit_of words byte == 1)
has-with_bit words added byte h =
    elim (eqb_tells byte added) [
      | inl same ↦
          ap (λ b. bit_of (with_bit words added) b == 1) same.1
          ∙ ap (λ bit. bit == 1) (bit_of-with_bit_same words added h)
          ∙ ap (λ t. t || bit_of words byte == 1) (sym same.0)
      | inr other ↦
          ap (λ bit. bit == 1) (bit_of-with_bit_other words added byte h other.1)
          ∙ ap (λ t. t || bit_of words byte == 1) (sym other.0)
    ]

-- the words with each bit turned
abbrev pub turned : List ℕ → List ℕ
turned words =
    (18446744073709551615 - slice_index_or words 0 0) ∷ (18446744073709551615 - slice_index_or words 1 0)
    ∷ (18446744073709551615 - slice_index_or words 2 0) ∷ (18446744073709551615 - slice_index_or words 3 0) ∷ []

turned_word : (words : List ℕ) (place : ℕ) → place < 4 → slice_index_or (turned words) place 0 ≡ 2 ^ 64 - 1 - slice_index_or words place 0
turned_word words place h =
    elim (eqb_tells place 0) [
      | inl a ↦ ap (λ p. slice_index_or (turned words) p 0) a.1 ∙ ap (λ p. 2 ^ 64 - 1 - slice_index_or words p 0) (sym a.1)
      | inr a ↦ elim (eqb_tells place 1) [
        | inl b ↦ ap (λ p. slice_index_or (turned words) p 0) b.1 ∙ ap (λ p. 2 ^ 64 - 1 - slice_index_or words p 0) (sym b.1)
        | inr b ↦ elim (eqb_tells place 2) [
          | inl d ↦ ap (λ p. slice_index_or (turned words) p 0) d.1 ∙ ap (λ p. 2 ^ 64 - 1 - slice_index_or words p 0) (sym d.1)
          | inr d ↦
              let e : place ≡ 3 = omega (arith, a.1, b.1, d.1) in
              ap (λ p. slice_index_or (turned words) p 0) e ∙ ap (λ p. 2 ^ 64 - 1 - slice_index_or words p 0) (sym e)
        ]
      ]
    ]

-- four words without a bit
abbrev pub no_bits : List ℕ
no_bits = 0 ∷ 0 ∷ 0 ∷ 0 ∷ []

get_or-zeros : (place : ℕ) → slice_index_or no_bits place 0 ≡ 0
get_or-zeros zero = refl
get_or-zeros (suc zero) = refl
get_or-zeros (suc (suc zero)) = refl
get_or-zeros (suc (suc (suc zero))) = refl
get_or-zeros (suc (suc (suc (suc place)))) = refl

turned_bit : (bit : ℕ) → bit < 2 → (1 - bit == 1) ≡ not (bit == 1)
turned_bit bit h =
    elim (eqb_tells bit 0) [
      | inl a ↦ ap (λ b. 1 - b == 1) a.1 ∙ ap (λ b. not (b == 1)) (sym a.1)
      | inr a ↦ let e : bit ≡ 1 = omega (arith, a.1) in ap (λ b. 1 - b == 1) e ∙ ap (λ b. not (b == 1)) (sym e)
    ]

word_fits : (words : List ℕ) → slice_index_or words 0 0 < 2 ^ 64 → slice_index_or words 1 0 < 2 ^ 64
    → slice_index_or words 2 0 < 2 ^ 64 → slice_index_or words 3 0 < 2 ^ 64
    → (place : ℕ) → place < 4 → slice_index_or words place 0 < 2 ^ 64
word_fits words first second third fourth place h =
    elim (eqb_tells place 0) [
      | inl a ↦ rw a.1 (omega arith)
      | inr a ↦ elim (eqb_tells place 1) [
        | inl b ↦ rw b.1 (omega arith)
        | inr b ↦ elim (eqb_tells place 2) [
          | inl d ↦ rw d.1 (omega arith)
          | inr d ↦ let e : place ≡ 3 = omega (arith, a.1, b.1, d.1) in rw e (omega arith)
        ]
      ]
    ]

-- a number has its bit after each bit is turned where it is below 256 and lacked it before
pub has-turned : (words : List ℕ) (byte : ℕ) → slice_index_or words 0 0 < 2 ^ 64 → slice_index_or words 1 0 < 2 ^ 64
    → slice_index_or words 2 0 < 2 ^ 64 → slice_index_or words 3 0 < 2 ^ 64
    → (bit_of (turned words) byte == 1) ≡ (nat_lt byte 256 && not (bit_of words byte == 1))
has-turned words byte first second third fourth =
    elim (leb_tells 4 (byte / 64)) [
      | inl above ↦
          let e : nat_lt byte 256 ≡ false = let far : 256 ≤ byte = omega (arith, above.1) in grind (arith, nat_tests) in
          ap (λ word. bit_at word (byte % 64) == 1) (get_or_past (turned words) (byte / 64) 0 above.1)
          ∙ ap (λ bit. bit == 1) (bit_at-zero (byte % 64))
          ∙ ap (λ t. t && not (bit_of words byte == 1)) (sym e)
      | inr below ↦
          let e : nat_lt byte 256 ≡ true = let near : byte < 256 = omega (arith, below.1) in grind (arith, nat_tests) in
          ap (λ word. bit_at word (byte % 64) == 1) (turned_word words (byte / 64) below.1)
          ∙ ap (λ bit. bit == 1) (bit_at_not w64 (slice_index_or words (byte / 64) 0) (byte % 64) (word_fits words first second third fourth (byte / 64) below.1) (omega arith))
          ∙ turned_bit (bit_of words byte) (bit_at-lt (slice_index_or words (byte / 64) 0) (byte % 64))
          ∙ ap (λ t. t && not (bit_of words byte == 1)) (sym e)
    ]

-- no number has a bit in words that are 0
pub has-none : (byte : ℕ) → (bit_of no_bits byte == 1) ≡ false
has-none byte = ap (λ word. bit_at word (byte % 64) == 1) (get_or-zeros (byte / 64)) ∙ ap (λ bit. bit == 1) (bit_at-zero (byte % 64))
