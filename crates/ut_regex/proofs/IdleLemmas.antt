-- Bytes at which nothing begins are passed over.
use Rattle.std.proofs.Common.{ℕ, zero, suc, ◌≡◌, ◌+◌, ◌-◌, ◌*◌, ◌<◌, ◌≤◌, ◌==◌, ◌&&◌, ◌||◌, ◌⊎◌, inl, inr, nat_lt, not, Bool, true, false, List, [], ◌∷◌, length, slice_index, slice_index_or, drop, if◌then◌else◌, Option, Some, None, refl, ap, sym, ◌∙◌, arith}
use Rattle.std.proofs.lemmas.Bool.{ne_eqb, eqb-true, true≢false}
use Rattle.std.proofs.lemmas.Bool.Decides.{nat_tests}
use Rattle.memchr.specs.Find.{IsFirstByte, Nowhere, Passes}
use Rattle.ps_lines.specs.declared.ByteSet.{ByteSet}
use Rattle.ps_lines.specs.ByteSet.{has_byte}
use Rattle.ut_regex.specs.declared.table.TheConstants.{FOUND}
use Rattle.ut_regex.specs.Inner.Idling.{idle_behind, Idles}
use Rattle.ut_regex.specs.Inner.Tables.{left_at_found}
use Rattle.ut_regex.proofs.TextLemmas.{goes-on}
use Rattle.ut_regex.proofs.RunLemmas.{AreBytes}

-- two tests that answer alike find the same byte
pub first_byte-same : (test other : ℕ → Bool) (text : List ℕ) (found : Option ℕ)
    → ((place : ℕ) → test (slice_index text place) ≡ other (slice_index text place)) → IsFirstByte test text found → IsFirstByte other text found
first_byte-same test other text None same none = λ place low within is. none place low within (same place ∙ is)
first_byte-same test other text (Some at) same found = (
  record {
    low = found.0.low;
    high = found.0.high;
    before = λ place low within is. found.0.before place low within (same place ∙ is);
  },
  sym (same at) ∙ found.1,
)

isnt-true : (test : Bool) → ¬ (test ≡ true) → test ≡ false
isnt-true true isnt = absurd (isnt refl)
isnt-true false isnt = refl

-- a set of the bytes below a number that pass a test gains the next one if it passes
module _ (test : ℕ → Bool) (code byte : ℕ) (before : Bool) (is : before ≡ (nat_lt byte code && test byte)) where
  here : byte ≡ code → test byte ≡ test code
  here same = ap test same

  pub gains : (now : Bool) → test code ≡ true → now ≡ (byte == code || before) → now ≡ (nat_lt byte (code + 1) && test byte)
  gains now passes added = grind (arith, nat_tests, here, is, passes, added)

  pub stays-same : test code ≡ false → before ≡ (nat_lt byte (code + 1) && test byte)
  stays-same fails = grind (arith, nat_tests, here, is, fails)

not-both : (first second : Bool) → not (first && second) ≡ false → (first ≡ true) × (second ≡ true)
not-both true true h = (refl, refl)
not-both true false h = absurd (true≢false h)
not-both false second h = absurd (true≢false h)

module _ (entries : List ℕ) (idle : ℕ) (starts : ByteSet) (idles : Idles entries idle starts) where
  -- what holds of the first state and of the one that waits holds behind a byte at which nothing begins
  behind-one : (P : ℕ → Type 0) (byte : ℕ) → P 0 → P idle → P (idle_behind idle byte)
  behind-one P byte first again = by_end (byte == 10)
    where
      by_end : (ended : Bool) → P (if ended then 0 else idle)
      by_end true = first
      by_end false = again

  entry-there : (state byte : ℕ) → (state ≡ 0) ⊎ (state ≡ idle) → byte < 256 → has_byte starts byte ≡ false
      → slice_index_or entries (256 * state + byte) FOUND ≡ idle_behind idle byte
  entry-there state byte waits small none =
      let both = not-both (slice_index_or entries (256 * 0 + byte) FOUND == idle_behind idle byte) (slice_index_or entries (256 * idle + byte) FOUND == idle_behind idle byte)
      (sym (idles.exact byte small) ∙ none) in
      elim waits [
        | inl is ↦ ap (λ state. slice_index_or entries (256 * state + byte) FOUND) is ∙ eqb-true (slice_index_or entries (256 * 0 + byte) FOUND) (idle_behind idle byte) both.0
        | inr is ↦ ap (λ state. slice_index_or entries (256 * state + byte) FOUND) is ∙ eqb-true (slice_index_or entries (256 * idle + byte) FOUND) (idle_behind idle byte) both.1
      ]

  -- a byte at which nothing begins shows no line
  passed-one : (state byte : ℕ) (rest : List ℕ) → (state ≡ 0) ⊎ (state ≡ idle) → byte < 256 → has_byte starts byte ≡ false
      → left_at_found entries state (byte ∷ rest) ≡ left_at_found entries (idle_behind idle byte) rest
  passed-one state byte rest waits small none =
      goes-on entries state byte (idle_behind idle byte) rest (entry-there state byte waits small none)
      (behind-one (λ state. (state == FOUND) ≡ false) byte refl (ne_eqb idle FOUND (λ same. omega (arith, same, idles.known))))

  -- nor do bytes up to a place at which nothing begins, and the last of them tells in which state the table waits behind it
  pub passed-up_to : (text : List ℕ) (last state : ℕ) → AreBytes text → last < length text
      → ((place : ℕ) → place ≤ last → has_byte starts (slice_index text place) ≡ false) → (state ≡ 0) ⊎ (state ≡ idle)
      → left_at_found entries state text ≡ left_at_found entries (idle_behind idle (slice_index text last)) (drop (suc last) text)
  passed-up_to [] last state bytes within none waits = absurd (omega (arith, within))
  passed-up_to (byte ∷ rest) zero state bytes within none waits = passed-one state byte rest waits bytes.0 (none 0 (omega arith))
  passed-up_to (byte ∷ rest) (suc last) state bytes within none waits =
      passed-one state byte rest waits bytes.0 (none 0 (omega arith))
      ∙ passed-up_to rest last (idle_behind idle byte) bytes.1 (omega (arith, within)) (λ place low. none (suc place) (omega (arith, low)))
      (behind-one (λ state. (state ≡ 0) ⊎ (state ≡ idle)) byte (inl refl) (inr refl))

  -- the same up to the first byte at which something may begin
  pub passed-over : (text : List ℕ) (passed state : ℕ) → AreBytes text → passed ≤ length text → ¬ (passed ≡ 0)
      → Nowhere (Passes (λ byte. has_byte starts byte) text) 0 passed → (state ≡ 0) ⊎ (state ≡ idle)
      → left_at_found entries (idle_behind idle (slice_index text (passed - 1))) (drop passed text) ≡ left_at_found entries state text
  passed-over text zero state bytes within some none waits = absurd (some refl)
  passed-over text (suc last) state bytes within some none waits =
      let before : suc last - 1 ≡ last = omega arith in
      ap (λ before. left_at_found entries (idle_behind idle (slice_index text before)) (drop (suc last) text)) before
      ∙ sym (passed-up_to text last state bytes (omega (arith, within))
      (λ place low. isnt-true (has_byte starts (slice_index text place)) (none place (omega arith) (omega (arith, low)))) waits)
