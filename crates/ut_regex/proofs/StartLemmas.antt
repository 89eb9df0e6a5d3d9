-- Bytes that are found one behind the other are all that pass, where three do at most.
use Rattle.std.proofs.Common.{ℕ, ◌≡◌, ◌⊎◌, ◌<◌, ◌≤◌, ◌==◌, ◌||◌, inl, inr, Bool, true, false, refl, ap, sym, ◌∙◌, arith}
use Rattle.std.proofs.Math.Bool.{or-true}
use Rattle.std.proofs.lemmas.Bool.{cases_lt, or_cases}
use Rattle.std.proofs.lemmas.Bool.Decides.{Decides-eqb}
use Rattle.memchr.specs.Find.{is_byte3}
use Rattle.ut_regex.specs.Inner.Starts.{AreThese, IsNext}

abbrev IsOne : ℕ → ℕ → ℕ → ℕ → Type 0
IsOne a b c byte = (byte ≡ a) ⊎ ((byte ≡ b) ⊎ (byte ≡ c))

one_of : (a b c byte : ℕ) → is_byte3 a b c byte ≡ true → IsOne a b c byte
one_of a b c byte h = elim (or_cases (byte == a || byte == b) (byte == c) h) [
  | inl first ↦ elim (or_cases (byte == a) (byte == b) first) [
    | inl is ↦ inl ((Decides-eqb byte a).0 is)
    | inr is ↦ inr (inl ((Decides-eqb byte b).0 is))
  ]
  | inr is ↦ inr (inr ((Decides-eqb byte c).0 is))
]

is_one : (a b c byte : ℕ) → IsOne a b c byte → is_byte3 a b c byte ≡ true
is_one a b c byte (inl is) = rw ((Decides-eqb byte a).1 is) refl
is_one a b c byte (inr (inl is)) = rw ((Decides-eqb byte b).1 is) (ap (λ front. front || byte == c) (or-true (byte == a)))
is_one a b c byte (inr (inr is)) = rw ((Decides-eqb byte c).1 is) (or-true (byte == a || byte == b))

-- four bytes aren't among three
too_many : (a b c first second third fourth : ℕ) → IsOne a b c first → IsOne a b c second → IsOne a b c third → IsOne a b c fourth
    → first < second → second < third → third < fourth → ⊥
too_many a b c first second third fourth one two three four up higher highest = grind (arith, one, two, three, four)

-- behind a byte there is a next one, where there is one at all
is_behind : (test : ℕ → Bool) (member next byte : ℕ) → IsNext test member next → member < byte → byte < 256 → test byte ≡ true
    → (member < next) × (next ≤ byte)
is_behind test member next byte is above small passes = (
  elim (cases_lt member next) [
    | inl higher ↦ higher
    | inr ge ↦ let same : next ≡ member = omega (arith, is.before) in let other = is.last same byte above small in cc
  ],
  elim (cases_lt byte next) [
    | inl within ↦ let other = is.between byte above within in cc
    | inr ge ↦ omega arith
  ],
)

pub three_in_order : (test : ℕ → Bool) (a b c first second third : ℕ) → AreThese test a b c → first < 256 → second < 256 → third < 256
    → ((byte : ℕ) → byte < first → test byte ≡ false) → test first ≡ true → IsNext test first second → IsNext test second third
    → AreThese test first second third
three_in_order test a b c first second third these first_small second_small third_small before passes next last = λ byte small. told byte small (test byte) refl
  where
    known : (byte : ℕ) → byte < 256 → test byte ≡ true → IsOne a b c byte
    known byte small is = one_of a b c byte (sym (these byte small) ∙ is)

    above_third : (byte : ℕ) → byte < 256 → test byte ≡ true → first < second → second < third → third ≤ byte → IsOne first second third byte
    above_third byte small is up higher ge = elim (cases_lt third byte) [
      | inl highest ↦ absurd (too_many a b c first second third byte (known first first_small passes) (known second second_small next.passes)
          (known third third_small last.passes) (known byte small is) up higher highest)
      | inr le ↦ inr (inr (omega arith))
    ]

    above_second : (byte : ℕ) → byte < 256 → test byte ≡ true → first < second → second ≤ byte → IsOne first second third byte
    above_second byte small is up ge = elim (cases_lt second byte) [
      | inl above ↦ let there = is_behind test second third byte last above small is in above_third byte small is up there.0 there.1
      | inr le ↦ inr (inl (omega arith))
    ]

    found : (byte : ℕ) → byte < 256 → test byte ≡ true → first ≤ byte → IsOne first second third byte
    found byte small is ge = elim (cases_lt first byte) [
      | inl above ↦ let there = is_behind test first second byte next above small is in above_second byte small is there.0 there.1
      | inr le ↦ inl (omega arith)
    ]

    reached : (byte : ℕ) → test byte ≡ true → first ≤ byte
    reached byte is = elim (cases_lt byte first) [
      | inl below ↦ let other = before byte below in cc
      | inr ge ↦ omega arith
    ]

    stands : (byte : ℕ) → IsOne first second third byte → test byte ≡ true
    stands byte (inl is) = ap test is ∙ passes
    stands byte (inr (inl is)) = ap test is ∙ next.passes
    stands byte (inr (inr is)) = ap test is ∙ last.passes

    others : (byte : ℕ) (one : Bool) → is_byte3 first second third byte ≡ one → test byte ≡ false → false ≡ one
    others byte true one is = let stood = stands byte (one_of first second third byte one) in cc
    others byte false one is = refl

    told : (byte : ℕ) → byte < 256 → (passed : Bool) → test byte ≡ passed → test byte ≡ is_byte3 first second third byte
    told byte small true is = is ∙ sym (is_one first second third byte (found byte small is (reached byte is)))
    told byte small false is = is ∙ others byte (is_byte3 first second third byte) refl is

-- some byte passes, where three at most do and the first of them is a byte
pub never_empty : (test : ℕ → Bool) (a b c : ℕ) → AreThese test a b c → a < 256 → ((byte : ℕ) → 0 ≤ byte → byte < 256 → test byte ≡ false) → ⊥
never_empty test a b c these small none =
    let passes = these a small ∙ is_one a b c a (inl refl) in
    let other = none a (omega arith) small in cc
