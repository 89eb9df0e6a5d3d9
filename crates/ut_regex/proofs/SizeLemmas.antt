-- Sums and products that are kept small.
use Rattle.std.proofs.Common.{ℕ, ◌≡◌, ◌+◌, ◌*◌, min, max, zero, suc, inl, inr, ap, arith}
use Rattle.std.proofs.lemmas.Bool.{cases_lt}

pub min_plus : (a b c : ℕ) → min (min a c + min b c) c ≡ min (a + b) c
min_plus a b c = omega arith

pub min_more : (a b c : ℕ) → min (min a c + b) c ≡ min (a + b) c
min_more a b c = omega arith

pub min_max : (a b c : ℕ) → max (min a c) (min b c) ≡ min (max a b) c
min_max a b c = omega arith

pub min_times : (a b c : ℕ) → min (min a c * b) c ≡ min (a * b) c
min_times a zero c = omega arith
min_times a (suc b) c = elim (cases_lt c a) [
  | inl above ↦ omega arith
  | inr within ↦ let same : min a c ≡ a = omega arith in ap (λ n. min (n * suc b) c) same
]

pub ruleset capped = (min_plus, min_more, min_max, min_times)
