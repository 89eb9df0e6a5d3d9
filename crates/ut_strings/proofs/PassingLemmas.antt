-- The numbers that pass a test, one after another, and a byte again and again.
use Rattle.std.proofs.Common.{◌≡◌, ℕ, suc, ◌+◌, Bool, true, false, List, [], ◌∷◌, ◌++◌, refl, ap, sym, ◌∙◌, append_assoc, append-nil, add-one, if◌then◌else◌, replicate, arith}
use Rattle.std.proofs.lemmas.List.{replicate-append-replicate}
use Rattle.ut_strings.specs.Strings.{passing}

-- at first there is none
pub passing_start : (test : ℕ → Bool) (front : List ℕ) → front ≡ front ++ passing test 0
unfolding passing
passing_start test front = sym (append-nil front)

-- the next number, where it passes
pub passing_step : (test : ℕ → Bool) (number : ℕ) (front whole more : List ℕ) → whole ≡ front ++ passing test number
    → more ≡ whole ++ (if test number then number ∷ [] else []) → more ≡ front ++ passing test (number + 1)
unfolding passing
passing_step test number front whole more so_far is =
    is ∙ (ap (λ start. start ++ (if test number then number ∷ [] else [])) so_far
    ∙ (append_assoc front (passing test number) (if test number then number ∷ [] else []) ∙ rw (add-one number) refl))

-- a byte once more
pub again_start : (byte : ℕ) (front : List ℕ) → front ≡ front ++ replicate 0 byte
again_start byte front = sym (append-nil front)

pub again_step : (byte number : ℕ) (front whole more : List ℕ) → whole ≡ front ++ replicate number byte
    → more ≡ whole ++ byte ∷ [] → more ≡ front ++ replicate (number + 1) byte
again_step byte number front whole more so_far is =
    is ∙ (ap (λ start. start ++ byte ∷ []) so_far
    ∙ (append_assoc front (replicate number byte) (byte ∷ []) ∙ ap (λ back. front ++ back) (replicate-append-replicate number 1 byte)))
