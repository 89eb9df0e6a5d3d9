-- Texts that seeds give.
use Rattle.std.proofs.Common.{◌≡◌, ℕ, zero, suc, ◌+◌, ◌-◌, ◌*◌, ◌<◌, ◌≤◌, List, ◌++◌, length, refl, ap, ◌∙◌, append_assoc, arith}
use Rattle.std.proofs.lemmas.List.{length-append}
use Rattle.pash.specs.Samples.{line_behind, sample_text, third_number}

-- a line more is written of the text that is left
pub one-line-more : (old new whole : List ℕ) (number third left : ℕ) → new ≡ old ++ line_behind number → third ≡ third_number number → 0 < left
    → old ++ sample_text number left ≡ whole → new ++ sample_text third (left - 1) ≡ whole
one-line-more old new whole number third zero grew is some before = let never : ⊥ = omega arith in absurd never
one-line-more old new whole number third (suc left) grew is some before =
    let less : suc left - 1 ≡ left = omega arith in
    ap (λ (count : ℕ). new ++ sample_text third count) less ∙ ap (λ (text : List ℕ). text ++ sample_text third left) grew
    ∙ ap (λ (from : ℕ). (old ++ line_behind number) ++ sample_text from left) is
    ∙ append_assoc old (line_behind number) (sample_text (third_number number) left) ∙ before

-- each line has nine bytes
length-line : (seed : ℕ) → length (line_behind seed) ≡ 9
length-line seed = refl

pub length-sample : (seed lines : ℕ) → length (sample_text seed lines) ≡ 9 * lines
length-sample seed zero = refl
length-sample seed (suc lines) =
    let rest = length-sample (third_number seed) lines in
    let line = length-line seed in
    let both = length-append (line_behind seed) (sample_text (third_number seed) lines) in
    omega arith

-- what is written of it is no longer
pub within-sample : (text : List ℕ) (seed lines number left : ℕ) → text ++ sample_text number left ≡ sample_text seed lines → length text ≤ 9 * lines
within-sample text seed lines number left is =
    let all = length-sample seed lines in
    let both = length-append text (sample_text number left) in
    let same = ap length is in
    omega arith
