-- Numbers that are kept small.
use Rattle.std.proofs.Common.{ℕ, ◌≡◌, ◌+◌, ◌-◌, ◌*◌, ◌≤◌, Bool, true, false, List, [], ◌∷◌, min, cond, ap, sym, ◌∙◌, arith}
use Rattle.std.proofs.lemmas.Bool.Decides.{nat_tests}
use Rattle.ut_regex.specs.Spans.{is_from}
use Rattle.ut_regex.specs.Intervals.{number_from, behind_digits}

-- a digit isn't below the first one
pub digit_low : (byte : ℕ) → is_from 48 57 byte ≡ true → 48 ≤ byte
unfolding is_from
digit_low byte h = grind (arith, nat_tests)

-- a number that is above 255 stays so
pub number_from-min : (text : List ℕ) (before : ℕ) → min (number_from (min before 256) text) 256 ≡ min (number_from before text) 256
number_from-min [] before = omega arith
number_from-min (first ∷ rest) before =
    by_digit (is_from 48 57 first)
    (sym (number_from-min rest (10 * min before 256 + (first - 48)))
    ∙ ap (λ n. min (number_from n rest) 256) more
    ∙ number_from-min rest (10 * before + (first - 48)))
  where
    more : min (10 * min before 256 + (first - 48)) 256 ≡ min (10 * before + (first - 48)) 256
    more = omega arith

    by_digit : (digit : Bool) → min (number_from (10 * min before 256 + (first - 48)) rest) 256 ≡ min (number_from (10 * before + (first - 48)) rest) 256
        → min (cond digit (number_from (10 * min before 256 + (first - 48)) rest) (min before 256)) 256
        ≡ min (cond digit (number_from (10 * before + (first - 48)) rest) before) 256
    by_digit true h = h
    by_digit false h = omega arith

-- one digit more
pub number_from-digit : (text rest : List ℕ) (before digit : ℕ) → text ≡ digit ∷ rest → is_from 48 57 digit ≡ true
    → number_from before text ≡ number_from (10 * before + (digit - 48)) rest
number_from-digit text rest before digit is h =
    ap (λ all. number_from before all) is ∙ ap (λ t. cond t (number_from (10 * before + (digit - 48)) rest) before) h

pub behind_digits-digit : (text rest : List ℕ) (digit : ℕ) → text ≡ digit ∷ rest → is_from 48 57 digit ≡ true → behind_digits text ≡ behind_digits rest
behind_digits-digit text rest digit is h = ap behind_digits is ∙ ap (λ t. cond t (behind_digits rest) (digit ∷ rest)) h
