-- Words by their number, and the last of them.
use Rattle.std.proofs.Common.{◌≡◌, ◌≤◌, ◌<◌, ℕ, Bool, true, false, List, [], ◌∷◌, ◌++◌, Option, Some, None, option_map, length, get_or, refl, ap, ◌∙◌, arith, codes, if◌then◌else◌}
use Rattle.std.specs.Global.{Vec}
use Rattle.std.specs.Str.{bytes_eq}
use Rattle.ps_lines.specs.Texts.{texts_of}
use Rattle.ut_options.specs.declared.usage.Usage.TheVariants as usage
use Rattle.ut_args.specs.Shell.{before_bracket, fault_of_two, test_fault}

-- the fault of two arguments is that of the first
pub test_fault-two : (args : List (Vec ℕ)) (first : Vec ℕ) (operator : List ℕ) → 2 ≤ length args → length args < 3
    → first ≡ get_or args 0 first → operator ≡ first.items → fault_of_two operator ≡ test_fault (texts_of args)
test_fault-two [] first operator least most is same = absurd (omega arith)
test_fault-two (w ∷ []) first operator least most is same = absurd (omega arith)
test_fault-two (w ∷ x ∷ []) first operator least most is same = ap fault_of_two (same ∙ ap (λ (text : Vec ℕ). text.items) is)
test_fault-two (w ∷ x ∷ y ∷ others) first operator least most is same = absurd (omega arith)

-- five arguments or more are bad usage
pub test_fault-many : (args : List (Vec ℕ)) → 5 ≤ length args → Some usage.BadUsage ≡ test_fault (texts_of args)
test_fault-many [] many = absurd (omega arith)
test_fault-many (v ∷ []) many = absurd (omega arith)
test_fault-many (v ∷ w ∷ []) many = absurd (omega arith)
test_fault-many (v ∷ w ∷ x ∷ []) many = absurd (omega arith)
test_fault-many (v ∷ w ∷ x ∷ y ∷ []) many = absurd (omega arith)
test_fault-many (v ∷ w ∷ x ∷ y ∷ z ∷ others) many = refl

-- the last word decides
bracket-last : (before : List (Vec ℕ)) (last : Vec ℕ)
    → before_bracket (texts_of (before ++ last ∷ [])) ≡ (if bytes_eq last.items (codes "]") then Some (texts_of before) else None)
bracket-last [] last = refl
bracket-last (word ∷ []) last = by_last (bytes_eq last.items (codes "]"))
  where
    by_last : (is : Bool) → option_map (λ before. word.items ∷ before) (if is then Some [] else None)
        ≡ (if is then Some (word.items ∷ []) else None)
    by_last true = refl
    by_last false = refl
bracket-last (word ∷ next ∷ others) last =
    ap (option_map (λ before. word.items ∷ before)) (bracket-last (next ∷ others) last) ∙ by_last (bytes_eq last.items (codes "]"))
  where
    by_last : (is : Bool) → option_map (λ before. word.items ∷ before) (if is then Some (texts_of (next ∷ others)) else None)
        ≡ (if is then Some (texts_of (word ∷ next ∷ others)) else None)
    by_last true = refl
    by_last false = refl

-- the same of words that are known by their last and the others
pub before_bracket-some : (words before : List (Vec ℕ)) (last : Vec ℕ) → words ≡ before ++ last ∷ [] → bytes_eq last.items (codes "]") ≡ true
    → before_bracket (texts_of words) ≡ Some (texts_of before)
before_bracket-some words before last is same = rw is (bracket-last before last ∙ rw same refl)

pub before_bracket-none : (words before : List (Vec ℕ)) (last : Vec ℕ) → words ≡ before ++ last ∷ [] → bytes_eq last.items (codes "]") ≡ false
    → before_bracket (texts_of words) ≡ None
before_bracket-none words before last is differs = rw is (bracket-last before last ∙ rw differs refl)
