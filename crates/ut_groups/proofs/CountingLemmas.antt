-- Counts of parts and of the whole.
use Rattle.std.proofs.Common.{◌≡◌, ℕ, zero, suc, ◌+◌, ◌-◌, ◌<◌, ◌≤◌, ◌&&◌, Bool, true, false, not, List, [], ◌∷◌, ◌++◌, length, take, drop, get_or, if◌then◌else◌, refl, ap, sym, ◌∙◌, arith}
use Rattle.std.proofs.lemmas.List.{take-append-drop, take_more}
use Rattle.std.proofs.lemmas.List.Sums.{sum_by-append, sum_by-take-drop, count_by-le-length, count_by_more_yes, count_by_more_no}
use Rattle.ut_groups.specs.Counting.{is_word, newlines, saturated, word_begins, words_behind}
use Rattle.ut_groups.specs.Inner.Columns.{last_behind}

-- a count that stands at its end goes on from there
pub saturated-more : (count more : ℕ) → saturated (saturated count + more) ≡ saturated (count + more)
saturated-more count more = omega arith

pub saturated-self : (count : ℕ) → saturated (saturated count) ≡ saturated count
saturated-self count = omega arith

pub newlines-append : (front back : List ℕ) → newlines (front ++ back) ≡ newlines front + newlines back
newlines-append front back = sum_by-append _ front back

pub newlines-cut : (text : List ℕ) (place : ℕ) → newlines (take place text) + newlines (drop place text) ≡ newlines text
newlines-cut text place = sum_by-take-drop _ text place

pub newlines-most : (text : List ℕ) → newlines text ≤ length text
newlines-most text = count_by-le-length _ text

-- a text is counted block by block, and a block byte by byte
pub ruleset blocks = (newlines-cut, newlines-most, count_by_more_yes, count_by_more_no)

begins-most : (before byte : ℕ) → word_begins before byte ≤ 1
begins-most before byte = by_test (is_word byte && not (is_word before))
  where
    by_test : (test : Bool) → (if test then 1 else 0) ≤ 1
    by_test true = omega arith
    by_test false = omega arith

pub words-append : (before : ℕ) (front back : List ℕ) → words_behind before (front ++ back) ≡ words_behind before front + words_behind (last_behind before front) back
words-append before [] back = omega arith
words-append before (byte ∷ front) back =
    ap (λ rest. word_begins before byte + rest) (words-append byte front back) ∙ omega arith

pub words-most : (before : ℕ) (text : List ℕ) → words_behind before text ≤ length text
words-most before [] = omega arith
words-most before (byte ∷ text) = omega (arith, begins-most before byte, words-most byte text)

pub words-cut : (before : ℕ) (text : List ℕ) (place : ℕ)
    → words_behind before (take place text) + words_behind (last_behind before (take place text)) (drop place text) ≡ words_behind before text
words-cut before text place = sym (words-append before (take place text) (drop place text)) ∙ ap (words_behind before) (take-append-drop place text)

pub ruleset word_blocks = (words-cut, words-most)

-- a byte more
pub last-append : (before : ℕ) (front back : List ℕ) → last_behind before (front ++ back) ≡ last_behind (last_behind before front) back
last-append before [] back = refl
last-append before (byte ∷ front) back = last-append byte front back

pub last-more : (before : ℕ) (text : List ℕ) (place default : ℕ) → place < length text → last_behind before (take (place + 1) text) ≡ get_or text place default
last-more before text place default within =
    ap (last_behind before) (take_more text place default within) ∙ last-append before (take place text) (get_or text place default ∷ [])

pub words-more : (before : ℕ) (text : List ℕ) (place default : ℕ) → place < length text
    → words_behind before (take (place + 1) text) ≡ words_behind before (take place text) + word_begins (last_behind before (take place text)) (get_or text place default)
words-more before text place default within =
    ap (words_behind before) (take_more text place default within)
    ∙ words-append before (take place text) (get_or text place default ∷ []) ∙ omega arith

pub ruleset word_bytes = (words-more, last-more, words-most)

pub last-there : (before : ℕ) (text : List ℕ) (place default : ℕ) → length text ≡ place + 1 → last_behind before text ≡ get_or text place default
last-there before [] place default size = absurd (omega arith)
last-there before (byte ∷ []) zero default size = refl
last-there before (byte ∷ []) (suc place) default size = absurd (omega arith)
last-there before (byte ∷ next ∷ rest) zero default size = absurd (omega arith)
last-there before (byte ∷ next ∷ rest) (suc place) default size = last-there byte (next ∷ rest) place default (omega arith)

pub last-none : (before : ℕ) (text : List ℕ) → length text ≡ 0 → last_behind before text ≡ before
last-none before [] none = refl
last-none before (byte ∷ text) none = absurd (omega arith)

pub ruleset last_bytes = (last-there, last-none)
