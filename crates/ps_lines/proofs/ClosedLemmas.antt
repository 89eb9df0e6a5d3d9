-- Closed texts, and what is left of them.
use Rattle.std.proofs.Common.{◌≡◌, ℕ, zero, suc, ◌<◌, ◌==◌, List, [], ◌∷◌, ◌++◌, true, false, refl, sym, ◌∙◌, length, drop, arith}
use Rattle.std.proofs.lemmas.Bool.{or_parts, true≢false}
use Rattle.ps_lines.specs.Lines.{has_newline, is_closed}

-- closed texts one after the other
pub closed-append : (front back : List ℕ) → is_closed front ≡ true → is_closed back ≡ true → is_closed (front ++ back) ≡ true
closed-append [] back first second = second
closed-append (byte ∷ []) [] first second = first
closed-append (byte ∷ []) (next ∷ back) first second = second
closed-append (byte ∷ next ∷ front) back first second = closed-append (next ∷ front) back first second

-- the end of a closed text is closed where it isn't empty
pub closed-back : (front back : List ℕ) → is_closed (front ++ back) ≡ true → 0 < length back → is_closed back ≡ true
closed-back [] back closed some = closed
closed-back (byte ∷ []) [] closed some = absurd (omega arith)
closed-back (byte ∷ []) (next ∷ back) closed some = closed
closed-back (byte ∷ next ∷ front) back closed some = closed-back (next ∷ front) back closed some

-- what stands behind a line of a closed text is closed
pub closed-behind : (front back : List ℕ) → is_closed (front ++ 10 ∷ back) ≡ true → is_closed back ≡ true
closed-behind [] [] closed = refl
closed-behind [] (byte ∷ back) closed = closed
closed-behind (byte ∷ []) back closed = closed-behind [] back closed
closed-behind (byte ∷ next ∷ front) back closed = closed-behind (next ∷ front) back closed

-- what is left of a closed text is closed
pub closed-tail : (byte : ℕ) (rest : List ℕ) → is_closed (byte ∷ rest) ≡ true → is_closed rest ≡ true
closed-tail byte [] closed = refl
closed-tail byte (next ∷ rest) closed = closed

pub closed-drop : (text : List ℕ) (count : ℕ) → is_closed text ≡ true → is_closed (drop count text) ≡ true
closed-drop text zero closed = closed
closed-drop [] (suc count) closed = refl
closed-drop (byte ∷ rest) (suc count) closed = closed-drop rest count (closed-tail byte rest closed)

some≢none : (byte : ℕ) (rest : List ℕ) → byte ∷ rest ≡ [] → ⊥
some≢none byte rest same = grind arith

-- a closed text without a newline is empty
pub closed-plain : (text : List ℕ) → is_closed text ≡ true → has_newline text ≡ false → text ≡ []
closed-plain [] closed plain = refl
closed-plain (byte ∷ []) closed plain = absurd (true≢false (sym closed ∙ (or_parts (byte == 10) false plain).0))
closed-plain (byte ∷ next ∷ rest) closed plain =
    absurd (some≢none next rest (closed-plain (next ∷ rest) closed (or_parts (byte == 10) (has_newline (next ∷ rest)) plain).1))
