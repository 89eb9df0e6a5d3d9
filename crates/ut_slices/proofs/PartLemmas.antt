-- The first and the last lines of a text, from those of its parts.
use Rattle.std.proofs.Common.{◌≡◌, ◌==◌, ◌≤◌, ℕ, zero, suc, List, [], ◌∷◌, ◌++◌, take, Bool, true, false, refl, ap, sym, ◌∙◌, append-nil, arith, if◌then◌else◌}
use Rattle.std.specs.List.{concat, list_all, onto_first}
use Rattle.std.proofs.lemmas.Bool.{true≢false}
use Rattle.ps_lines.specs.Lines.{is_closed, is_cutlist, is_empty}
use Rattle.ut_slices.specs.Ends.{first_lines, whole_lines}
use Rattle.ut_slices.proofs.EndLemmas.{first-onto, whole_lines-append}

-- a byte before whole lines, where `ends` says that it is a newline
abbrev before : Bool → ℕ → List (List ℕ) → List (List ℕ)
before ends byte others = if ends then (byte ∷ []) ∷ others else onto_first byte others

-- no line of none
none-taken : {Item : Type 0} (count : ℕ) (items : List Item) → items ≡ [] → take count items ≡ []
none-taken zero items is = refl
none-taken (suc count) items is = ap (take (suc count)) is

onto-take : (byte count : ℕ) (lines : List (List ℕ)) → onto_first byte (take (suc count) lines) ≡ take (suc count) (onto_first byte lines)
onto-take byte count [] = ap (λ others. (byte ∷ []) ∷ others) (sym (none-taken count [] refl))
onto-take byte count (line ∷ lines) = refl

-- the lines of the first lines are the first ones
first-step : (ends : Bool) (byte count : ℕ) (rest : List ℕ) → (byte == 10) ≡ ends
    → whole_lines (first_lines count rest) ≡ take count (whole_lines rest)
    → whole_lines (first_lines (suc count) rest) ≡ take (suc count) (whole_lines rest)
    → whole_lines (concat (take (suc count) (before ends byte (whole_lines rest)))) ≡ take (suc count) (before ends byte (whole_lines rest))
first-step true byte count rest is fewer same =
    ap (λ ends. before ends byte (whole_lines (first_lines count rest))) is ∙ ap (λ lines. (byte ∷ []) ∷ lines) fewer
first-step false byte count rest is fewer same =
    ap whole_lines (first-onto (suc count) byte (whole_lines rest) (omega arith))
    ∙ ap (λ ends. before ends byte (whole_lines (first_lines (suc count) rest))) is ∙ ap (onto_first byte) same ∙ onto-take byte count (whole_lines rest)

lines-of_first : (count : ℕ) (text : List ℕ) → whole_lines (first_lines count text) ≡ take count (whole_lines text)
lines-of_first zero text = refl
lines-of_first (suc count) [] = refl
lines-of_first (suc count) (byte ∷ rest) =
    first-step (byte == 10) byte count rest refl (lines-of_first count rest) (lines-of_first (suc count) rest)

-- the first lines of a closed text are closed
closed-onto : (byte : ℕ) (text : List ℕ) → (byte == 10) ≡ true → is_closed text ≡ true → is_closed (byte ∷ text) ≡ true
closed-onto byte [] is closed = is
closed-onto byte (next ∷ rest) is closed = closed

begins-with : (ends : Bool) (next count : ℕ) (lines : List (List ℕ)) → (others : List ℕ) × (concat (take (suc count) (before ends next lines)) ≡ next ∷ others)
begins-with true next count lines = (concat (take count lines), refl)
begins-with false next count lines = (concat (take (suc count) lines), first-onto (suc count) next lines (omega arith))

closed-step : (ends : Bool) (byte next count : ℕ) (rest : List ℕ) → (byte == 10) ≡ ends
    → is_closed (first_lines count (next ∷ rest)) ≡ true → is_closed (first_lines (suc count) (next ∷ rest)) ≡ true
    → is_closed (concat (take (suc count) (before ends byte (whole_lines (next ∷ rest))))) ≡ true
closed-step true byte next count rest is fewer same = closed-onto byte (first_lines count (next ∷ rest)) is fewer
closed-step false byte next count rest is fewer same =
    let begins = begins-with (next == 10) next count (whole_lines rest) in
    ap is_closed (first-onto (suc count) byte (whole_lines (next ∷ rest)) (omega arith))
    ∙ ap (λ text. is_closed (byte ∷ text)) begins.1 ∙ ap is_closed (sym begins.1) ∙ same

closed-alone : (ends : Bool) (byte count : ℕ) → (byte == 10) ≡ true → is_closed (concat (take (suc count) (before ends byte []))) ≡ true
closed-alone true byte count is = ap (λ others. is_closed (concat ((byte ∷ []) ∷ others))) (none-taken count [] refl) ∙ is
closed-alone false byte count is = ap (λ others. is_closed (concat ((byte ∷ []) ∷ others))) (none-taken count [] refl) ∙ is

closed-first : (count : ℕ) (text : List ℕ) → is_closed text ≡ true → is_closed (first_lines count text) ≡ true
closed-first zero text closed = refl
closed-first (suc count) [] closed = refl
closed-first (suc count) (byte ∷ []) closed = closed-alone (byte == 10) byte count closed
closed-first (suc count) (byte ∷ next ∷ rest) closed =
    closed-step (byte == 10) byte next count rest refl (closed-first count (next ∷ rest) closed) (closed-first (suc count) (next ∷ rest) closed)

-- the first of first ones
take-fewer : {Item : Type 0} (count most : ℕ) (items : List Item) → count ≤ most → take count (take most items) ≡ take count items
take-fewer zero most items few = refl
take-fewer (suc count) zero items few = absurd (omega (arith, few))
take-fewer (suc count) (suc most) [] few = refl
take-fewer (suc count) (suc most) (item ∷ items) few = ap (λ items. item ∷ items) (take-fewer count most items (omega (arith, few)))

take-both : {Item : Type 0} (count most : ℕ) (front back : List Item) → count ≤ most → take count (take count front ++ take most back) ≡ take count (front ++ back)
take-both zero most front back few = refl
take-both (suc count) most [] back few = take-fewer (suc count) most back few
take-both (suc count) most (item ∷ front) back few = ap (λ items. item ∷ items) (take-both count most front back (omega (arith, few)))

-- parts that are cut at an end of lines: the first is closed, or the second is empty
first-parts : (count : ℕ) (front back : List ℕ) → is_closed front ≡ true
    → first_lines count (front ++ back) ≡ first_lines count (first_lines count front ++ first_lines count back)
first-parts count front back closed =
    ap (λ lines. concat (take count lines)) (whole_lines-append front back closed)
    ∙ sym (ap (λ lines. concat (take count lines))
    (whole_lines-append (first_lines count front) (first_lines count back) (closed-first count front closed)
    ∙ ap (λ lines. lines ++ whole_lines (first_lines count back)) (lines-of_first count front)
    ∙ ap (λ lines. take count (whole_lines front) ++ lines) (lines-of_first count back))
    ∙ ap concat (take-both count count (whole_lines front) (whole_lines back) (omega arith)))

first-alone : (count : ℕ) (front : List ℕ) → first_lines count (front ++ []) ≡ first_lines count (first_lines count front ++ first_lines count [])
first-alone count front =
    ap (first_lines count) (append-nil front)
    ∙ sym (ap (λ back. first_lines count (first_lines count front ++ concat back)) (none-taken count [] refl)
    ∙ ap (first_lines count) (append-nil (first_lines count front)) ∙ ap (λ lines. concat (take count lines)) (lines-of_first count front)
    ∙ ap concat (take-fewer count count (whole_lines front) (omega arith)))

by-front : (count : ℕ) (front back : List ℕ) (closed : Bool) → is_closed front ≡ closed
    → (if closed then is_cutlist (back ∷ []) else list_all is_empty (back ∷ [])) ≡ true
    → first_lines count (front ++ back) ≡ first_lines count (first_lines count front ++ first_lines count back)
by-front count front back true closed cut = first-parts count front back closed
by-front count front [] false closed cut = first-alone count front
by-front count front (byte ∷ back) false closed cut = absurd (true≢false (sym cut))

pub first-of_parts : (count : ℕ) (front back : List ℕ) → is_cutlist (front ∷ back ∷ []) ≡ true
    → first_lines count (front ++ back) ≡ first_lines count (first_lines count front ++ first_lines count back)
first-of_parts count front back cut = by-front count front back (is_closed front) refl cut

pub ruleset part_laws = (first-of_parts)
