-- The last lines and bytes of a text, from those of its parts.
use Rattle.std.proofs.Common.{◌≡◌, ◌==◌, ◌≤◌, ◌+◌, ◌-◌, ℕ, zero, suc, List, [], ◌∷◌, ◌++◌, length, take, drop, Bool, true, false, refl, ap, sym, ◌∙◌, append_assoc, append-nil, length-append, length-drop, arith, if◌then◌else◌}
use Rattle.std.specs.List.{concat, list_all, onto_first}
use Rattle.std.proofs.Math.Dec.{ltb}
use Rattle.std.proofs.Math.Seq.{drop-append-add}
use Rattle.std.proofs.lemmas.Bool.{true≢false}
use Rattle.std.proofs.lemmas.List.{drop_all, take-append-drop}
use Rattle.std.proofs.lemmas.List.Folds.{concat-append}
use Rattle.ps_lines.specs.Lines.{is_closed, is_cutlist, is_empty}
use Rattle.ps_lines.proofs.ClosedLemmas.{closed-back}
use Rattle.ut_args.specs.declared.commands.Unit.{Unit}
use Rattle.ut_args.specs.declared.commands.Unit.TheVariants as unit
use Rattle.ut_slices.specs.Ends.{behind_lines, first_lines, last, last_lines, whole_lines}
use Rattle.ut_slices.proofs.EndLemmas.{whole_lines-append, whole_lines-concat}

-- the last items of a list, so many or all
abbrev pub last_of : {Item : Type 0} → ℕ → List Item → List Item
last_of count items = drop (length items - count) items

last-behind : {Item : Type 0} (count : ℕ) (front back : List Item) → count ≤ length back → last_of count (front ++ back) ≡ last_of count back
last-behind count front back enough =
    let size : length (front ++ back) - count ≡ length front + (length back - count) = omega (arith, length-append front back, enough) in
    ap (λ size. drop size (front ++ back)) size ∙ drop-append-add front back (length back - count)

last-all : {Item : Type 0} (count : ℕ) (items : List Item) → length items ≤ count → last_of count items ≡ items
last-all count items few = let none : length items - count ≡ 0 = omega (arith, few) in ap (λ size. drop size items) none

last-length : {Item : Type 0} (count : ℕ) (items : List Item) → count ≤ length items → length (last_of count items) ≡ count
last-length count items enough = omega (arith, length-drop (length items - count) items, enough)

-- what the last items of the first part leave out doesn't count
front-by : {Item : Type 0} (count : ℕ) (front back : List Item) (few : Bool) → ltb (length front) count ≡ few → last_of count (front ++ back) ≡ last_of count (last_of count front ++ back)
front-by count front back true few = ap (λ front. last_of count (front ++ back)) (sym (last-all count front (grind (arith, few))))
front-by count front back false few =
    let enough : count ≤ length front = grind (arith, few) in
    let cut : front ≡ take (length front - count) front ++ last_of count front = sym (take-append-drop (length front - count) front) in
    ap (λ front. last_of count (front ++ back)) cut
    ∙ ap (last_of count) (append_assoc (take (length front - count) front) (last_of count front) back)
    ∙ last-behind count (take (length front - count) front) (last_of count front ++ back)
    (omega (arith, length-append (last_of count front) back, last-length count front enough))

back-by : {Item : Type 0} (count : ℕ) (front back : List Item) (few : Bool) → ltb (length back) count ≡ few → last_of count (front ++ back) ≡ last_of count (front ++ last_of count back)
back-by count front back true few = ap (λ back. last_of count (front ++ back)) (sym (last-all count back (grind (arith, few))))
back-by count front back false few =
    let enough : count ≤ length back = grind (arith, few) in
    let size : count ≤ length (last_of count back) = omega (arith, last-length count back enough) in
    last-behind count front back enough ∙ sym (last-all count (last_of count back) (omega (arith, last-length count back enough)))
    ∙ sym (last-behind count front (last_of count back) size)

pub last-of_parts : {Item : Type 0} (count : ℕ) (front back : List Item) → last_of count (front ++ back) ≡ last_of count (last_of count front ++ last_of count back)
last-of_parts count front back =
    front-by count front back (ltb (length front) count) refl ∙ back-by count (last_of count front) back (ltb (length back) count) refl

-- the lines of what stands behind the first lines are the others
abbrev before : Bool → ℕ → List (List ℕ) → List (List ℕ)
before ends byte others = if ends then (byte ∷ []) ∷ others else onto_first byte others

onto-drop : (byte count : ℕ) (lines : List (List ℕ)) → drop (suc count) (onto_first byte lines) ≡ drop (suc count) lines
onto-drop byte count [] = drop_all count [] (omega arith)
onto-drop byte count (line ∷ lines) = refl

behind-step : (ends : Bool) (byte count : ℕ) (rest : List ℕ)
    → whole_lines (behind_lines count rest) ≡ drop count (whole_lines rest)
    → whole_lines (behind_lines (suc count) rest) ≡ drop (suc count) (whole_lines rest)
    → whole_lines (concat (drop (suc count) (before ends byte (whole_lines rest)))) ≡ drop (suc count) (before ends byte (whole_lines rest))
behind-step true byte count rest fewer same = fewer
behind-step false byte count rest fewer same =
    ap (λ lines. whole_lines (concat lines)) (onto-drop byte count (whole_lines rest)) ∙ same ∙ sym (onto-drop byte count (whole_lines rest))

lines-of_behind : (count : ℕ) (text : List ℕ) → whole_lines (behind_lines count text) ≡ drop count (whole_lines text)
lines-of_behind zero text = ap whole_lines (whole_lines-concat text)
lines-of_behind (suc count) [] = refl
lines-of_behind (suc count) (byte ∷ rest) = behind-step (byte == 10) byte count rest (lines-of_behind count rest) (lines-of_behind (suc count) rest)

-- and it is closed where the text is
first-behind : (count : ℕ) (text : List ℕ) → first_lines count text ++ behind_lines count text ≡ text
first-behind count text =
    sym (concat-append (take count (whole_lines text)) (drop count (whole_lines text))) ∙ ap concat (take-append-drop count (whole_lines text)) ∙ whole_lines-concat text

closed-rest : (front back : List ℕ) → is_closed (front ++ back) ≡ true → is_closed back ≡ true
closed-rest front [] closed = refl
closed-rest front (byte ∷ back) closed = closed-back front (byte ∷ back) closed (omega arith)

closed-behind_lines : (count : ℕ) (text : List ℕ) → is_closed text ≡ true → is_closed (behind_lines count text) ≡ true
closed-behind_lines count text closed = closed-rest (first_lines count text) (behind_lines count text) (ap is_closed (first-behind count text) ∙ closed)

lines-of_last : (count : ℕ) (text : List ℕ) → whole_lines (last_lines count text) ≡ last_of count (whole_lines text)
lines-of_last count text = lines-of_behind (length (whole_lines text) - count) text

last-parts : (count : ℕ) (front back : List ℕ) → is_closed front ≡ true → last_lines count (front ++ back) ≡ last_lines count (last_lines count front ++ last_lines count back)
last-parts count front back closed =
    ap (λ lines. concat (last_of count lines)) (whole_lines-append front back closed)
    ∙ ap concat (last-of_parts count (whole_lines front) (whole_lines back))
    ∙ sym (ap (λ lines. concat (last_of count lines))
    (whole_lines-append (last_lines count front) (last_lines count back) (closed-behind_lines (length (whole_lines front) - count) front closed)
    ∙ ap (λ lines. lines ++ whole_lines (last_lines count back)) (lines-of_last count front)
    ∙ ap (λ lines. last_of count (whole_lines front) ++ lines) (lines-of_last count back)))

last-alone : (count : ℕ) (front : List ℕ) → last_lines count (front ++ []) ≡ last_lines count (last_lines count front ++ last_lines count [])
last-alone count front =
    let none : last_lines count [] ≡ [] = ap concat (drop_all (0 - count) [] (omega arith)) in
    ap (last_lines count) (append-nil front)
    ∙ ap concat (ap (last_of count) (sym (append-nil (whole_lines front))) ∙ last-of_parts count (whole_lines front) []
    ∙ ap (λ back. last_of count (last_of count (whole_lines front) ++ back)) (drop_all (0 - count) [] (omega arith))
    ∙ ap (last_of count) (append-nil (last_of count (whole_lines front))))
    ∙ sym (ap (λ back. last_lines count (last_lines count front ++ back)) none ∙ ap (last_lines count) (append-nil (last_lines count front))
    ∙ ap (λ lines. concat (last_of count lines)) (lines-of_last count front))

by-front : (count : ℕ) (front back : List ℕ) (closed : Bool) → is_closed front ≡ closed
    → (if closed then is_cutlist (back ∷ []) else list_all is_empty (back ∷ [])) ≡ true
    → last_lines count (front ++ back) ≡ last_lines count (last_lines count front ++ last_lines count back)
by-front count front back true closed cut = last-parts count front back closed
by-front count front [] false closed cut = last-alone count front
by-front count front (byte ∷ back) false closed cut = absurd (true≢false (sym cut))

pub last-of-parts : (of : Unit) (count : ℕ) (front back : List ℕ) → is_cutlist (front ∷ back ∷ []) ≡ true
    → last of count (front ++ back) ≡ last of count (last of count front ++ last of count back)
last-of-parts unit.Lines count front back cut = by-front count front back (is_closed front) refl cut
last-of-parts unit.Bytes count front back cut = last-of_parts count front back

pub ruleset last_laws = (last-of-parts)
