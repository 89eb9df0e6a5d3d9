-- Which lines of a text lack an expression.
use Rattle.std.proofs.Common.{◌≡◌, ℕ, suc, ◌+◌, ◌-◌, ◌*◌, ◌<◌, ◌≤◌, ◌==◌, Bool, true, false, List, [], ◌∷◌, ◌++◌, length, slice_index, slice_index_or, take, drop, Option, Some, None, IfSome, if◌then◌else◌, refl, ap, ap₂, sym, ◌∙◌, subst, append_assoc, append-nil, arith, length-append}
use Rattle.std.proofs.Math.ListN.{get_or-append}
use Rattle.std.proofs.Math.Seq.{take-append_seam}
use Rattle.std.proofs.lemmas.Bool.{true≢false, cond-true, cond-false}
use Rattle.std.proofs.lemmas.List.{get_or-append-add, take-append-drop, length-take-le}
use Rattle.std.specs.List.{AllByRecursion, onto_first}
use Rattle.memchr.specs.Find.{Nowhere}
use Rattle.ps_lines.specs.Lines.{lines, is_closed}
use Rattle.ps_lines.proofs.LineLemmas.{lines-append, lines-line, is_closed-push}
use Rattle.ut_regex.specs.declared.machine.Machine.{Machine}
use Rattle.ut_regex.specs.declared.finder.Matcher.{Matcher}
use Rattle.ut_regex.specs.declared.table.Table.{Table}
use Rattle.ut_regex.specs.declared.table.TheConstants.{FOUND}
use Rattle.ut_regex.specs.Finds.{Finds, Stays}
use Rattle.ut_regex.specs.Having.{Lack, CutsOut, IsFirst}
use Rattle.ut_regex.specs.Inner.Passed.{IsPassed}
use Rattle.ut_regex.specs.Inner.Fronts.{FitAt}
use Rattle.ut_regex.specs.Inner.Literals.{StandsAt}
use Rattle.ut_regex.specs.Inner.Searches.{IsSoughtAt, Looks}
use Rattle.ut_regex.specs.declared.search.Search.{Search}
use Rattle.ut_regex.specs.declared.search.Search.TheVariants.{Exact, Folded, Front}
use Rattle.ut_regex.specs.declared.tree.Leaf.{Leaf}
use Rattle.ut_regex.specs.declared.tree.Leaf.TheVariants.{Byte}
use Rattle.ut_regex.specs.Inner.Seeks.{Seeks}
use Rattle.ut_regex.specs.Spans.{fits, Has}
use Rattle.ut_regex.specs.Inner.Tables.{runs, left_at_found, IsForTexts}
use Rattle.ut_regex.specs.Inner.Made.{IsMade}
use Rattle.ut_regex.specs.Tree.{Tree}
use Rattle.ps_lines.proofs.ClosedLemmas.{closed-append, closed-behind, closed-tail}
use Rattle.ut_regex.proofs.LiteralLemmas.{has_sought}
use Rattle.ut_regex.proofs.RunLemmas.{AreBytes, made_has}
use Rattle.ut_regex.proofs.TextLemmas.{some-same, some≢none, goes-on, shows}

-- what holds of each of some texts
pub all-map : (P Q : List ℕ → Type 0) → ((text : List ℕ) → P text → Q text) → (texts : List (List ℕ)) → AllByRecursion P texts → AllByRecursion Q texts
all-map P Q more [] all = tt
all-map P Q more (text ∷ texts) all = (more text all.0, all-map P Q more texts all.1)

all-both : (P Q R : List ℕ → Type 0) → ((text : List ℕ) → P text → Q text → R text) → (texts : List (List ℕ)) → AllByRecursion P texts → AllByRecursion Q texts
    → AllByRecursion R texts
all-both P Q R more [] first second = tt
all-both P Q R more (text ∷ texts) first second = (more text first.0 second.0, all-both P Q R more texts first.1 second.1)

all-append : (P : List ℕ → Type 0) (front back : List (List ℕ)) → AllByRecursion P front → AllByRecursion P back → AllByRecursion P (front ++ back)
all-append P [] back first second = second
all-append P (text ∷ front) back first second = (first.0, all-append P front back first.1 second)

-- the lines of a text are parts of it
first_line : List (List ℕ) → List ℕ
first_line [] = []
first_line (line ∷ others) = line

onto-first : (byte : ℕ) (texts : List (List ℕ)) (text back : List ℕ) → text ≡ first_line texts ++ back → byte ∷ text ≡ first_line (onto_first byte texts) ++ back
unfolding first_line
onto-first byte [] text back is = ap (λ text. byte ∷ text) is
onto-first byte (line ∷ others) text back is = ap (λ text. byte ∷ text) is

first_line-front : (text : List ℕ) → (back : List ℕ) × (text ≡ first_line (lines text) ++ back)
unfolding first_line
first_line-front [] = ([], refl)
first_line-front (byte ∷ text) = by_end (byte == 10) (first_line-front text)
  where
    by_end : (ends : Bool) → (back : List ℕ) × (text ≡ first_line (lines text) ++ back)
        → (back : List ℕ) × (byte ∷ text ≡ first_line (if ends then [] ∷ lines text else onto_first byte (lines text)) ++ back)
    by_end true _ = (byte ∷ text, refl)
    by_end false front = (front.0, onto-first byte (lines text) text front.0 front.1)

parts-onto : (P : List ℕ → Type 0) (byte : ℕ) (text back : List ℕ) (texts : List (List ℕ)) → text ≡ first_line texts ++ back
    → ((line back : List ℕ) → byte ∷ text ≡ line ++ back → P line) → AllByRecursion P texts → AllByRecursion P (onto_first byte texts)
unfolding first_line
parts-onto P byte text back [] is each all = (each (byte ∷ []) back (ap (λ text. byte ∷ text) is), tt)
parts-onto P byte text back (line ∷ others) is each all = (each (byte ∷ line) back (ap (λ text. byte ∷ text) is), all.1)

pub parts-lines : (P : List ℕ → Type 0) (text : List ℕ) → ((front line back : List ℕ) → text ≡ front ++ (line ++ back) → P line) → AllByRecursion P (lines text)
parts-lines P [] each = tt
parts-lines P (byte ∷ text) each =
    let front = first_line-front text in
    by_end (byte == 10) front.0 front.1 (parts-lines P text (λ front line back is. each (byte ∷ front) line back (ap (λ text. byte ∷ text) is)))
  where
    by_end : (ends : Bool) (back : List ℕ) → text ≡ first_line (lines text) ++ back → AllByRecursion P (lines text)
        → AllByRecursion P (if ends then [] ∷ lines text else onto_first byte (lines text))
    by_end true back is all = (each [] [] (byte ∷ text) refl, all)
    by_end false back is all = parts-onto P byte text back (lines text) is (λ line back is. each [] line back is) all

-- bytes that stand in a part stand in the whole
stands-part : (fold : Bool) (front line back bytes : List ℕ) (place : ℕ) → StandsAt fold line bytes place
    → StandsAt fold (front ++ (line ++ back)) bytes (length front + place)
stands-part fold front line back [] place h = tt
stands-part fold front line back (byte ∷ bytes) place (within, is, more) =
    let size : length (front ++ (line ++ back)) ≡ length front + (length line + length back) =
    length-append front (line ++ back) ∙ ap (λ size. length front + size) (length-append line back) in
    let same : slice_index (front ++ (line ++ back)) (length front + place) ≡ slice_index line place =
    get_or-append-add front (line ++ back) place 0 ∙ get_or-append line back 0 place within in
    let next : length front + (place + 1) ≡ length front + place + 1 = omega arith in (
      omega (arith, size, within),
      ap (fits fold (Byte byte)) same ∙ is,
      subst (λ place. StandsAt fold (front ++ (line ++ back)) bytes place) next (stands-part fold front line back bytes (place + 1) more),
    )

fit-part : (fold : Bool) (front line back : List ℕ) (leaves : List Leaf) (place : ℕ) → FitAt fold line leaves place
    → FitAt fold (front ++ (line ++ back)) leaves (length front + place)
fit-part fold front line back [] place h = tt
fit-part fold front line back (one ∷ leaves) place (within, is, more) =
    let size : length (front ++ (line ++ back)) ≡ length front + (length line + length back) =
    length-append front (line ++ back) ∙ ap (λ size. length front + size) (length-append line back) in
    let same : slice_index (front ++ (line ++ back)) (length front + place) ≡ slice_index line place =
    get_or-append-add front (line ++ back) place 0 ∙ get_or-append line back 0 place within in
    let next : length front + (place + 1) ≡ length front + place + 1 = omega arith in (
      omega (arith, size, within),
      ap (fits fold one) same ∙ is,
      subst (λ place. FitAt fold (front ++ (line ++ back)) leaves place) next (fit-part fold front line back leaves (place + 1) more),
    )

sought-part : (search : Search) (front line back : List ℕ) (place : ℕ) → IsSoughtAt search line place
    → IsSoughtAt search (front ++ (line ++ back)) (length front + place)
sought-part (Exact bytes) front line back place h = stands-part false front line back bytes place h
sought-part (Folded folded) front line back place h = stands-part true front line back folded.bytes.items place h
sought-part (Front found) front line back place h = fit-part found.fold front line back found.leaves.items place h

-- in no line that ends before the first place where it stands stands what is searched for
sought-passed : (search : Search) (fold : Bool) (re : Tree) (text before more : List ℕ) (place : ℕ) → Looks search fold re → text ≡ before ++ more
    → length before ≤ place → Nowhere (IsSoughtAt search text) 0 place → AllByRecursion (λ line. (at : ℕ) → ¬ IsSoughtAt search line at) (lines before)
sought-passed search fold re text before more place looks whole low nowhere =
    parts-lines (λ line. (at : ℕ) → ¬ IsSoughtAt search line at) before (λ front line back is offset has.
    let at = length front + offset in
    let all : text ≡ front ++ (line ++ (back ++ more)) =
    whole ∙ ap (λ before. before ++ more) is ∙ append_assoc front (line ++ back) more ∙ ap (λ rest. front ++ rest) (append_assoc line back more) in
    let size : length before ≡ length front + (length line + length back) =
    ap length is ∙ length-append front (line ++ back) ∙ ap (λ size. length front + size) (length-append line back) in
    let within = looks.some line offset has in
    nowhere at (omega arith) (omega (arith, size, within, low))
    (subst (λ text. IsSoughtAt search text at) (sym all) (sought-part search front line (back ++ more) offset has)))

-- bytes of a part are bytes
bytes-front : (front back : List ℕ) → AreBytes (front ++ back) → AreBytes front
bytes-front [] back bytes = tt
bytes-front (byte ∷ front) back bytes = (bytes.0, bytes-front front back bytes.1)

bytes-part : (front line back : List ℕ) → AreBytes (front ++ (line ++ back)) → AreBytes line
bytes-part [] line back bytes = bytes-front line back bytes
bytes-part (byte ∷ front) line back bytes = bytes-part front line back bytes.1

bytes-lines : (text : List ℕ) → AreBytes text → AllByRecursion AreBytes (lines text)
bytes-lines text bytes = parts-lines AreBytes text (λ front line back is. bytes-part front line back (subst AreBytes is bytes))

-- a text with a byte has a line
pub some-lines : (byte : ℕ) (rest : List ℕ) → 0 < length (lines (byte ∷ rest))
some-lines byte rest = by_end (byte == 10) (lines rest)
  where
    by_end : (ends : Bool) (texts : List (List ℕ)) → 0 < length (if ends then [] ∷ texts else onto_first byte texts)
    by_end true texts = omega arith
    by_end false [] = omega arith
    by_end false (line ∷ others) = omega arith

-- a table that shows nothing in a closed text has no answer for any of its lines
module _ (next : List ℕ) (ends : List Bool) (entries : List ℕ) (for_texts : IsForTexts next ends entries) where
  -- no answer for these lines, of which the first goes on from a state
  abbrev Quiet : ℕ → List (List ℕ) → Type 0
  Quiet state [] = Unit {0}
  Quiet state (line ∷ others) = (runs next ends state line ≡ false) × AllByRecursion (λ line. runs next ends 0 line ≡ false) others

  quiet-first : (texts : List (List ℕ)) → Quiet 0 texts → AllByRecursion (λ line. runs next ends 0 line ≡ false) texts
  quiet-first [] quiet = tt
  quiet-first (line ∷ others) quiet = quiet

  quiet-onto : (byte state : ℕ) (texts : List (List ℕ)) → 0 < length texts → (slice_index_or next (256 * state + byte) FOUND == FOUND) ≡ false
      → Quiet (slice_index_or next (256 * state + byte) FOUND) texts → Quiet state (onto_first byte texts)
  quiet-onto byte state [] some goes quiet = absurd (omega (arith, some))
  quiet-onto byte state (line ∷ others) some goes quiet =
      (cond-false (slice_index_or next (256 * state + byte) FOUND == FOUND) true (runs next ends (slice_index_or next (256 * state + byte) FOUND) line) goes ∙ quiet.0, quiet.1)

  entry-plain : (state byte : ℕ) → byte < 256 → (byte == 10) ≡ false
      → slice_index_or entries (256 * state + byte) FOUND ≡ slice_index_or next (256 * state + byte) FOUND
  entry-plain state byte small plain =
      for_texts state byte small ∙ cond-false (byte == 10) (if slice_index_or ends state true then FOUND else 0) (slice_index_or next (256 * state + byte) FOUND) plain

  entry-end : (state byte : ℕ) → byte < 256 → (byte == 10) ≡ true
      → slice_index_or entries (256 * state + byte) FOUND ≡ (if slice_index_or ends state true then FOUND else 0)
  entry-end state byte small is =
      for_texts state byte small ∙ cond-true (byte == 10) (if slice_index_or ends state true then FOUND else 0) (slice_index_or next (256 * state + byte) FOUND) is

  -- nothing is known of the text before this much of it is left
  abbrev IsLate : ℕ → List ℕ → List ℕ → Type 0
  IsLate state text more = (left : ℕ) → left_at_found entries state (text ++ more) ≡ Some left → left ≤ length more

  too-early : (state byte : ℕ) (rest more : List ℕ) → IsLate state (byte ∷ rest) more → (slice_index_or entries (256 * state + byte) FOUND == FOUND) ≡ true → ⊥
  too-early state byte rest more late is =
      let left = late (suc (length (rest ++ more))) (shows entries state byte (rest ++ more) is) in
      let size = length-append rest more in
      omega (arith, left, size)

  -- one byte more, where all is quiet behind it
  quiet-step : (byte : ℕ) (rest more : List ℕ) (state : ℕ) → byte < 256 → is_closed (byte ∷ rest) ≡ true → IsLate state (byte ∷ rest) more
      → ((state : ℕ) → IsLate state rest more → Quiet state (lines rest)) → Quiet state (lines (byte ∷ rest))
  quiet-step byte rest more state small closed late later = by_byte (byte == 10) refl
    where
      by_end : (ended : Bool) → slice_index_or ends state true ≡ ended → (byte == 10) ≡ true → Quiet state ([] ∷ lines rest)
      by_end true ended is = absurd (too-early state byte rest more late (ap (λ e. e == FOUND) (entry-end state byte small is ∙ ap (λ b. if b then FOUND else 0) ended)))
      by_end false ended is = (
        ended,
        quiet-first (lines rest) (later 0 (λ left found. late left
            (goes-on entries state byte 0 (rest ++ more) (entry-end state byte small is ∙ ap (λ b. if b then FOUND else 0) ended) refl ∙ found))),
      )

      by_rest : (last : List ℕ) → rest ≡ last → (slice_index_or next (256 * state + byte) FOUND == FOUND) ≡ false → (byte == 10) ≡ false
          → Quiet state (onto_first byte (lines rest))
      by_rest [] is shown plain = absurd (true≢false (sym (subst (λ rest. is_closed (byte ∷ rest) ≡ true) is closed) ∙ plain))
      by_rest (first ∷ last) is shown plain =
          quiet-onto byte state (lines rest) (subst (λ rest. 0 < length (lines rest)) (sym is) (some-lines first last)) shown
          (later (slice_index_or next (256 * state + byte) FOUND) (λ left found. late left
          (goes-on entries state byte (slice_index_or next (256 * state + byte) FOUND) (rest ++ more) (entry-plain state byte small plain) shown ∙ found)))

      by_entry : (shown : Bool) → (slice_index_or next (256 * state + byte) FOUND == FOUND) ≡ shown → (byte == 10) ≡ false → Quiet state (onto_first byte (lines rest))
      by_entry true shown plain = absurd (too-early state byte rest more late (ap (λ e. e == FOUND) (entry-plain state byte small plain) ∙ shown))
      by_entry false shown plain = by_rest rest refl shown plain

      by_byte : (ended : Bool) → (byte == 10) ≡ ended → Quiet state (if ended then [] ∷ lines rest else onto_first byte (lines rest))
      by_byte true is = by_end (slice_index_or ends state true) refl is
      by_byte false is = by_entry (slice_index_or next (256 * state + byte) FOUND == FOUND) refl is

  quiet : (text more : List ℕ) (state : ℕ) → AreBytes text → is_closed text ≡ true → IsLate state text more → Quiet state (lines text)
  quiet [] more state bytes closed late = tt
  quiet (byte ∷ rest) more state bytes closed late =
      quiet-step byte rest more state bytes.0 closed late (λ state late. quiet rest more state bytes.1 (closed-tail byte rest closed) late)

  pub table-passed : (text before more : List ℕ) → AreBytes before → text ≡ before ++ more → is_closed before ≡ true
      → ((left : ℕ) → left_at_found entries 0 text ≡ Some left → left ≤ length more) → AllByRecursion (λ line. runs next ends 0 line ≡ false) (lines before)
  table-passed text before more bytes whole closed late =
      quiet-first (lines before) (quiet before more 0 bytes closed (λ left found. late left (ap (λ text. left_at_found entries 0 text) whole ∙ found)))

-- a line that lacks what its expression requires lacks the expression
pub lack-literal : (fold whole : Bool) (re : Tree) (literal : Option Search) (search : Search) (text before more : List ℕ) (place : ℕ) → literal ≡ Some search
    → IfSome literal (λ search. Looks search fold re) → text ≡ before ++ more → length before ≤ place
    → Nowhere (IsSoughtAt search text) 0 place → Lack fold whole re (lines before)
lack-literal fold whole re literal search text before more place is looked cut low nowhere =
    let looks : Looks search fold re = subst (λ literal. IfSome literal (λ search. Looks search fold re)) is looked in
    all-map (λ line. (at : ℕ) → ¬ IsSoughtAt search line at) (λ line. ¬ Has fold whole line re)
    (λ line lacking has. let there = has_sought fold whole re line search looks has in lacking there.0 there.1) (lines before)
    (sought-passed search fold re text before more place looks cut low nowhere)

-- a line for which a table has no answer lacks the expression
pub lack-table : (machine : Machine) (fold whole : Bool) (re : Tree) (table : Table) (text before more : List ℕ) → Seeks machine fold whole re
    → IsMade machine.steps.items machine.fold machine.whole table → AreBytes text → text ≡ before ++ more → is_closed before ≡ true
    → ((left : ℕ) → left_at_found table.texts.next.items 0 text ≡ Some left → left ≤ length more) → Lack fold whole re (lines before)
lack-table machine fold whole re table text before more seeks made bytes cut closed late =
    let front : AreBytes before = bytes-front before more (subst AreBytes cut bytes) in
    all-both (λ line. runs table.next.items table.ends.items 0 line ≡ false) AreBytes (λ line. ¬ Has fold whole line re)
    (λ line none are has. true≢false (sym ((made_has machine fold whole re line table seeks are made).1 has) ∙ none)) (lines before)
    (table-passed table.next.items table.ends.items table.texts.next.items table.for_texts text before more front cut closed late)
    (bytes-lines before front)

-- a place where a table shows a line
pub late-at : (entries : List ℕ) (text before more : List ℕ) (shown : ℕ) → shown ≤ length text → left_at_found entries 0 text ≡ Some shown
    → text ≡ before ++ more → length before ≤ length text - shown → (left : ℕ) → left_at_found entries 0 text ≡ Some left → left ≤ length more
late-at entries text before more shown within is cut low left found =
    let same : left ≡ shown = some-same left shown (sym found ∙ is) in
    let size : length text ≡ length before + length more = ap length cut ∙ length-append before more in
    omega (arith, same, size, within, low)

pub late-never : (entries : List ℕ) (text more : List ℕ) → left_at_found entries 0 text ≡ None
    → (left : ℕ) → left_at_found entries 0 text ≡ Some left → left ≤ length more
late-never entries text more none left found = absurd (some≢none left (sym found ∙ none))

-- the lines before a candidate, and of the whole text where there is none
pub passed-before : (fold whole : Bool) (re : Tree) (text before line rest : List ℕ) (place : ℕ) → IsPassed fold whole re text place → CutsOut text before line rest
    → length before ≤ place → Lack fold whole re (lines before)
passed-before fold whole re text before line rest place passed cut low = passed before (line ++ 10 ∷ rest) cut.whole cut.ends low

pub passed-all : (fold whole : Bool) (re : Tree) (text : List ℕ) (place : ℕ) → IsPassed fold whole re text place → is_closed text ≡ true → place ≡ length text
    → Lack fold whole re (lines text)
passed-all fold whole re text place passed closed end = passed text [] (sym (append-nil text)) closed (omega (arith, end))

-- a walk on, behind lines that lack the expression
module _ (text before line rest : List ℕ) (from : ℕ) (within : from ≤ length text) (ends : is_closed (take from text) ≡ true) (cut : CutsOut (drop from text) before line rest) where
  seam : text ≡ (take from text ++ before) ++ (line ++ 10 ∷ rest)
  seam =
      sym (take-append-drop from text) ∙ ap (λ left. take from text ++ left) cut.whole ∙ sym (append_assoc (take from text) before (line ++ 10 ∷ rest))

  long : length (take from text ++ before) ≡ from + length before
  long = length-append (take from text) before ∙ ap (λ size. size + length before) (length-take-le from text within)

  pub walked-front : take (from + length before) text ≡ take from text ++ before
  walked-front = ap₂ take (sym long) seam ∙ take-append_seam (take from text ++ before) (line ++ 10 ∷ rest)

  pub walked-cut : CutsOut text (take (from + length before) text) line rest
  walked-cut = record {
    ends = ap is_closed walked-front ∙ closed-append (take from text) before ends cut.ends;
    plain = cut.plain;
    whole = seam ∙ ap (λ front. front ++ (line ++ 10 ∷ rest)) (sym walked-front);
  }

  pub walked-lines : lines (take (from + length before) text) ≡ lines (take from text) ++ lines before
  walked-lines = ap lines walked-front ∙ lines-append (take from text) before ends

  -- up to the line's newline
  on : text ≡ ((take from text ++ before) ++ (line ++ 10 ∷ [])) ++ rest
  on = seam ∙ ap (λ back. (take from text ++ before) ++ back) (sym (append_assoc line (10 ∷ []) rest)) ∙ sym (append_assoc (take from text ++ before) (line ++ 10 ∷ []) rest)

  pub walked-on : take (length text - length rest) text ≡ (take from text ++ before) ++ (line ++ 10 ∷ [])
  walked-on =
      let size : length text ≡ length ((take from text ++ before) ++ (line ++ 10 ∷ [])) + length rest =
      ap length on ∙ length-append ((take from text ++ before) ++ (line ++ 10 ∷ [])) rest in
      let left : length text - length rest ≡ length ((take from text ++ before) ++ (line ++ 10 ∷ [])) = omega (arith, size) in
      ap₂ take left on ∙ take-append_seam ((take from text ++ before) ++ (line ++ 10 ∷ [])) rest

  pub walked-ends : is_closed (take (length text - length rest) text) ≡ true
  walked-ends = ap is_closed walked-on ∙ ap is_closed (sym (append_assoc (take from text ++ before) line (10 ∷ []))) ∙ is_closed-push ((take from text ++ before) ++ line) 10

  walked-on_lines : lines (take (length text - length rest) text) ≡ (lines (take from text) ++ lines before) ++ line ∷ []
  walked-on_lines =
      ap lines walked-on ∙ lines-append (take from text ++ before) (line ++ 10 ∷ []) (closed-append (take from text) before ends cut.ends)
      ∙ ap₂ (λ front back. front ++ back) (lines-append (take from text) before ends) (lines-line line [] cut.plain)

  pub walked-rest : is_closed text ≡ true → is_closed rest ≡ true
  walked-rest closed =
      closed-behind ((take from text ++ before) ++ line) rest
      (ap is_closed (append_assoc (take from text ++ before) line (10 ∷ rest)) ∙ ap is_closed (sym seam) ∙ closed)

  module _ (fold whole : Bool) (re : Tree) (done : Lack fold whole re (lines (take from text))) (passed : Lack fold whole re (lines before)) where
    pub walked-passed : Lack fold whole re (lines (take (from + length before) text))
    walked-passed =
        subst (λ texts. Lack fold whole re texts) (sym walked-lines) (all-append (λ line. ¬ Has fold whole line re) (lines (take from text)) (lines before) done passed)

    pub walked-lack : ¬ Has fold whole line re → Lack fold whole re (lines (take (length text - length rest) text))
    walked-lack lacking =
        subst (λ texts. Lack fold whole re texts) (sym walked-on_lines)
        (all-append (λ line. ¬ Has fold whole line re) (lines (take from text) ++ lines before) (line ∷ [])
        (all-append (λ line. ¬ Has fold whole line re) (lines (take from text)) (lines before) done passed) (lacking, tt))

    pub walked-having : Has fold whole line re → IsFirst (λ line. Has fold whole line re) text (take (from + length before) text) line rest
    walked-having has = record { cut = walked-cut; passed = walked-passed; has = has }

-- nothing is left
pub walked-all : (text : List ℕ) (from : ℕ) (fold whole : Bool) (re : Tree) → is_closed (take from text) ≡ true → Lack fold whole re (lines (take from text))
    → Lack fold whole re (lines (drop from text)) → Lack fold whole re (lines text)
walked-all text from fold whole re ends done left =
    subst (λ texts. Lack fold whole re texts) (sym (lines-append (take from text) (drop from text) ends) ∙ ap lines (take-append-drop from text))
    (all-append (λ line. ¬ Has fold whole line re) (lines (take from text)) (lines (drop from text)) done left)

-- the lines around a cut
pub lines_cut : (text before line rest : List ℕ) → CutsOut text before line rest → lines text ≡ lines before ++ line ∷ lines rest
lines_cut text before line rest cut =
    ap lines cut.whole ∙ lines-append before (line ++ 10 ∷ rest) cut.ends ∙ ap (λ back. lines before ++ back) (lines-line line rest cut.plain)

-- a matcher that stays as it was finds what it found
pub finds-stays : (old new : Matcher) (fold whole : Bool) (re : Tree) → Stays old new → Finds old fold whole re → Finds new fold whole re
finds-stays old new fold whole re stays finds =
    let same = stays.machine in
    record {
      seeks = record {
        program = same.steps ∙ finds.seeks.program;
        folds = same.fold ∙ finds.seeks.folds;
        is_whole = same.whole ∙ finds.seeks.is_whole;
      };
      table =
          subst (λ table. IfSome table (λ table. IsMade new.machine.steps.items new.machine.fold new.machine.whole table)) (sym stays.table)
          (subst (λ steps. IfSome old.table (λ table. IsMade steps new.machine.fold new.machine.whole table)) (sym same.steps)
          (subst (λ fold. IfSome old.table (λ table. IsMade old.machine.steps.items fold new.machine.whole table)) (sym same.fold)
          (subst (λ whole. IfSome old.table (λ table. IsMade old.machine.steps.items old.machine.fold whole table)) (sym same.whole) finds.table)));
      literal = subst (λ literal. IfSome literal (λ search. Looks search fold re)) (sym stays.literal) finds.literal;
    }
