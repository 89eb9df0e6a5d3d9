-- Runs of a table over a text of lines.
use Rattle.std.proofs.Common.{◌≡◌, ℕ, suc, ◌+◌, ◌*◌, ◌<◌, ◌≤◌, ◌==◌, Bool, true, false, List, [], ◌∷◌, ◌++◌, length, slice_index, slice_index_or, take, drop, Option, Some, None, if◌then◌else◌, refl, ap, sym, ◌∙◌, arith, length-append}
use Rattle.std.proofs.lemmas.Bool.{true≢false, cond-true, cond-false, eqb-true}
use Rattle.std.proofs.lemmas.List.{at_drop_more, get_or-take}
use Rattle.ps_lines.specs.Lines.{is_closed}
use Rattle.ut_regex.specs.declared.table.TheConstants.{FOUND}
use Rattle.ut_regex.specs.Inner.Tables.{left_at_found, BeginsLines, IsForTexts, IsWhole}
use Rattle.ps_lines.proofs.ClosedLemmas.{closed-tail}

-- numbers that are there are the same where their options are
value : Option ℕ → ℕ
value None = 0
value (Some number) = number

pub some-same : (first second : ℕ) → Some first ≡ Some second → first ≡ second
unfolding value
some-same first second same = ap value same

pub some≢none : (left : ℕ) → Some left ≡ None → ⊥
some≢none left same = grind arith

module _ (entries : List ℕ) where
  pub goes-on : (state byte entry : ℕ) (rest : List ℕ) → slice_index_or entries (256 * state + byte) FOUND ≡ entry → (entry == FOUND) ≡ false
      → left_at_found entries state (byte ∷ rest) ≡ left_at_found entries entry rest
  goes-on state byte entry rest is goes =
      ap (λ e. if e == FOUND then Some (suc (length rest)) else left_at_found entries e rest) is
      ∙ cond-false (entry == FOUND) (Some (suc (length rest))) (left_at_found entries entry rest) goes

  pub shows : (state byte : ℕ) (rest : List ℕ) → (slice_index_or entries (256 * state + byte) FOUND == FOUND) ≡ true
      → left_at_found entries state (byte ∷ rest) ≡ Some (suc (length rest))
  shows state byte rest is =
      cond-true (slice_index_or entries (256 * state + byte) FOUND == FOUND) (Some (suc (length rest)))
      (left_at_found entries (slice_index_or entries (256 * state + byte) FOUND) rest) is

  -- a step within a front of a text, of which no byte so far shows a line
  pub goes-on-at : (text : List ℕ) (count at state entry : ℕ) → at < count → count ≤ length text
      → left_at_found entries state (drop at text) ≡ left_at_found entries 0 text
      → entry ≡ slice_index_or entries (256 * state + slice_index (take count text) at) FOUND → (entry == FOUND) ≡ false
      → left_at_found entries entry (drop (at + 1) text) ≡ left_at_found entries 0 text
  goes-on-at text count at state entry low within so_far is goes =
      let byte : slice_index (take count text) at ≡ slice_index text at = get_or-take count text at 0 low in
      sym (goes-on state (slice_index text at) entry (drop (at + 1) text)
      (ap (λ byte. slice_index_or entries (256 * state + byte) FOUND) (sym byte) ∙ sym is) goes)
      ∙ sym (at_drop_more (left_at_found entries state) text at 0 (omega arith)) ∙ so_far

  pub left-shown : (text more : List ℕ) (state left : ℕ) → left_at_found entries state text ≡ Some left
      → left_at_found entries state (text ++ more) ≡ Some (left + length more)
  left-shown [] more state left found = absurd (some≢none left (sym found))
  left-shown (byte ∷ rest) more state left found =
      let entry = slice_index_or entries (256 * state + byte) FOUND in
      by_shown (entry == FOUND) refl (λ shown. left-shown rest more entry left shown)
    where
      by_shown : (shown : Bool) → (slice_index_or entries (256 * state + byte) FOUND == FOUND) ≡ shown
          → (left_at_found entries (slice_index_or entries (256 * state + byte) FOUND) rest ≡ Some left
          → left_at_found entries (slice_index_or entries (256 * state + byte) FOUND) (rest ++ more) ≡ Some (left + length more))
          → left_at_found entries state (byte ∷ (rest ++ more)) ≡ Some (left + length more)
      by_shown true is later =
          let size = length-append rest more in
          let same : suc (length rest) ≡ left = some-same (suc (length rest)) left (sym (shows state byte rest is) ∙ found) in
          shows state byte (rest ++ more) is ∙ ap (λ left. Some left) (omega (arith, size, same))
      by_shown false is later =
          goes-on state byte (slice_index_or entries (256 * state + byte) FOUND) (rest ++ more) refl is
          ∙ later (sym (goes-on state byte (slice_index_or entries (256 * state + byte) FOUND) rest refl is) ∙ found)

-- a front that shows a line
pub left-in-front : (entries text front back : List ℕ) (left : ℕ) → text ≡ front ++ back → Some left ≡ left_at_found entries 0 front
    → Some (left + length back) ≡ left_at_found entries 0 text
left-in-front entries text front back left cut found =
    sym (left-shown entries front back 0 left (sym found)) ∙ ap (λ text. left_at_found entries 0 text) (sym cut)

-- a step from a state that a table has leads to one that it has
pub goes-known : (entries : List ℕ) → IsWhole entries → (state byte entry : ℕ) → byte < 256 → 256 * state + 255 < length entries
    → entry ≡ slice_index_or entries (256 * state + byte) FOUND → (entry == FOUND) ≡ false → 256 * entry + 255 < length entries
goes-known entries whole state byte entry small known is goes =
    let there = whole.leads state byte small (omega (arith, small, known)) (ap (λ entry. entry == FOUND) (sym is) ∙ goes) in
    omega (arith, there, is)

-- a table for texts of a table that has what it leads to has that too
module _ (next : List ℕ) (ends : List Bool) (entries : List ℕ) (for_texts : IsForTexts next ends entries) (size : length entries ≡ length next) (whole : IsWhole next) where
  text-leads : (state byte : ℕ) → byte < 256 → 256 * state + byte < length entries → (slice_index_or entries (256 * state + byte) FOUND == FOUND) ≡ false
      → 256 * slice_index_or entries (256 * state + byte) FOUND + 255 < length entries
  text-leads state byte small within goes = by_byte (byte == 10) (slice_index_or ends state true) (for_texts state byte small)
    where
      by_byte : (newline ended : Bool)
          → slice_index_or entries (256 * state + byte) FOUND ≡ (if newline then (if ended then FOUND else 0) else slice_index_or next (256 * state + byte) FOUND)
          → 256 * slice_index_or entries (256 * state + byte) FOUND + 255 < length entries
      by_byte true true is = absurd (true≢false (ap (λ entry. entry == FOUND) (sym is) ∙ goes))
      by_byte true false is = omega (arith, is, size, whole.some)
      by_byte false ended is =
          let there = whole.leads state byte small (omega (arith, within, size)) (ap (λ entry. entry == FOUND) (sym is) ∙ goes) in
          omega (arith, is, size, there)

  pub whole-texts : IsWhole entries
  whole-texts = record { some = omega (arith, size, whole.some); leads = text-leads }

-- in a table for texts a newline shows a line or leads to the first state
pub begins-lines : (next : List ℕ) (ends : List Bool) (entries : List ℕ) → IsForTexts next ends entries → BeginsLines entries
begins-lines next ends entries for_texts state goes = by_end (slice_index_or ends state true) (for_texts state 10 (omega arith))
  where
    by_end : (ended : Bool) → slice_index_or entries (256 * state + 10) FOUND ≡ (if ended then FOUND else 0) → slice_index_or entries (256 * state + 10) FOUND ≡ 0
    by_end true is = absurd (true≢false (ap (λ entry. entry == FOUND) (sym is) ∙ goes))
    by_end false is = is

-- a text in two parts, of which the first is closed: where it shows nothing, the second begins in the first state
module _ (entries : List ℕ) (begins : BeginsLines entries) where
  ends-zero : (byte : ℕ) (rest : List ℕ) (state : ℕ) → is_closed (byte ∷ rest) ≡ true → (slice_index_or entries (256 * state + byte) FOUND == FOUND) ≡ false
      → length rest ≡ 0 → slice_index_or entries (256 * state + byte) FOUND ≡ 0
  ends-zero byte [] state closed goes none =
      let newline : byte ≡ 10 = eqb-true byte 10 closed in
      ap (λ byte. slice_index_or entries (256 * state + byte) FOUND) newline
      ∙ begins state (ap (λ byte. slice_index_or entries (256 * state + byte) FOUND == FOUND) (sym newline) ∙ goes)
  ends-zero byte (first ∷ rest) state closed goes none = absurd (omega (arith, none))

  from : (text more : List ℕ) (state : ℕ) → is_closed text ≡ true → (length text ≡ 0 → state ≡ 0) → left_at_found entries state text ≡ None
      → left_at_found entries state (text ++ more) ≡ left_at_found entries 0 more
  from [] more state closed starts none = ap (λ state. left_at_found entries state more) (starts refl)
  from (byte ∷ rest) more state closed starts none =
      by_shown (slice_index_or entries (256 * state + byte) FOUND == FOUND) refl
      (λ goes quiet. from rest more (slice_index_or entries (256 * state + byte) FOUND) (closed-tail byte rest closed) (ends-zero byte rest state closed goes) quiet)
    where
      by_shown : (shown : Bool) → (slice_index_or entries (256 * state + byte) FOUND == FOUND) ≡ shown
          → ((slice_index_or entries (256 * state + byte) FOUND == FOUND) ≡ false → left_at_found entries (slice_index_or entries (256 * state + byte) FOUND) rest ≡ None
          → left_at_found entries (slice_index_or entries (256 * state + byte) FOUND) (rest ++ more) ≡ left_at_found entries 0 more)
          → left_at_found entries state (byte ∷ (rest ++ more)) ≡ left_at_found entries 0 more
      by_shown true is later = absurd (some≢none (suc (length rest)) (sym (shows entries state byte rest is) ∙ none))
      by_shown false is later =
          goes-on entries state byte (slice_index_or entries (256 * state + byte) FOUND) (rest ++ more) refl is
          ∙ later is (sym (goes-on entries state byte (slice_index_or entries (256 * state + byte) FOUND) rest refl is) ∙ none)

  -- a front that shows none
  pub left-in-back : (text front back : List ℕ) → text ≡ front ++ back → is_closed front ≡ true → None ≡ left_at_found entries 0 front
      → left_at_found entries 0 back ≡ left_at_found entries 0 text
  left-in-back text front back cut closed none =
      sym (from front back 0 closed (λ none. refl) (sym none)) ∙ ap (λ text. left_at_found entries 0 text) (sym cut)

  -- four quarters of a text, each of which is closed
  module _ (text front back first second third fourth : List ℕ) (whole : text ≡ front ++ back) (halved : front ≡ first ++ second) (other : back ≡ third ++ fourth)
      (front-closed : is_closed front ≡ true) (first-closed : is_closed first ≡ true) (third-closed : is_closed third ≡ true) where
    pub left-in-first : (left : ℕ) → Some left ≡ left_at_found entries 0 first → Some (left + length second + length back) ≡ left_at_found entries 0 text
    left-in-first left found = left-in-front entries text front back (left + length second) whole (left-in-front entries front first second left halved found)

    pub left-in-second : (left : ℕ) → None ≡ left_at_found entries 0 first → Some left ≡ left_at_found entries 0 second
        → Some (left + length back) ≡ left_at_found entries 0 text
    left-in-second left none found = left-in-front entries text front back left whole (found ∙ left-in-back front first second halved first-closed none)

    behind-front : None ≡ left_at_found entries 0 first → None ≡ left_at_found entries 0 second → left_at_found entries 0 back ≡ left_at_found entries 0 text
    behind-front none more = left-in-back text front back whole front-closed (more ∙ left-in-back front first second halved first-closed none)

    pub left-in-third : (left : ℕ) → None ≡ left_at_found entries 0 first → None ≡ left_at_found entries 0 second → Some left ≡ left_at_found entries 0 third
        → Some (left + length fourth) ≡ left_at_found entries 0 text
    left-in-third left none more found = left-in-front entries back third fourth left other found ∙ behind-front none more

    pub left-in-fourth : None ≡ left_at_found entries 0 first → None ≡ left_at_found entries 0 second → None ≡ left_at_found entries 0 third
        → left_at_found entries 0 fourth ≡ left_at_found entries 0 text
    left-in-fourth none more further = left-in-back back third fourth other third-closed further ∙ behind-front none more
