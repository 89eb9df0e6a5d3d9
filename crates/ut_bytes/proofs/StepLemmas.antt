-- Bytes that are moved together in place, one after another.
use Rattle.std.proofs.Common.{◌≡◌, ◌==◌, ◌&&◌, ◌<◌, ◌≤◌, ◌+◌, ℕ, List, [], ◌∷◌, ◌++◌, length, get_or, set, take, drop, Bool, true, false, not, None, Some, refl, ap, sym, subst, ◌∙◌, append_assoc, append-nil, arith, if◌then◌else◌}
use Rattle.std.proofs.lemmas.Bool.{eqb-true}
use Rattle.std.proofs.lemmas.List.{map-append, drop_all, drop_more, drop-set-lt, length-set, take-append-drop, take-set, take_more_set}
use Rattle.std.proofs.Math.Seq.{drop-append_seam, take-append_seam}
use Rattle.ps_lines.proofs.TextsLemmas.{begins-append, begins-more, begins-self}
use Rattle.ps_lines.specs.Texts.{BeginsWith}
use Rattle.ut_streams.specs.Streams.{Wrote}
use Rattle.std.proofs.lemmas.List.Elements.{filter-append}
use Rattle.ut_bytes.specs.declared.edits.Edit.{Edit}
use Rattle.ut_bytes.specs.declared.edits.Edit.TheVariants as edit
use Rattle.ut_bytes.specs.Inner.Edits.{edited_by}
use Rattle.ut_bytes.specs.Inner.Tables.{image_at, marked}
use Rattle.ut_bytes.specs.Inner.Before.{before_of}
use Rattle.ut_bytes.specs.Steps.{is_repeat, squeezed_behind}

-- what is to become of the whole is what stands before the place `left`, and what becomes of the bytes from `place` on; the front stands as it did
pub record MovedTogether (front : List ℕ) (whole due : List ℕ → List ℕ) (bytes : List ℕ) (left place : ℕ) : Type 0 where
  pub begins : BeginsWith (take left bytes) front
  pub same : (more : List ℕ) → front ++ whole more ≡ take left bytes ++ due (drop place bytes ++ more)
  pub behind : left ≤ place
  pub within : place ≤ length bytes

pub moved-start : (due : List ℕ → List ℕ) (bytes : List ℕ) (from : ℕ) → from ≤ length bytes
    → MovedTogether (take from bytes) (λ more. due (drop from bytes ++ more)) due bytes from from
moved-start due bytes from within = record { begins = begins-self (take from bytes); same = λ more. refl; behind = omega arith; within = within }

put-at : (bytes : List ℕ) (left put : ℕ) (keeps : Bool) (rest : List ℕ) → left < length bytes
    → take left bytes ++ (if keeps then put ∷ rest else rest) ≡ take (left + (if keeps then 1 else 0)) (set bytes left put) ++ rest
put-at bytes left put true rest within =
    sym (ap (λ front. front ++ rest) (take_more_set bytes left put within) ∙ append_assoc (take left bytes) (put ∷ []) rest)
put-at bytes left put false rest within =
    let none : left + 0 ≡ left = omega arith in
    sym (ap (λ front. front ++ rest) (ap (λ count. take count (set bytes left put)) none ∙ take-set bytes left put))

begins-at : (front bytes : List ℕ) (left put : ℕ) (keeps : Bool) → left < length bytes → BeginsWith (take left bytes) front
    → BeginsWith (take (left + (if keeps then 1 else 0)) (set bytes left put)) front
begins-at front bytes left put true within begins = rw (take_more_set bytes left put within) (begins-more (take left bytes) front (put ∷ []) begins)
begins-at front bytes left put false within begins =
    let none : left + 0 ≡ left = omega arith in
    rw (none, take-set bytes left put) begins

-- a byte is looked at, and what becomes of it is put behind the bytes that are left; it counts where it is kept
pub moved-next : (front : List ℕ) (whole due next : List ℕ → List ℕ) (bytes : List ℕ) (left place byte put : ℕ) (keeps : Bool)
    → MovedTogether front whole due bytes left place → place < length bytes → byte ≡ get_or bytes place 0
    → ((more : List ℕ) → due (byte ∷ more) ≡ (if keeps then put ∷ next more else next more))
    → MovedTogether front whole next (set bytes left put) (left + (if keeps then 1 else 0)) (place + 1)
moved-next front whole due next bytes left place byte put keeps moved within is step =
    let behind : left < place + 1 = omega (arith, moved.behind) in
    let low : left < length bytes = omega (arith, moved.behind, within) in
    let first : drop place bytes ≡ byte ∷ drop (place + 1) bytes = drop_more bytes place 0 within ∙ ap (λ byte. byte ∷ drop (place + 1) bytes) (sym is) in
    record {
      begins = begins-at front bytes left put keeps low moved.begins;
      same = λ more.
          moved.same more ∙ ap (λ rest. take left bytes ++ due (rest ++ more)) first ∙ ap (λ rest. take left bytes ++ rest) (step (drop (place + 1) bytes ++ more))
          ∙ put-at bytes left put keeps (next (drop (place + 1) bytes ++ more)) low
          ∙ ap (λ rest. take (left + (if keeps then 1 else 0)) (set bytes left put) ++ next (rest ++ more)) (sym (drop-set-lt (place + 1) bytes left put behind));
      behind = counted keeps left place moved.behind;
      within = omega (arith, within, length-set bytes left put);
    } where
      counted : (keeps : Bool) (left place : ℕ) → left ≤ place → left + (if keeps then 1 else 0) ≤ place + 1
      counted true left place behind = omega (arith, behind)
      counted false left place behind = omega (arith, behind)

-- all bytes were looked at
pub moved-all : (front : List ℕ) (whole due : List ℕ → List ℕ) (bytes : List ℕ) (left place : ℕ) → MovedTogether front whole due bytes left place
    → length bytes ≤ place → Wrote whole due front (take left bytes) true
moved-all front whole due bytes left place moved all =
    let same : (more : List ℕ) → take left bytes ++ due more ≡ front ++ whole more =
    λ more. ap (λ rest. take left bytes ++ due (rest ++ more)) (sym (drop_all place bytes all)) ∙ sym (moved.same more) in
    record {
      kept = moved.begins;
      grew = λ ok more. same more;
      part = λ more. rw (← same more) (begins-append (take left bytes) (due more));
    }

-- what is due of nothing is nothing: the bytes that are left are what becomes of the text
pub moved-whole : (front text : List ℕ) (due : List ℕ → List ℕ) (written : List ℕ) → due [] ≡ [] → Wrote (λ more. due (text ++ more)) due front written true
    → written ≡ front ++ due text
moved-whole front text due written none wrote =
    sym (append-nil written) ∙ ap (λ rest. written ++ rest) (sym none) ∙ wrote.grew refl [] ∙ ap (λ text. front ++ due text) (append-nil text)

-- nothing is squeezed
pub Wrote-as_is : (bytes : List ℕ) (from : ℕ) → Wrote (λ more. drop from bytes ++ more) (λ more. more) (take from bytes) bytes true
Wrote-as_is bytes from =
    let whole : take from bytes ++ drop from bytes ≡ bytes = take-append-drop from bytes in
    let same : (more : List ℕ) → bytes ++ more ≡ take from bytes ++ (drop from bytes ++ more) =
    λ more. ap (λ bytes. bytes ++ more) (sym whole) ∙ append_assoc (take from bytes) (drop from bytes) more in
    record {
      kept = subst (λ bytes'. BeginsWith bytes' (take from bytes)) whole (begins-append (take from bytes) (drop from bytes));
      grew = λ ok more. same more;
      part = λ more. rw (← same more) (begins-append bytes more);
    }

-- a piece was edited and appended, and what was appended squeezed
pub Wrote-edited : (edit due due' : List ℕ → List ℕ) (piece old half new : List ℕ) (from : ℕ) → ((more : List ℕ) → edit (piece ++ more) ≡ edit piece ++ edit more)
    → half ≡ old ++ edit piece → from ≡ length old
    → Wrote (λ more. due (drop from half ++ more)) due' (take from half) new true
    → Wrote (λ more. due (edit (piece ++ more))) (λ more. due' (edit more)) old new true
Wrote-edited edit due due' piece old half new from goes_on is at wrote =
    let front : take from half ≡ old = ap (λ from. take from half) at ∙ ap (take (length old)) is ∙ take-append_seam old (edit piece) in
    let back : drop from half ≡ edit piece = ap (λ from. drop from half) at ∙ ap (drop (length old)) is ∙ drop-append_seam old (edit piece) in
    let grew : (more : List ℕ) → new ++ due' (edit more) ≡ old ++ due (edit (piece ++ more)) =
    λ more. wrote.grew refl (edit more) ∙ ap (λ front. front ++ due (drop from half ++ edit more)) front
    ∙ ap (λ text. old ++ due text) (ap (λ back. back ++ edit more) back ∙ sym (goes_on more)) in
    record {
      kept = subst (λ front. BeginsWith new front) front wrote.kept;
      grew = λ ok more. grew more;
      part = λ more. rw (← grew more) (begins-append new (due' (edit more)));
    }

-- squeezing goes on behind a byte
repeat-by : (set : ℕ → Bool) (byte before : ℕ) (none : Bool) → (before == 256) ≡ none → byte < 256
    → is_repeat set (if none then None else Some before) byte ≡ (set byte && byte == before)
repeat-by set byte before false is within = refl
repeat-by set byte before true is within = sym (ap (λ same. set byte && same) (other (byte == before) refl) ∙ none (set byte)) where
  other : (same : Bool) → (byte == before) ≡ same → same ≡ false
  other false is' = refl
  other true is' = absurd (lt-irrefl (eqb-true byte before is') (eqb-true before 256 is) within) where
    lt-irrefl : byte ≡ before → before ≡ 256 → byte < 256 → ⊥
    lt-irrefl one two three = omega (arith, one, two, three)

  none : (set : Bool) → (set && false) ≡ false
  none true = refl
  none false = refl

goes_on : (repeat : Bool) (byte : ℕ) (rest : List ℕ) → (if repeat then rest else byte ∷ rest) ≡ (if not repeat then byte ∷ rest else rest)
goes_on true byte rest = refl
goes_on false byte rest = refl

before-byte : (byte : ℕ) (none : Bool) → (byte == 256) ≡ none → byte < 256 → Some byte ≡ (if none then None else Some byte)
before-byte byte false is within = refl
before-byte byte true is within = absurd (omega (arith, eqb-true byte 256 is, within))

pub squeezed-next : (set : ℕ → Bool) (before byte : ℕ) → byte < 256 → (more : List ℕ)
    → squeezed_behind (before_of before) set (byte ∷ more)
    ≡ (if not (set byte && byte == before) then byte ∷ squeezed_behind (before_of byte) set more else squeezed_behind (before_of byte) set more)
squeezed-next set before byte within more =
    goes_on (is_repeat set (before_of before) byte) byte (squeezed_behind (Some byte) set more)
    ∙ ap (λ repeat. if not repeat then byte ∷ squeezed_behind (Some byte) set more else squeezed_behind (Some byte) set more)
    (repeat-by set byte before (before == 256) refl within)
    ∙ ap (λ before'. if not (set byte && byte == before) then byte ∷ squeezed_behind before' set more else squeezed_behind before' set more)
    (before-byte byte (byte == 256) refl within)

pub ruleset as_is = (Wrote-as_is)

-- what is done to each byte goes on over a cut
pub edited-append : (edit : Edit) (front back : List ℕ) → edited_by edit (front ++ back) ≡ edited_by edit front ++ edited_by edit back
edited-append edit.Nothing front back = refl
edited-append (edit.Delete set) front back = filter-append (λ byte. not (marked set byte)) front back
edited-append (edit.Translate images) front back = map-append (image_at images) front back
