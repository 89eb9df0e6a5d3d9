-- What the fields of a line are, whichever bytes separate them.
use Rattle.std.proofs.Common.{◌≡◌, ◌≤◌, ◌+◌, ◌-◌, ◌&&◌, ◌||◌, ℕ, zero, suc, Bool, true, false, not, List, [], ◌∷◌, ◌++◌, length, reverse, replicate, ap, sym, ◌∙◌, refl, append-nil, arith}
use mathlib.Core.List.{reverse-cons}
use Rattle.std.proofs.lemmas.Bool.{and_parts, or_parts}
use Rattle.std.proofs.lemmas.List.{reverse-append, reverse-reverse}
use Rattle.std.proofs.lemmas.List.Elements.{filter-append}
use Rattle.std.proofs.lemmas.List.Folds.{list_all-append, list_any-append}
use Rattle.std.specs.List.{concat, filter, list_all, list_any}
use Rattle.ut_test.specs.Fields.{before_white, begins, field_of, fields_by, fields_from, from_end, is_white, next_field, past_ender, past_white, IsTrimmed}
use Rattle.ut_test.proofs.FieldLemmas.{field_and_rest}

-- one field for a name
fields_from-length : (separates : ℕ → Bool) (text : List ℕ) (more : ℕ) → length (fields_from separates text more) ≡ more + 1
fields_from-length separates text zero = refl
fields_from-length separates text (suc more) = omega (arith, fields_from-length separates (next_field separates text) more)

pub fields_by-length : (separates : ℕ → Bool) (line : List ℕ) (names : ℕ) → 1 ≤ names → length (fields_by separates line names) ≡ names
fields_by-length separates line names some = omega (arith, fields_from-length separates (past_white separates line) (names - 1))

-- white space separates
white_separates : (separates : ℕ → Bool) (byte : ℕ) → is_white separates byte ≡ true → separates byte ≡ true
white_separates separates byte white = (and_parts (separates byte) _ white).0

-- a byte that doesn't separate is no white space
plain_byte : (separates : ℕ → Bool) (byte : ℕ) → separates byte ≡ false → is_white separates byte ≡ false
plain_byte separates byte plain = rw plain refl

-- the bytes that separate nothing
abbrev kept : (ℕ → Bool) → List ℕ → List ℕ
kept separates text = filter (λ byte. not (separates byte)) text

kept-separator : (separates : ℕ → Bool) (byte : ℕ) (rest : List ℕ) → separates byte ≡ true → kept separates (byte ∷ rest) ≡ kept separates rest
kept-separator separates byte rest is = rw is refl

kept-white : (separates : ℕ → Bool) (white : Bool) (byte : ℕ) (rest : List ℕ) → is_white separates byte ≡ white
    → kept separates (past_white separates rest) ≡ kept separates rest → kept separates (past_white separates (byte ∷ rest)) ≡ kept separates (byte ∷ rest)
kept-white separates true byte rest is others = rw is (others ∙ sym (kept-separator separates byte rest (white_separates separates byte is)))
kept-white separates false byte rest is others = rw is refl

kept-past_white : (separates : ℕ → Bool) (text : List ℕ) → kept separates (past_white separates text) ≡ kept separates text
kept-past_white separates [] = refl
kept-past_white separates (byte ∷ rest) = kept-white separates (is_white separates byte) byte rest refl (kept-past_white separates rest)

kept-ender : (separates : ℕ → Bool) (ends : Bool) (byte : ℕ) (rest : List ℕ) → separates byte ≡ ends → kept separates (past_ender separates (byte ∷ rest)) ≡ kept separates (byte ∷ rest)
kept-ender separates true byte rest is = rw is (kept-past_white separates rest)
kept-ender separates false byte rest is = let same : past_ender separates (byte ∷ rest) ≡ byte ∷ rest = rw is refl in ap (kept separates) same

kept-past_ender : (separates : ℕ → Bool) (text : List ℕ) → kept separates (past_ender separates text) ≡ kept separates text
kept-past_ender separates [] = refl
kept-past_ender separates (byte ∷ rest) = kept-ender separates (separates byte) byte rest refl

kept-next_field : (separates : ℕ → Bool) (text : List ℕ) → kept separates (next_field separates text) ≡ kept separates (from_end separates text)
kept-next_field separates text = kept-past_ender separates (past_white separates (from_end separates text)) ∙ kept-past_white separates (from_end separates text)

kept-append : (separates : ℕ → Bool) (front back : List ℕ) → kept separates (front ++ back) ≡ kept separates front ++ kept separates back
kept-append separates front back = filter-append (λ byte. not (separates byte)) front back

kept-one : (separates : ℕ → Bool) (ends : Bool) (byte : ℕ) (rest : List ℕ) → separates byte ≡ ends
    → reverse (kept separates rest) ++ kept separates (byte ∷ []) ≡ reverse (kept separates (byte ∷ rest))
kept-one separates true byte rest is = rw is (append-nil (reverse (kept separates rest)))
kept-one separates false byte rest is = rw is (sym (reverse-cons byte (kept separates rest)))

kept-reverse : (separates : ℕ → Bool) (text : List ℕ) → kept separates (reverse text) ≡ reverse (kept separates text)
kept-reverse separates [] = refl
kept-reverse separates (byte ∷ rest) =
    ap (kept separates) (reverse-cons byte rest)
    ∙ kept-append separates (reverse rest) (byte ∷ [])
    ∙ ap (λ front. front ++ kept separates (byte ∷ [])) (kept-reverse separates rest)
    ∙ kept-one separates (separates byte) byte rest refl

kept-before_white : (separates : ℕ → Bool) (text : List ℕ) → kept separates (before_white separates text) ≡ kept separates text
kept-before_white separates text =
    kept-reverse separates (past_white separates (reverse text))
    ∙ ap reverse (kept-past_white separates (reverse text) ∙ kept-reverse separates text)
    ∙ reverse-reverse (kept separates text)

kept-fields_from : (separates : ℕ → Bool) (text : List ℕ) (more : ℕ) → kept separates (concat (fields_from separates text more)) ≡ kept separates text
kept-fields_from separates text zero = ap (kept separates) (append-nil (before_white separates text)) ∙ kept-before_white separates text
kept-fields_from separates text (suc more) =
    kept-append separates (field_of separates text) (concat (fields_from separates (next_field separates text) more))
    ∙ ap (λ back. kept separates (field_of separates text) ++ back) (kept-fields_from separates (next_field separates text) more ∙ kept-next_field separates text)
    ∙ sym (kept-append separates (field_of separates text) (from_end separates text))
    ∙ ap (kept separates) (field_and_rest separates text)

-- the bytes that separate nothing are those of the fields
pub kept-fields_by : (separates : ℕ → Bool) (line : List ℕ) (names : ℕ)
    → filter (λ byte. not (separates byte)) (concat (fields_by separates line names)) ≡ filter (λ byte. not (separates byte)) line
kept-fields_by separates line names = kept-fields_from separates (past_white separates line) (names - 1) ∙ kept-past_white separates line

-- a line without separators
plain_goes_on : (separates : ℕ → Bool) (byte : ℕ) (rest : List ℕ) → list_any separates (byte ∷ rest) ≡ false → (separates byte ≡ false) × (list_any separates rest ≡ false)
plain_goes_on separates byte rest plain = or_parts (separates byte) (list_any separates rest) plain

field_of-plain : (separates : ℕ → Bool) (text : List ℕ) → list_any separates text ≡ false → field_of separates text ≡ text
field_of-plain separates [] plain = refl
field_of-plain separates (byte ∷ rest) plain =
    let parts = plain_goes_on separates byte rest plain in rw parts.0 (ap (λ others. byte ∷ others) (field_of-plain separates rest parts.1))

from_end-plain : (separates : ℕ → Bool) (text : List ℕ) → list_any separates text ≡ false → from_end separates text ≡ []
from_end-plain separates [] plain = refl
from_end-plain separates (byte ∷ rest) plain =
    let parts = plain_goes_on separates byte rest plain in rw parts.0 (from_end-plain separates rest parts.1)

past_white-plain : (separates : ℕ → Bool) (text : List ℕ) → list_any separates text ≡ false → past_white separates text ≡ text
past_white-plain separates [] plain = refl
past_white-plain separates (byte ∷ rest) plain = rw (plain_byte separates byte (plain_goes_on separates byte rest plain).0) refl

or_none : (one other : Bool) → one ≡ false → other ≡ false → (one || (other || false)) ≡ false
or_none one other first second = cc

list_any-reverse : (separates : ℕ → Bool) (text : List ℕ) → list_any separates text ≡ false → list_any separates (reverse text) ≡ false
list_any-reverse separates [] plain = refl
list_any-reverse separates (byte ∷ rest) plain =
    let parts = plain_goes_on separates byte rest plain in
    ap (list_any separates) (reverse-cons byte rest)
    ∙ list_any-append separates (reverse rest) (byte ∷ [])
    ∙ or_none (list_any separates (reverse rest)) (separates byte) (list_any-reverse separates rest parts.1) parts.0

before_white-plain : (separates : ℕ → Bool) (text : List ℕ) → list_any separates text ≡ false → before_white separates text ≡ text
before_white-plain separates text plain =
    ap reverse (past_white-plain separates (reverse text) (list_any-reverse separates text plain)) ∙ reverse-reverse text

fields_from-empty : (separates : ℕ → Bool) (more : ℕ) → fields_from separates [] more ≡ replicate (suc more) []
fields_from-empty separates zero = refl
fields_from-empty separates (suc more) = ap (λ others. [] ∷ others) (fields_from-empty separates more)

fields_from-plain : (separates : ℕ → Bool) (text : List ℕ) (more : ℕ) → list_any separates text ≡ false → fields_from separates text more ≡ text ∷ replicate more []
fields_from-plain separates text zero plain = ap (λ field. field ∷ []) (before_white-plain separates text plain)
fields_from-plain separates text (suc more) plain =
    ap (λ field. field ∷ fields_from separates (next_field separates text) more) (field_of-plain separates text plain)
    ∙ ap (λ rest. text ∷ fields_from separates (past_ender separates (past_white separates rest)) more) (from_end-plain separates text plain)
    ∙ ap (λ others. text ∷ others) (fields_from-empty separates more)

-- it is the first field
pub fields_by-plain : (separates : ℕ → Bool) (line : List ℕ) (names : ℕ) → list_any separates line ≡ false → fields_by separates line names ≡ line ∷ replicate (names - 1) []
fields_by-plain separates line names plain =
    ap (λ text. fields_from separates text (names - 1)) (past_white-plain separates line plain) ∙ fields_from-plain separates line (names - 1) plain

-- white space at the beginning of a text
record Front (test : ℕ → Bool) (text rest : List ℕ) : Type 0 where
  front : List ℕ
  whole : text ≡ front ++ rest
  all : list_all test front ≡ true

one_more_in_front : (test : ℕ → Bool) (byte : ℕ) (text rest : List ℕ) → test byte ≡ true → Front test text rest → Front test (byte ∷ text) rest
one_more_in_front test byte text rest passes front = record { front = byte ∷ front.front; whole = ap (λ others. byte ∷ others) front.whole; all = rw passes front.all }

white_front_on : (separates : ℕ → Bool) (white : Bool) (byte : ℕ) (rest : List ℕ) → is_white separates byte ≡ white → Front (is_white separates) rest (past_white separates rest)
    → Front (is_white separates) (byte ∷ rest) (past_white separates (byte ∷ rest))
white_front_on separates true byte rest is others = rw is (one_more_in_front (is_white separates) byte rest (past_white separates rest) is others)
white_front_on separates false byte rest is others = rw is (record { front = []; whole = refl; all = refl })

white_front : (separates : ℕ → Bool) (text : List ℕ) → Front (is_white separates) text (past_white separates text)
white_front separates [] = record { front = []; whole = refl; all = refl }
white_front separates (byte ∷ rest) = white_front_on separates (is_white separates byte) byte rest refl (white_front separates rest)

begins_on : (separates : ℕ → Bool) (white : Bool) (byte : ℕ) (rest : List ℕ) → is_white separates byte ≡ white → begins (is_white separates) (past_white separates rest) ≡ false
    → begins (is_white separates) (past_white separates (byte ∷ rest)) ≡ false
begins_on separates true byte rest is others = rw is others
begins_on separates false byte rest is others = rw is is

-- behind it stands none
begins-past_white : (separates : ℕ → Bool) (text : List ℕ) → begins (is_white separates) (past_white separates text) ≡ false
begins-past_white separates [] = refl
begins-past_white separates (byte ∷ rest) = begins_on separates (is_white separates byte) byte rest refl (begins-past_white separates rest)

begins-front : (test : ℕ → Bool) (front back : List ℕ) → begins test (front ++ back) ≡ false → begins test front ≡ false
begins-front test [] back none = refl
begins-front test (byte ∷ front) back none = none

and_all : (one other : Bool) → one ≡ true → other ≡ true → (one && (other && true)) ≡ true
and_all one other first second = cc

list_all-reverse : (test : ℕ → Bool) (text : List ℕ) → list_all test text ≡ true → list_all test (reverse text) ≡ true
list_all-reverse test [] all = refl
list_all-reverse test (byte ∷ rest) all =
    let parts = and_parts (test byte) (list_all test rest) all in
    ap (list_all test) (reverse-cons byte rest)
    ∙ list_all-append test (reverse rest) (byte ∷ [])
    ∙ and_all (list_all test (reverse rest)) (test byte) (list_all-reverse test rest parts.1) parts.0

-- a text is what stands before the white space at its end, and that
white_back : (separates : ℕ → Bool) (text : List ℕ) → (back : List ℕ) × (text ≡ before_white separates text ++ back) × (list_all (is_white separates) back ≡ true)
white_back separates text =
    let behind = white_front separates (reverse text) in (
      reverse behind.front,
      sym (reverse-reverse text) ∙ ap reverse behind.whole ∙ reverse-append behind.front (past_white separates (reverse text)),
      list_all-reverse (is_white separates) behind.front behind.all,
    )

-- one name gets the line without white space at its ends
pub trimmed : (separates : ℕ → Bool) (line : List ℕ) → (field : List ℕ) × (fields_by separates line 1 ≡ field ∷ []) × IsTrimmed (is_white separates) line field
trimmed separates line =
    let text = past_white separates line in
    let before = white_front separates line in
    let behind = white_back separates text in
    let bare = begins-past_white separates line in (
      before_white separates text,
      refl,
      record {
        front = before.front;
        back = behind.0;
        whole = before.whole ∙ ap (λ rest. before.front ++ rest) behind.1;
        in_front = before.all;
        at_back = behind.2;
        first = begins-front (is_white separates) (before_white separates text) behind.0 (ap (begins (is_white separates)) (sym behind.1) ∙ bare);
        last = ap (begins (is_white separates)) (reverse-reverse (past_white separates (reverse text))) ∙ begins-past_white separates (reverse text);
      },
    )

-- the field before a separator, and what stands from it on
field_of-before : (separates : ℕ → Bool) (field : List ℕ) (byte : ℕ) (rest : List ℕ) → list_any separates field ≡ false → separates byte ≡ true
    → (field_of separates (field ++ byte ∷ rest) ≡ field) × (from_end separates (field ++ byte ∷ rest) ≡ byte ∷ rest)
field_of-before separates [] byte rest plain ends = (rw ends refl, rw ends refl)
field_of-before separates (first ∷ others) byte rest plain ends =
    let parts = plain_goes_on separates first others plain in
    let more = field_of-before separates others byte rest parts.1 ends in
    (rw parts.0 (ap (λ field. first ∷ field) more.0), rw parts.0 more.1)

past_white-before : (separates : ℕ → Bool) (field : List ℕ) (byte : ℕ) (rest : List ℕ) → list_any separates field ≡ false → is_white separates byte ≡ false
    → past_white separates (field ++ byte ∷ rest) ≡ field ++ byte ∷ rest
past_white-before separates [] byte rest plain other = rw other refl
past_white-before separates (first ∷ others) byte rest plain other = rw (plain_byte separates first (plain_goes_on separates first others plain).0) refl

-- a field is cut off where a text begins with it and what stands behind its end is known
cut_off : (separates : ℕ → Bool) (text field behind next : List ℕ) (names : ℕ) → 1 ≤ names → past_white separates text ≡ text
    → field_of separates text ≡ field → from_end separates text ≡ behind → past_ender separates (past_white separates behind) ≡ next
    → fields_by separates text (names + 1) ≡ field ∷ fields_from separates next (names - 1)
cut_off separates text field behind next names some bare is end goes =
    let more : names + 1 - 1 ≡ suc (names - 1) = omega arith in
    ap (λ whole. fields_from separates whole (names + 1 - 1)) bare
    ∙ ap (fields_from separates text) more
    ∙ ap (λ one. one ∷ fields_from separates (next_field separates text) (names - 1)) is
    ∙ ap (λ rest. field ∷ fields_from separates (past_ender separates (past_white separates rest)) (names - 1)) end
    ∙ ap (λ rest. field ∷ fields_from separates rest (names - 1)) goes

pub ended : (separates : ℕ → Bool) (field rest : List ℕ) (byte names : ℕ) → 1 ≤ names → list_any separates field ≡ false
    → separates byte ≡ true → is_white separates byte ≡ false
    → fields_by separates (field ++ byte ∷ rest) (names + 1) ≡ field ∷ fields_by separates rest names
ended separates field rest byte names some plain ends other =
    let cut = field_of-before separates field byte rest plain ends in
    cut_off separates (field ++ byte ∷ rest) field (byte ∷ rest) (past_white separates rest) names some
    (past_white-before separates field byte rest plain other) cut.0 cut.1 (rw other (rw ends refl))

pub parted : (separates : ℕ → Bool) (field rest : List ℕ) (first byte next names : ℕ) → 1 ≤ names → list_any separates (first ∷ field) ≡ false
    → is_white separates byte ≡ true → separates next ≡ false
    → fields_by separates (first ∷ field ++ byte ∷ next ∷ rest) (names + 1) ≡ (first ∷ field) ∷ fields_by separates (next ∷ rest) names
parted separates field rest first byte next names some plain white other =
    let cut = field_of-before separates (first ∷ field) byte (next ∷ rest) plain (white_separates separates byte white) in
    let bare = plain_byte separates next other in
    cut_off separates (first ∷ field ++ byte ∷ next ∷ rest) (first ∷ field) (byte ∷ next ∷ rest) (next ∷ rest) names some
    (rw (plain_byte separates first (plain_goes_on separates first field plain).0) refl) cut.0 cut.1 (rw white (rw bare (rw other refl)))
    ∙ ap (λ text. (first ∷ field) ∷ fields_from separates text (names - 1)) (rw bare refl)

pub unchanged : (separates : ℕ → Bool) (line : List ℕ) (byte names : ℕ) → is_white separates byte ≡ true → fields_by separates (byte ∷ line) names ≡ fields_by separates line names
unchanged separates line byte names white = rw white refl
