-- Every text is read, or has a fault.
use Rattle.std.proofs.Common.{ℕ, zero, suc, ◌≡◌, ◌+◌, ◌*◌, ◌/◌, ◌%◌, ◌<◌, ◌≤◌, ◌==◌, ◌&&◌, ◌⊎◌, inl, inr, nat_le, nat_lt, not, cond, if◌then◌else◌, Bool, true, false, List, [], ◌∷◌, length, take, drop, position, Option, Some, None, slice_index, refl, ap, sym, subst, ◌∙◌, arith, length-drop}
use Rattle.std.specs.Int.{bit_at}
use Rattle.std.specs.Option.{ForSome}
use Rattle.std.proofs.lemmas.Bool.{eqb-true, true≢false}
use Rattle.std.proofs.lemmas.Bool.Decides.{leb_tells}
use Rattle.std.proofs.lemmas.Nat.Bits.{bit_at_lowest, bit_at-suc}
use Rattle.ps_lines.specs.ByteSet.{has_byte}
use Rattle.ps_lines.specs.Classes.{class_named}
use Rattle.ps_lines.specs.declared.class.Class.{Class}
use Rattle.ps_lines.specs.declared.ByteSet.{ByteSet}
use Rattle.ut_regex.specs.declared.fault.ReFault.{ReFault}
use Rattle.ut_regex.specs.declared.fault.ReFault.TheVariants.{NotARegex, RepeatTooLarge}
use Rattle.ut_regex.specs.declared.brackets.Item.{Item}
use Rattle.ut_regex.specs.declared.brackets.Item.TheVariants as element
use Rattle.ut_regex.specs.declared.pieces.Before.{Before}
use Rattle.ut_regex.specs.declared.pieces.Before.TheVariants as before
use Rattle.ut_regex.specs.declared.pieces.Sign.{Sign}
use Rattle.ut_regex.specs.declared.pieces.Sign.TheVariants as sign
use Rattle.ut_regex.specs.declared.pieces.Escaped.{Escaped}
use Rattle.ut_regex.specs.declared.pieces.Escaped.TheVariants as escaped
use Rattle.ut_regex.specs.declared.pieces.Piece.{Piece}
use Rattle.ut_regex.specs.declared.pieces.Piece.TheVariants as piece
use Rattle.ut_regex.specs.declared.tree.Leaf.{Leaf}
use Rattle.ut_regex.specs.declared.tree.Leaf.TheVariants.{Byte, Any, Among, NotAmong}
use Rattle.ut_regex.specs.declared.tree.Bounds.{Bounds}
use Rattle.ut_regex.specs.Brackets.{begins_with, lists, item, is_special, range_end, ranged, class_alone, class_closed, class_in, class_at, behind_close, IsItems, no_item, next_item, IsNoItems, bad_item, later_item, IsListing, IsNoListing, IsBracket, IsNoBracket}
use Rattle.ut_regex.specs.Intervals.{Bound, bound, no_bound, bound_of, begins_digit, number_from, behind_digits, Interval, bounds, no_bounds, interval, is_ordered, ended, second_bound, behind_brace, behind_bound, first_bound}
use Rattle.ut_regex.specs.Pieces.{Next, itself, any, bracketed, line_begins, line_ends, opens, closes, bars, repeats, counted, refused, is_part, is_side, is_start, sign_of, escaped_of, dollar, basic_escaped, basic_escape, basic_next, extended_escaped, extended_escape, extended_next, next, IsPiece, IsNoPiece}
use Rattle.ut_regex.specs.Reading.{leaves, depth_behind, may_end, IsExpression, ends, goes_on, HasFault, unfinished, here, later, IsRead, Faults}
use Rattle.ut_regex.specs.Spans.{is_from}
use Rattle.ut_regex.specs.Answers.{is_had}
use Rattle.ut_regex.specs.Reading.{Reads}
use Rattle.ut_regex.specs.Spans.{Has}
use Rattle.ut_regex.specs.Tree.{Tree}
use Rattle.ut_regex.proofs.AnswerLemmas.{same_answer}
use Rattle.ut_regex.proofs.LineLemmas.{has_same}
use Rattle.ut_regex.proofs.OneReadingLemmas.{reads_once}
use Rattle.ut_regex.proofs.ReadingLemmas.{pieces_read}
use Rattle.ut_regex.proofs.RunLemmas.{had-has}
use Rattle.ut_regex.proofs.TextLemmas.{some-same, some≢none}

-- a set of any bytes
bit : Bool → ℕ
bit true = 1
bit false = 0

word_of : ℕ → (ℕ → Bool) → ℕ → ℕ
word_of zero has from = 0
word_of (suc count) has from = bit (has from) + 2 * word_of count has (from + 1)

lowest-bit : (has : Bool) (word : ℕ) → ((bit has + 2 * word) % 2 == 1) ≡ has
unfolding bit
lowest-bit true word = let odd : (1 + 2 * word) % 2 ≡ 1 = omega arith in ap (λ n. n == 1) odd
lowest-bit false word = let even : (0 + 2 * word) % 2 ≡ 0 = omega arith in ap (λ n. n == 1) even

higher-bits : (has : Bool) (word : ℕ) → (bit has + 2 * word) / 2 ≡ word
unfolding bit
higher-bits true word = omega arith
higher-bits false word = omega arith

word-bit : (count : ℕ) (has : ℕ → Bool) (from place : ℕ) → place < count → (bit_at (word_of count has from) place == 1) ≡ has (from + place)
unfolding word_of
word-bit zero has from place low = absurd (omega (arith, low))
word-bit (suc count) has from zero low =
    ap (λ n. n == 1) (bit_at_lowest (bit (has from) + 2 * word_of count has (from + 1))) ∙ lowest-bit (has from) (word_of count has (from + 1))
    ∙ ap has (let same : from ≡ from + 0 = omega arith in same)
word-bit (suc count) has from (suc place) low =
    let less : place < count = omega (arith, low) in
    let there : from + 1 + place ≡ from + suc place = omega arith in
    ap (λ n. n == 1) (bit_at-suc (bit (has from) + 2 * word_of count has (from + 1)) place
    ∙ ap (λ word. bit_at word place) (higher-bits (has from) (word_of count has (from + 1)))) ∙ word-bit count has (from + 1) place less ∙ ap has there

set_of : (ℕ → Bool) → ByteSet
set_of has = record { words = word_of 64 has 0 ∷ word_of 64 has 64 ∷ word_of 64 has 128 ∷ word_of 64 has 192 ∷ [] }

set-has : (has : ℕ → Bool) (byte : ℕ) → byte < 256 → has_byte (set_of has) byte ≡ has byte
unfolding has_byte set_of
set-has has byte small =
    let low : byte % 64 < 64 = omega arith in
    by_word (byte / 64) refl (omega (arith, small))
  where
    by_word : (word : ℕ) → byte / 64 ≡ word → word < 4
        → (bit_at (slice_index (word_of 64 has 0 ∷ word_of 64 has 64 ∷ word_of 64 has 128 ∷ word_of 64 has 192 ∷ []) word) (byte % 64) == 1) ≡ has byte
    by_word zero is less =
        let there : 0 + byte % 64 ≡ byte = omega (arith, is) in word-bit 64 has 0 (byte % 64) (omega arith) ∙ ap has there
    by_word (suc zero) is less =
        let there : 64 + byte % 64 ≡ byte = omega (arith, is) in word-bit 64 has 64 (byte % 64) (omega arith) ∙ ap has there
    by_word (suc (suc zero)) is less =
        let there : 128 + byte % 64 ≡ byte = omega (arith, is) in word-bit 64 has 128 (byte % 64) (omega arith) ∙ ap has there
    by_word (suc (suc (suc zero))) is less =
        let there : 192 + byte % 64 ≡ byte = omega (arith, is) in word-bit 64 has 192 (byte % 64) (omega arith) ∙ ap has there
    by_word (suc (suc (suc (suc word)))) is less = absurd (omega (arith, less))

-- what is left is no longer than that
abbrev RestIn : ℕ → Option (List ℕ) → Type 0
RestIn most None = Unit {0}
RestIn most (Some rest) = length rest ≤ most

abbrev RangeIn : ℕ → Option (ℕ × List ℕ) → Type 0
RangeIn most None = Unit {0}
RangeIn most (Some end) = length end.1 ≤ most

abbrev ItemIn : ℕ → Option (Item × List ℕ) → Type 0
ItemIn most None = Unit {0}
ItemIn most (Some found) = length found.1 ≤ most

behind_close-in : (text : List ℕ) → RestIn (length text) (behind_close text)
behind_close-in [] = tt
behind_close-in (first ∷ rest) = by_close (first == 93)
  where
    by_close : (closes : Bool) → RestIn (length (first ∷ rest)) (if closes then Some rest else None)
    by_close true = omega arith
    by_close false = tt

range_end-in : (text : List ℕ) → RangeIn (length text) (range_end text)
range_end-in [] = tt
range_end-in (dash ∷ []) = tt
range_end-in (dash ∷ last ∷ rest) = by_dash (dash == 45 && not (last == 93))
  where
    by_dash : (ranges : Bool) → RangeIn (length (dash ∷ last ∷ rest)) (if ranges then Some (last, rest) else None)
    by_dash true = omega arith
    by_dash false = tt

ranged-in : (first : ℕ) (text : List ℕ) (end : Option (ℕ × List ℕ)) → RangeIn (length text) end → ItemIn (length text) (ranged first text end)
ranged-in first text None within = omega arith
ranged-in first text (Some (last, rest)) within = by_order (nat_le first last && not (last == 91 && is_special rest))
  where
    by_order : (is : Bool) → ItemIn (length text) (if is then Some (element.Range first last, rest) else None)
    by_order true = within
    by_order false = tt

class_closed-in : (most : ℕ) (name : Option Class) (rest : Option (List ℕ)) → RestIn most rest → ItemIn most (class_closed name rest)
class_closed-in most None rest within = tt
class_closed-in most (Some name) None within = tt
class_closed-in most (Some name) (Some rest) within = by_end (range_end rest)
  where
    by_end : (end : Option (ℕ × List ℕ)) → ItemIn most (class_alone name rest end)
    by_end None = within
    by_end (Some end) = tt

rest-more : (less more : ℕ) (rest : Option (List ℕ)) → less ≤ more → RestIn less rest → RestIn more rest
rest-more less more None order within = tt
rest-more less more (Some rest) order within = omega (arith, order, within)

class_in-in : (text : List ℕ) (end : Option ℕ) → ItemIn (length text) (class_in text end)
class_in-in text None = tt
class_in-in text (Some size) =
    class_closed-in (length text) (class_named (take size text)) (behind_close (drop (size + 1) text))
    (rest-more (length (drop (size + 1) text)) (length text) (behind_close (drop (size + 1) text)) (omega (arith, length-drop (size + 1) text)) (behind_close-in (drop (size + 1) text)))

item-more : (less more : ℕ) (found : Option (Item × List ℕ)) → less ≤ more → ItemIn less found → ItemIn more found
item-more less more None order within = tt
item-more less more (Some found) order within = omega (arith, order, within)

class_at-in : (text : List ℕ) → ItemIn (length text) (class_at text)
class_at-in [] = tt
class_at-in (first ∷ text) = by_colon (first == 58)
  where
    by_colon : (is : Bool) → ItemIn (length (first ∷ text)) (if is then class_in text (position (λ byte. byte == 58) text) else None)
    by_colon true =
        item-more (length text) (length (first ∷ text)) (class_in text (position (λ byte. byte == 58) text)) (omega arith)
        (class_in-in text (position (λ byte. byte == 58) text))
    by_colon false = tt

item-in : (first : ℕ) (rest : List ℕ) → ItemIn (length rest) (item (first ∷ rest))
item-in first rest = by_class (first == 91 && is_special rest)
  where
    by_class : (is : Bool) → ItemIn (length rest) (if is then class_at rest else ranged first rest (range_end rest))
    by_class true = class_at-in rest
    by_class false = ranged-in first rest (range_end rest) (range_end-in rest)

-- items are listed up to a closing bracket, or they aren't
abbrev ItemsOrNot : List ℕ → Type 0
ItemsOrNot text = ((items : List Item) × (rest : List ℕ) × IsItems text items rest × (length rest ≤ length text)) ⊎ IsNoItems text

items_after : (text : List ℕ) (one : Item) (left : List ℕ) → begins_with 93 text ≡ false → item text ≡ Some (one, left) → length left ≤ length text
    → ItemsOrNot left → ItemsOrNot text
items_after text one left unclosed is shorter (inl (items, rest, follow, within)) =
    inl (one ∷ items, rest, next_item unclosed is follow, omega (arith, shorter, within))
items_after text one left unclosed is shorter (inr none) = inr (later_item unclosed is none)

items_found : (first : ℕ) (text : List ℕ) (found : Option (Item × List ℕ)) → begins_with 93 (first ∷ text) ≡ false → item (first ∷ text) ≡ found
    → ItemIn (length text) found → ((left : List ℕ) → length left ≤ length text → ItemsOrNot left) → ItemsOrNot (first ∷ text)
items_found first text None unclosed is within onward = inr (bad_item unclosed is)
items_found first text (Some (one, left)) unclosed is within onward =
    items_after (first ∷ text) one left unclosed is (omega (arith, within)) (onward left within)

items_at : (first : ℕ) (text : List ℕ) (closed : Bool) → (first == 93) ≡ closed → ((left : List ℕ) → length left ≤ length text → ItemsOrNot left)
    → ItemsOrNot (first ∷ text)
items_at first text true is onward =
    inl ([], text, no_item (ap (λ byte. byte ∷ text) (eqb-true first 93 is)), omega arith)
items_at first text false is onward = items_found first text (item (first ∷ text)) is refl (item-in first text) onward

items_of : (fuel : ℕ) (text : List ℕ) → length text ≤ fuel → ItemsOrNot text
items_of fuel [] within = inr (bad_item refl refl)
items_of zero (first ∷ text) within = absurd (omega (arith, within))
items_of (suc fuel) (first ∷ text) within =
    items_at first text (first == 93) refl (λ left shorter. items_of fuel left (omega (arith, shorter, within)))

-- something is listed, or nothing is
abbrev ListingOrNot : List ℕ → Type 0
ListingOrNot text =
    ((set : ByteSet) × (rest : List ℕ) × IsListing text (has_byte set) rest × (length rest ≤ length text)) ⊎ IsNoListing text

listing_after : (text : List ℕ) (first : Item) (left : List ℕ) → item text ≡ Some (first, left) → length left ≤ length text → ItemsOrNot left → ListingOrNot text
listing_after text first left is shorter (inl (items, rest, follow, within)) =
    inl (
      set_of (lists (first ∷ items)),
      rest,
      record { first = first; left = left; items = items; begins = is; follow = follow; bytes = set-has (lists (first ∷ items)) },
      omega (arith, shorter, within),
    )
listing_after text first left is shorter (inr none) = inr (inr (first, left, is, none))

listing_found : (byte : ℕ) (text : List ℕ) (found : Option (Item × List ℕ)) → item (byte ∷ text) ≡ found → ItemIn (length text) found → ListingOrNot (byte ∷ text)
listing_found byte text None is within = inr (inl is)
listing_found byte text (Some (first, left)) is within =
    listing_after (byte ∷ text) first left is (omega (arith, within)) (items_of (length left) left (omega arith))

listing_of : (text : List ℕ) → ListingOrNot text
listing_of [] = inr (inl refl)
listing_of (byte ∷ text) = listing_found byte text (item (byte ∷ text)) refl (item-in byte text)

-- a bracket expression, or none
abbrev BracketOrNot : List ℕ → Type 0
BracketOrNot text = ((leaf : Leaf) × (rest : List ℕ) × IsBracket text leaf rest × (length rest ≤ length text)) ⊎ IsNoBracket text

among : (text : List ℕ) → begins_with 94 text ≡ false → ListingOrNot text → BracketOrNot text
among text plain (inl (set, rest, listing, within)) = inl (Among set, rest, (plain, listing), within)
among text plain (inr none) = inr (inl (plain, none))

not_among : (text listed : List ℕ) → text ≡ 94 ∷ listed → length listed ≤ length text → ListingOrNot listed → BracketOrNot text
not_among text listed is shorter (inl (set, rest, listing, within)) = inl (NotAmong set, rest, (listed, is, listing), omega (arith, shorter, within))
not_among text listed is shorter (inr none) = inr (inr (listed, is, none))

bracket_at : (first : ℕ) (text : List ℕ) (negated : Bool) → (first == 94) ≡ negated → BracketOrNot (first ∷ text)
bracket_at first text true is =
    not_among (first ∷ text) text (ap (λ byte. byte ∷ text) (eqb-true first 94 is)) (omega arith) (listing_of text)
bracket_at first text false is = among (first ∷ text) is (listing_of (first ∷ text))

bracket_of : (text : List ℕ) → BracketOrNot text
bracket_of [] = among [] refl (listing_of [])
bracket_of (first ∷ text) = bracket_at first text (first == 94) refl

-- the bounds of an interval are in order, and what is left is no longer
abbrev BoundIn : ℕ → Bound → Type 0
BoundIn most (bound number rest) = length rest ≤ most
BoundIn most (no_bound fault) = Unit {0}

abbrev IntervalIn : ℕ → Interval → Type 0
IntervalIn most (bounds low high rest) = (length rest ≤ most) × ForSome high (λ greatest. low ≤ greatest)
IntervalIn most (no_bounds fault) = Unit {0}

behind_digits-in : (text : List ℕ) → length (behind_digits text) ≤ length text
behind_digits-in [] = omega arith
behind_digits-in (first ∷ rest) = by_digit (is_from 48 57 first) (behind_digits-in rest)
  where
    by_digit : (is : Bool) → length (behind_digits rest) ≤ length rest → length (if is then behind_digits rest else first ∷ rest) ≤ length (first ∷ rest)
    by_digit true within = omega (arith, within)
    by_digit false within = omega arith

bound_of-in : (text : List ℕ) → BoundIn (length text) (bound_of text)
bound_of-in text = by_digit (begins_digit text) (nat_le (number_from 0 text) 255)
  where
    by_digit : (is small : Bool)
        → BoundIn (length text) (if is then (if small then bound (number_from 0 text) (behind_digits text) else no_bound RepeatTooLarge) else no_bound NotARegex)
    by_digit true true = behind_digits-in text
    by_digit true false = tt
    by_digit false small = tt

behind_brace-in : (basic : Bool) (text : List ℕ) → RestIn (length text) (behind_brace basic text)
behind_brace-in true [] = tt
behind_brace-in false [] = tt
behind_brace-in false (first ∷ rest) = by_brace (first == 125)
  where
    by_brace : (is : Bool) → RestIn (length (first ∷ rest)) (if is then Some rest else None)
    by_brace true = omega arith
    by_brace false = tt
behind_brace-in true (first ∷ []) = tt
behind_brace-in true (first ∷ second ∷ rest) = by_brace (first == 92 && second == 125)
  where
    by_brace : (is : Bool) → RestIn (length (first ∷ second ∷ rest)) (if is then Some rest else None)
    by_brace true = omega arith
    by_brace false = tt

ordered : (low : ℕ) (high : Option ℕ) → is_ordered low high ≡ true → ForSome high (λ greatest. low ≤ greatest)
ordered low None is = λ greatest none. absurd (some≢none greatest (sym none))
ordered low (Some high) is = λ greatest same. subst (λ most. low ≤ most) (some-same high greatest same) (at_most (leb_tells low high))
  where
    at_most : ((nat_le low high ≡ true) × (low ≤ high)) ⊎ ((nat_le low high ≡ false) × (high < low)) → low ≤ high
    at_most (inl tells) = tells.1
    at_most (inr tells) = absurd (true≢false (sym is ∙ tells.0))

ended-in : (most low : ℕ) (high : Option ℕ) (rest : Option (List ℕ)) → RestIn most rest → IntervalIn most (ended low high rest)
ended-in most low high None within = tt
ended-in most low high (Some rest) within = by_order (is_ordered low high) refl
  where
    by_order : (is : Bool) → is_ordered low high ≡ is → IntervalIn most (if is then bounds low high rest else no_bounds NotARegex)
    by_order true is = (within, ordered low high is)
    by_order false is = tt

second_bound-in : (basic : Bool) (most low : ℕ) (second : Bound) → BoundIn most second → IntervalIn most (second_bound basic low second)
second_bound-in basic most low (no_bound fault) within = tt
second_bound-in basic most low (bound high rest) within =
    ended-in most low (Some high) (behind_brace basic rest) (rest-more (length rest) most (behind_brace basic rest) within (behind_brace-in basic rest))

bound-more : (less more : ℕ) (there : Bound) → less ≤ more → BoundIn less there → BoundIn more there
bound-more less more (bound number rest) order within = omega (arith, order, within)
bound-more less more (no_bound fault) order within = tt

behind_bound-in : (basic : Bool) (most low : ℕ) (text : List ℕ) → length text ≤ most → IntervalIn most (behind_bound basic low text)
behind_bound-in basic most low [] within = tt
behind_bound-in basic most low (first ∷ rest) within = by_comma (first == 44) (begins_digit rest)
  where
    by_comma : (comma digit : Bool)
        → IntervalIn most (if comma then (if digit then second_bound basic low (bound_of rest) else ended low None (behind_brace basic rest)) else ended low (Some low) (behind_brace basic (first ∷ rest)))
    by_comma true true =
        second_bound-in basic most low (bound_of rest) (bound-more (length rest) most (bound_of rest) (omega (arith, within)) (bound_of-in rest))
    by_comma true false =
        ended-in most low None (behind_brace basic rest) (rest-more (length rest) most (behind_brace basic rest) (omega (arith, within)) (behind_brace-in basic rest))
    by_comma false digit =
        ended-in most low (Some low) (behind_brace basic (first ∷ rest))
        (rest-more (length (first ∷ rest)) most (behind_brace basic (first ∷ rest)) within (behind_brace-in basic (first ∷ rest)))

first_bound-in : (basic : Bool) (most : ℕ) (first : Bound) → BoundIn most first → IntervalIn most (first_bound basic first)
first_bound-in basic most (no_bound fault) within = tt
first_bound-in basic most (bound low rest) within = behind_bound-in basic most low rest within

-- what stands next has no more behind it
abbrev NextIn : ℕ → Next → Type 0
NextIn most (itself byte rest) = length rest ≤ most
NextIn most (any rest) = length rest ≤ most
NextIn most (bracketed rest) = length rest ≤ most
NextIn most (line_begins rest) = length rest ≤ most
NextIn most (line_ends rest) = length rest ≤ most
NextIn most (opens rest) = length rest ≤ most
NextIn most (closes rest) = length rest ≤ most
NextIn most (bars rest) = length rest ≤ most
NextIn most (repeats low high rest) = (length rest ≤ most) × ForSome high (λ greatest. low ≤ greatest)
NextIn most (counted rest) = length rest ≤ most
NextIn most (refused fault) = Unit {0}

next_if : (most : ℕ) (may : Bool) (there other : Next) → NextIn most there → NextIn most other → NextIn most (cond may there other)
next_if most true there other is els = is
next_if most false there other is els = els

module _ (last : Before) (nested : Bool) where
  basic_escaped-in : (kind : Escaped) (byte most : ℕ) (rest : List ℕ) → length rest ≤ most → NextIn most (basic_escaped last nested kind byte rest)
  basic_escaped-in escaped.Open byte most rest within = within
  basic_escaped-in escaped.Close byte most rest within = next_if most nested (closes rest) (refused NotARegex) within tt
  basic_escaped-in escaped.Brace byte most rest within = next_if most (is_part last) (counted rest) (refused NotARegex) within tt
  basic_escaped-in escaped.Reference byte most rest within = tt
  basic_escaped-in escaped.Refused byte most rest within = tt
  basic_escaped-in escaped.Plain byte most rest within = within

  basic_escape-in : (text : List ℕ) → NextIn (length text) (basic_escape last nested text)
  basic_escape-in [] = tt
  basic_escape-in (byte ∷ rest) = basic_escaped-in (escaped_of byte) byte (length (byte ∷ rest)) rest (omega arith)

  dollar-in : (byte : ℕ) (rest : List ℕ) → NextIn (length rest) (dollar byte rest)
  dollar-in byte [] = omega arith
  dollar-in byte (second ∷ rest) = omega arith

  basic-in : (kind : Sign) (byte : ℕ) (rest : List ℕ) → NextIn (length rest) (basic_next last nested kind byte rest)
  basic-in sign.Dot byte rest = omega arith
  basic-in sign.Bracket byte rest = omega arith
  basic-in sign.Backslash byte rest = basic_escape-in rest
  basic-in sign.Star byte rest = next_if (length rest) (is_part last) (repeats 0 None rest) (itself byte rest) (omega arith, ordered 0 None refl) (omega arith)
  basic-in sign.Caret byte rest = next_if (length rest) (is_start last) (line_begins rest) (itself byte rest) (omega arith) (omega arith)
  basic-in sign.Dollar byte rest = dollar-in byte rest
  basic-in sign.Open byte rest = omega arith
  basic-in sign.Close byte rest = omega arith
  basic-in sign.Bar byte rest = omega arith
  basic-in sign.Plus byte rest = omega arith
  basic-in sign.Question byte rest = omega arith
  basic-in sign.Brace byte rest = omega arith
  basic-in sign.Other byte rest = omega arith

  extended_escaped-in : (kind : Escaped) (byte most : ℕ) (rest : List ℕ) → length rest ≤ most → NextIn most (extended_escaped kind byte rest)
  extended_escaped-in escaped.Open byte most rest within = within
  extended_escaped-in escaped.Close byte most rest within = within
  extended_escaped-in escaped.Brace byte most rest within = within
  extended_escaped-in escaped.Reference byte most rest within = tt
  extended_escaped-in escaped.Refused byte most rest within = tt
  extended_escaped-in escaped.Plain byte most rest within = within

  extended_escape-in : (text : List ℕ) → NextIn (length text) (extended_escape text)
  extended_escape-in [] = tt
  extended_escape-in (byte ∷ rest) = extended_escaped-in (escaped_of byte) byte (length (byte ∷ rest)) rest (omega arith)

  extended-in : (kind : Sign) (byte : ℕ) (rest : List ℕ) → NextIn (length rest) (extended_next last nested kind byte rest)
  extended-in sign.Dot byte rest = omega arith
  extended-in sign.Bracket byte rest = omega arith
  extended-in sign.Backslash byte rest = extended_escape-in rest
  extended-in sign.Caret byte rest = omega arith
  extended-in sign.Dollar byte rest = omega arith
  extended-in sign.Open byte rest = omega arith
  extended-in sign.Close byte rest = next_if (length rest) (nested && is_side last) (closes rest) (refused NotARegex) (omega arith) tt
  extended-in sign.Bar byte rest = next_if (length rest) (is_side last) (bars rest) (refused NotARegex) (omega arith) tt
  extended-in sign.Star byte rest = next_if (length rest) (is_part last) (repeats 0 None rest) (refused NotARegex) (omega arith, ordered 0 None refl) tt
  extended-in sign.Plus byte rest = next_if (length rest) (is_part last) (repeats 1 None rest) (refused NotARegex) (omega arith, ordered 1 None refl) tt
  extended-in sign.Question byte rest =
      next_if (length rest) (is_part last) (repeats 0 (Some 1) rest) (refused NotARegex) (omega arith, ordered 0 (Some 1) refl) tt
  extended-in sign.Brace byte rest = next_if (length rest) (is_part last) (counted rest) (refused NotARegex) (omega arith) tt
  extended-in sign.Other byte rest = omega arith

  next-in : (basic : Bool) (byte : ℕ) (rest : List ℕ) → NextIn (length rest) (next basic last nested (byte ∷ rest))
  next-in true byte rest = basic-in (sign_of byte) byte rest
  next-in false byte rest = extended-in (sign_of byte) byte rest

-- a piece stands next, or a fault
abbrev PieceOrNot : Bool → ℕ → Next → Type 0
PieceOrNot basic most there =
    ((one : Piece) × (rest : List ℕ) × IsPiece basic there one rest × (length rest ≤ most)) ⊎ ((fault : ReFault) × IsNoPiece basic there fault)

bracket_piece : (basic : Bool) (most : ℕ) (text : List ℕ) (leaf : Leaf) (rest : List ℕ) → IsBracket text leaf rest → length rest ≤ most
    → PieceOrNot basic most (bracketed text)
bracket_piece basic most text (Byte byte) rest is within = absurd is
bracket_piece basic most text Any rest is within = absurd is
bracket_piece basic most text (Among set) rest is within = inl (piece.One (Among set), rest, (text, refl, is), within)
bracket_piece basic most text (NotAmong set) rest is within = inl (piece.One (NotAmong set), rest, (text, refl, is), within)

bracket_or_not : (basic : Bool) (most : ℕ) (text : List ℕ) → length text ≤ most → BracketOrNot text → PieceOrNot basic most (bracketed text)
bracket_or_not basic most text within (inl (leaf, rest, is, shorter)) = bracket_piece basic most text leaf rest is (omega (arith, shorter, within))
bracket_or_not basic most text within (inr none) = inr (NotARegex, inr (inl (text, refl, none, refl)))

limits : (low : ℕ) (high : Option ℕ) → ForSome high (λ greatest. low ≤ greatest) → Bounds
limits low high order = record { low = low; high = high; ordered = order }

interval_or_not : (basic : Bool) (most : ℕ) (text : List ℕ) (there : Interval) → interval basic text ≡ there → IntervalIn most there
    → PieceOrNot basic most (counted text)
unfolding limits
interval_or_not basic most text (bounds low high rest) is (within, order) =
    inl (piece.Repeat (limits low high order), rest, inr (text, refl, is), within)
interval_or_not basic most text (no_bounds fault) is within = inr (fault, inr (inr (text, refl, is)))

piece_or_not : (basic : Bool) (most : ℕ) (there : Next) → NextIn most there → PieceOrNot basic most there
unfolding limits
piece_or_not basic most (itself byte rest) within = inl (piece.One (Byte byte), rest, refl, within)
piece_or_not basic most (any rest) within = inl (piece.One Any, rest, refl, within)
piece_or_not basic most (bracketed text) within = bracket_or_not basic most text within (bracket_of text)
piece_or_not basic most (line_begins rest) within = inl (piece.Begin, rest, refl, within)
piece_or_not basic most (line_ends rest) within = inl (piece.End, rest, refl, within)
piece_or_not basic most (opens rest) within = inl (piece.Open, rest, refl, within)
piece_or_not basic most (closes rest) within = inl (piece.Close, rest, refl, within)
piece_or_not basic most (bars rest) within = inl (piece.Bar, rest, refl, within)
piece_or_not basic most (repeats low high rest) (within, order) = inl (piece.Repeat (limits low high order), rest, inl refl, within)
piece_or_not basic most (counted text) within =
    interval_or_not basic most text (interval basic text) refl (first_bound-in basic most (bound_of text) (bound-more (length text) most (bound_of text) within (bound_of-in text)))
piece_or_not basic most (refused fault) within = inr (fault, inl refl)

-- a text goes on as an expression, or with a fault
abbrev ReadOrNot : Bool → Before → ℕ → List ℕ → Type 0
ReadOrNot basic last depth text = ((pieces : List Piece) × IsExpression basic last depth text pieces) ⊎ ((fault : ReFault) × HasFault basic last depth text fault)

read_end : (basic : Bool) (last : Before) (depth : ℕ) (may : Bool) → may_end last depth ≡ may → ReadOrNot basic last depth []
read_end basic last depth true may = inl ([], ends may)
read_end basic last depth false may = inr (NotARegex, unfinished may)

read_behind : (basic : Bool) (last : Before) (depth : ℕ) (text rest : List ℕ) (one : Piece) → IsPiece basic (next basic last (nat_lt 0 depth) text) one rest
    → ReadOrNot basic (leaves one) (depth_behind depth one) rest → ReadOrNot basic last depth text
read_behind basic last depth text rest one is (inl (pieces, more)) = inl (one ∷ pieces, goes_on is more)
read_behind basic last depth text rest one is (inr (fault, more)) = inr (fault, later one is more)

read_piece : (basic : Bool) (last : Before) (depth byte : ℕ) (text : List ℕ)
    → ((last : Before) (depth : ℕ) (rest : List ℕ) → length rest ≤ length text → ReadOrNot basic last depth rest)
    → PieceOrNot basic (length text) (next basic last (nat_lt 0 depth) (byte ∷ text)) → ReadOrNot basic last depth (byte ∷ text)
read_piece basic last depth byte text onward (inl (one, rest, is, within)) =
    read_behind basic last depth (byte ∷ text) rest one is (onward (leaves one) (depth_behind depth one) rest within)
read_piece basic last depth byte text onward (inr (fault, is)) = inr (fault, here is)

read_from : (basic : Bool) (fuel : ℕ) (last : Before) (depth : ℕ) (text : List ℕ) → length text ≤ fuel → ReadOrNot basic last depth text
read_from basic fuel last depth [] within = read_end basic last depth (may_end last depth) refl
read_from basic zero last depth (byte ∷ text) within = absurd (omega (arith, within))
read_from basic (suc fuel) last depth (byte ∷ text) within =
    read_piece basic last depth byte text (λ last depth rest shorter. read_from basic fuel last depth rest (omega (arith, shorter, within)))
    (piece_or_not basic (length text) (next basic last (nat_lt 0 depth) (byte ∷ text)) (next-in last (nat_lt 0 depth) basic byte text))

reading_of : (basic : Bool) (text : List ℕ) → ReadOrNot basic before.Start 0 text → IsRead basic text ⊎ ((fault : ReFault) × Faults basic text fault)
reading_of basic text (inl (pieces, is)) = inl (pieces_read basic text pieces is)
reading_of basic text (inr faulty) = inr faulty

-- every text is an expression, or has a first fault
pub reading : (basic : Bool) (text : List ℕ) → IsRead basic text ⊎ ((fault : ReFault) × Faults basic text fault)
reading basic text = reading_of basic text (read_from basic (length text) before.Start 0 text (omega arith))

-- readings of one text are had by the same lines
pub readings-had : (basic : Bool) (text : List ℕ) (re other : Tree) → Reads basic text re → Reads basic text other → (fold whole : Bool) (line : List ℕ)
    → is_had fold whole re line ≡ is_had fold whole other line
readings-had basic text re other is is_other fold whole line =
    let had = had-has fold whole other line in
    same_answer (is_had fold whole re line) (is_had fold whole other line) (Has fold whole line re) (had-has fold whole re line) (
      λ h. has_same fold whole line other re (reads_once basic text other re is_other is) (had.0 h),
      λ h. had.1 (has_same fold whole line re other (reads_once basic text re other is is_other) h),
    )
