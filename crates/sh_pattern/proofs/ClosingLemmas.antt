-- What is read is followed by an end of the text, and what the table knows of a text holds of its ends.
use Rattle.std.proofs.Common.{◌≡◌, ℕ, ◌+◌, ◌-◌, ◌⊎◌, suc, zero, inl, inr, Bool, true, false, List, [], ◌∷◌, ◌++◌, length, take, drop, Some, None, Option, refl, sym, ap, ◌∙◌, subst, arith, if◌then◌else◌, not, ◌&&◌}
use Rattle.std.specs.List.{slice_get}
use Rattle.std.proofs.Math.Seq.{drop-append_seam}
use Rattle.std.proofs.lemmas.List.{append_assoc, length-append, take-append-drop, take_rest}
use Rattle.sh_pattern.specs.declared.marks.Mark.{Mark}
use Rattle.ps_lines.specs.declared.class.Class.{Class}
use Rattle.sh_pattern.specs.declared.elements.Item.{Item}
use Rattle.sh_pattern.specs.declared.elements.Item.TheVariants as item
use Rattle.sh_pattern.specs.declared.elements.Element.{Element}
use Rattle.sh_pattern.specs.Marks.{is_unquoted, past, past_spelling}
use Rattle.ps_lines.specs.Classes.{all_classes}
use Rattle.sh_pattern.specs.Classes.{spelling, found, class_among, class_at}
use Rattle.sh_pattern.specs.Brackets.{is_close, begins_symbol, range_end, ranged, byte_or_range, classed, first_item, next_item, IsItems, no_item, one_more, IsList, a_list, HasNoList}
use Rattle.sh_pattern.specs.Reading.{IsSet, matching, non_matching}
use Rattle.sh_pattern.specs.Closings.{EndsWith, IsUnclosed, Knows}
use Rattle.sh_pattern.proofs.ReadingLemmas.{parts, no_list, rest_of_items, rest_of_list}

-- the ends of a text
ends_itself : {text end : List Mark} → text ≡ end → EndsWith text end
ends_itself same = ([], same)

ends_after : {text end : List Mark} (first : Mark) → EndsWith text end → EndsWith (first ∷ text) end
ends_after first at = (first ∷ at.0, ap (λ (t : List Mark). first ∷ t) at.1)

ends_further : {text middle end : List Mark} → EndsWith text middle → EndsWith middle end → EndsWith text end
ends_further {end = end} at further = (at.0 ++ further.0, at.1 ∙ ap (λ (t : List Mark). at.0 ++ t) further.1 ∙ sym (append_assoc at.0 further.0 end))

pub ends_from : (text : List Mark) (place : ℕ) → EndsWith text (take (length text - place) (drop place text))
ends_from text place = (take place text, sym (take-append-drop place text) ∙ ap (λ (t : List Mark). take place text ++ t) (sym (take_rest text place)))

pub same_end : {text one other : List Mark} → EndsWith text one → EndsWith text other → length one ≡ length other → one ≡ other
same_end {text} {one} {other} at there sizes =
    let first : length text ≡ length at.0 + length one = ap length at.1 ∙ length-append at.0 one in
    let second : length text ≡ length there.0 + length other = ap length there.1 ∙ length-append there.0 other in
    let cuts : length at.0 ≡ length there.0 = omega (arith, first, second, sizes) in
    sym (drop-append_seam at.0 one) ∙ ap (drop (length at.0)) (sym at.1 ∙ there.1) ∙ ap (λ n. drop n (there.0 ++ other)) cuts ∙ drop-append_seam there.0 other

-- what follows a byte, a spelling, a class, a range, an item, and a list
after_test : (test : Bool) (first : Mark) {text rest : List Mark} (further : Option (List Mark)) → (further ≡ Some rest → EndsWith text rest) → (if test then further else None) ≡ Some rest → EndsWith (first ∷ text) rest
after_test true first further back is = ends_after first (back is)
after_test false first further back is = absurd cc

same_rest : {one other : List Mark} → ◌≡◌ {A = Option (List Mark)} (Some one) (Some other) → one ≡ other
same_rest is = cc

past_end : (byte : ℕ) (text : List Mark) {rest : List Mark} → past byte text ≡ Some rest → EndsWith text rest
past_end byte [] is = absurd cc
past_end byte (first ∷ text) is = after_test (is_unquoted byte first) first (Some text) (λ same. ends_itself (same_rest same)) is

spelling_end : (bytes : List ℕ) (text : List Mark) {rest : List Mark} → past_spelling bytes text ≡ Some rest → EndsWith text rest
spelling_end [] text is = ends_itself (same_rest is)
spelling_end (byte ∷ bytes) [] is = absurd cc
spelling_end (byte ∷ bytes) (first ∷ text) is = after_test (is_unquoted byte first) first (past_spelling bytes text) (λ further. spelling_end bytes text further) is

found_end : {text rest : List Mark} {there : Class} (class : Class) (spelled : Option (List Mark)) (others : Option (Class × List Mark))
    → ((left : List Mark) → spelled ≡ Some left → EndsWith text left) → (others ≡ Some (there, rest) → EndsWith text rest)
    → found class spelled others ≡ Some (there, rest) → EndsWith text rest
found_end {text} class (Some left) others first later is = subst (EndsWith text) (parts is).1 (first left refl)
found_end class None others first later is = later is

among_end : (classes : List Class) (text : List Mark) {there : Class} {rest : List Mark} → class_among classes text ≡ Some (there, rest) → EndsWith text rest
among_end [] text is = absurd cc
among_end (class ∷ others) text is = found_end class (past_spelling (spelling class) text) (class_among others text) (λ left spelled. spelling_end (spelling class) text spelled) (λ later. among_end others text later) is

class_end : (text : List Mark) {there : Class} {rest : List Mark} → class_at text ≡ Some (there, rest) → EndsWith text rest
unfolding class_at
class_end text is = among_end all_classes text is

after_range : (test : Bool) (dash last : Mark) (text : List Mark) {there : Mark} {rest : List Mark} → if◌then◌else◌ {A = Option (Mark × List Mark)} test (Some (last, text)) None ≡ Some (there, rest) → EndsWith (dash ∷ last ∷ text) rest
after_range true dash last text is = ends_after dash (ends_after last (ends_itself (parts is).1))
after_range false dash last text is = absurd cc

range_end_end : (text : List Mark) {last : Mark} {rest : List Mark} → range_end text ≡ Some (last, rest) → EndsWith text rest
range_end_end [] is = absurd cc
range_end_end (dash ∷ []) is = absurd cc
range_end_end (dash ∷ last ∷ text) is = after_range (is_unquoted 45 dash && not (is_close last)) dash last text is

without_symbol : (symbol : Bool) (item : Item) {there : Item} {text left rest : List Mark} → EndsWith text left → if◌then◌else◌ {A = Option (Item × List Mark)} symbol None (Some (item, left)) ≡ Some (there, rest) → EndsWith text rest
without_symbol true item at is = absurd cc
without_symbol false item {text = text} at is = subst (EndsWith text) (parts is).1 at

ranged_end : (first : Mark) (text : List Mark) (end : Option (Mark × List Mark)) {there : Item} {rest : List Mark}
    → ((last : Mark) (left : List Mark) → end ≡ Some (last, left) → EndsWith text left) → ranged first text end ≡ Some (there, rest) → EndsWith text rest
ranged_end first text None at is = ends_itself (parts is).1
ranged_end first text (Some (last, left)) at is = without_symbol (begins_symbol last left) (item.Range first.byte last.byte) (at last left refl) is

byte_end : (symbol : Bool) (first : Mark) (text : List Mark) {there : Item} {rest : List Mark} → (if symbol then None else byte_or_range first text) ≡ Some (there, rest) → EndsWith text rest
byte_end true first text is = absurd cc
byte_end false first text is = ranged_end first text (range_end text) (λ last left at. range_end_end text at) is

classed_end : (first : Mark) (text : List Mark) (class : Option (Class × List Mark)) {there : Item} {rest : List Mark}
    → ((one : Class) (left : List Mark) → class ≡ Some (one, left) → EndsWith (first ∷ text) left) → classed first text class ≡ Some (there, rest) → EndsWith (first ∷ text) rest
classed_end first text (Some (one, left)) at is = subst (EndsWith (first ∷ text)) (parts is).1 (at one left refl)
classed_end first text None at is = ends_after first (byte_end (begins_symbol first text) first text is)

pub first_item_end : (text : List Mark) {item : Item} {rest : List Mark} → first_item text ≡ Some (item, rest) → EndsWith text rest
first_item_end [] is = absurd cc
first_item_end (first ∷ text) is = classed_end first text (class_at (first ∷ text)) (λ one left at. class_end (first ∷ text) at) is

unless_closed : (close : Bool) (text : List Mark) {item : Item} {rest : List Mark} → (if close then None else first_item text) ≡ Some (item, rest) → EndsWith text rest
unless_closed true text is = absurd cc
unless_closed false text is = first_item_end text is

pub next_item_end : (text : List Mark) {item : Item} {rest : List Mark} → next_item text ≡ Some (item, rest) → EndsWith text rest
next_item_end [] is = absurd cc
next_item_end (first ∷ text) is = unless_closed (is_close first) (first ∷ text) is

items_end : {text after : List Mark} {items : List Item} → IsItems text items after → EndsWith text after
items_end {text} (no_item close) = past_end 93 text close
items_end {text} (one_more next more) = ends_further (next_item_end text next) (items_end more)

list_end : {text after : List Mark} {items : List Item} → IsList text items after → EndsWith text after
list_end {text} (a_list first more) = ends_further (first_item_end text first) (items_end more)

pub set_end : {text after : List Mark} {set : Element} → IsSet text set after → EndsWith text after
set_end (matching none list) = list_end list
set_end {text} (non_matching some list) = ends_further (past_end 33 text some) (list_end list)

-- what is known of a text is known of its ends
pub knows_end : {closes : List Bool} {text end : List Mark} → Knows closes text → EndsWith text end → Knows closes end
knows_end knows at = record { unclosed = λ end further is. knows.unclosed end (ends_further at further) is }

pub knows_rest : {closes : List Bool} {text left : List Mark} {first : Mark} → text ≡ first ∷ left → Knows closes text → Knows closes left
knows_rest {first = first} cut knows = knows_end knows (first ∷ [], cut)

pub knows_past : {closes : List Bool} {text rest : List Mark} → past 33 text ≡ Some rest → Knows closes text → Knows closes rest
knows_past {text = text} is knows = knows_end knows (past_end 33 text is)

pub knows_after_first : {closes : List Bool} {text rest : List Mark} {item : Item} → first_item text ≡ Some (item, rest) → Knows closes text → Knows closes rest
knows_after_first {text = text} is knows = knows_end knows (first_item_end text is)

pub knows_after_next : {closes : List Bool} {text rest : List Mark} {item : Item} → next_item text ≡ Some (item, rest) → Knows closes text → Knows closes rest
knows_after_next {text = text} is knows = knows_end knows (next_item_end text is)

pub knows_after_set : {closes : List Bool} {text after : List Mark} {set : Element} → IsSet text set after → Knows closes text → Knows closes after
knows_after_set is knows = knows_end knows (set_end is)

pub knows_itself : {closes : List Bool} {text : List Mark} → slice_get closes (length text) ≡ Some false → Knows closes text → IsUnclosed text
knows_itself {text = text} is knows = knows.unclosed text ([], refl) is

-- where no list is closed
pub unclosed_here : {text : List Mark} → next_item text ≡ None → past 93 text ≡ None → IsUnclosed text
unclosed_here next close items after more = no_list next close items after more

pub unclosed_before : {text rest : List Mark} {item : Item} → next_item text ≡ Some (item, rest) → IsUnclosed rest → IsUnclosed text
unclosed_before next none items after more = let left = rest_of_items next more in none left.0 after left.1

pub no_first : {text : List Mark} → first_item text ≡ None → HasNoList text
no_first none items after (a_list first more) = absurd cc

pub no_list_before : {text rest : List Mark} {item : Item} → first_item text ≡ Some (item, rest) → IsUnclosed rest → HasNoList text
no_list_before first none items after list = let left = rest_of_list first list in none left.0 after left.1

-- one more answer in the table
more_known : (closes : List Bool) (closed is : Bool) (size : ℕ) → slice_get (closes ++ closed ∷ []) size ≡ Some is → (slice_get closes size ≡ Some is) ⊎ ((size ≡ length closes) × (closed ≡ is))
more_known [] closed is zero at = inr (refl, cc)
more_known [] closed is (suc size) at = absurd cc
more_known (first ∷ others) closed is zero at = inl at
more_known (first ∷ others) closed is (suc size) at = elim (more_known others closed is size at) [ inl there ↦ inl there | inr here ↦ inr (let same = here.0 in omega (arith, same), here.1) ]

pub knows_more : {old new : List Bool} {text end : List Mark} {closed : Bool} → Knows old text → EndsWith text end → length end ≡ length old → new ≡ old ++ closed ∷ [] → (closed ≡ false → IsUnclosed end) → Knows new text
knows_more {old} {new} {text} {end} {closed} knows at size grown unclosed = record {
  unclosed = λ other there is.
      elim (more_known old closed false (length other) (subst (λ (table : List Bool). slice_get table (length other) ≡ Some false) grown is)) [
        | inl before ↦ knows.unclosed other there before
        | inr here ↦ subst IsUnclosed (same_end at there (size ∙ sym here.0)) (unclosed here.1)
      ];
}

pub ruleset lists = (no_first, no_list_before, knows_after_first)

pub ruleset growing = (knows_end, knows_more)

pub ruleset closed = (unclosed_here, unclosed_before, knows_after_next)
