-- Every marked text reads as a pattern, and whether a text fits a pattern is decided.
use Rattle.std.proofs.Common.{◌≡◌, ℕ, zero, suc, ◌≤◌, ◌⊎◌, inl, inr, Bool, true, false, List, [], ◌∷◌, length, Option, Some, None, refl, sym, ap, subst, ◌∙◌, arith}
use Rattle.std.proofs.lemmas.Bool.{cases_lt, true≢false}
use Rattle.std.proofs.lemmas.List.{length-append}
use Rattle.sh_pattern.specs.declared.marks.Mark.{Mark}
use Rattle.sh_pattern.specs.declared.elements.Item.{Item}
use Rattle.sh_pattern.specs.declared.elements.Element.{Element}
use Rattle.sh_pattern.specs.declared.elements.Element.TheVariants as element
use Rattle.sh_pattern.specs.Marks.{is_unquoted, past}
use Rattle.sh_pattern.specs.Brackets.{first_item, next_item, IsItems, no_item, one_more, IsList, a_list, HasNoList}
use Rattle.sh_pattern.specs.Closings.{EndsWith, IsUnclosed}
use Rattle.sh_pattern.specs.Fits.{takes, EndsIn, Fits}
use Rattle.sh_pattern.specs.Reading.{IsSet, matching, non_matching, IsNoSet, IsElement, any_string, any_byte, bracket, open_bracket, Reads, nothing, element_first}
use Rattle.sh_pattern.proofs.ClosingLemmas.{next_item_end, no_first, no_list_before, same_end, set_end, unclosed_before, unclosed_here}
use Rattle.sh_pattern.proofs.FitLemmas.{ending_later, ending_more}
use Rattle.sh_pattern.proofs.ReadingLemmas.{no_item_at_end, no_matching, no_non_matching, ordinary_byte, parts}

-- what ends a text is no longer than it
ends_within : {text end : List Mark} → EndsWith text end → length end ≤ length text
ends_within {end = end} (before, is) = let all = ap length is ∙ length-append before end in omega (arith, all)

-- a list in which an item takes nothing would have no end
takes_nothing : {text here after : List Mark} {item : Item} {items : List Item} → here ≡ text → next_item text ≡ Some (item, text) → IsItems here items after → ⊥
takes_nothing {text} {here} same round (no_item {rest = rest} close) =
    let none = no_item_at_end here rest close in absurd (let both = sym none ∙ ap next_item same ∙ round in cc)
takes_nothing {text} same round (one_more {rest = rest} first more) =
    let next : rest ≡ text = (parts (sym first ∙ ap next_item same ∙ round)).1 in takes_nothing next round more

-- a list that stands open before this text is closed in it, or isn't
abbrev ClosedOrNot : List Mark → Type 0
ClosedOrNot text = ((items : List Item) × (after : List Mark) × IsItems text items after) ⊎ IsUnclosed text

items_decided : (fuel : ℕ) (text : List Mark) → length text ≤ fuel → ClosedOrNot text
items_decided zero [] enough = inr (unclosed_here refl refl)
items_decided zero (first ∷ rest) enough = absurd (omega (arith, enough))
items_decided (suc fuel) text enough = by_next (next_item text) refl (items_decided fuel)
  where
    by_close : next_item text ≡ None → (found : Option (List Mark)) → past 93 text ≡ found → ClosedOrNot text
    by_close none (Some rest) close = inl ([], rest, no_item close)
    by_close none None open_still = inr (unclosed_here none open_still)

    by_rest : {item : Item} {rest : List Mark} → next_item text ≡ Some (item, rest) → ClosedOrNot rest → ClosedOrNot text
    by_rest {item} next (inl (items, after, more)) = inl (item ∷ items, after, one_more next more)
    by_rest next (inr none) = inr (unclosed_before next none)

    by_next : (found : Option (Item × List Mark)) → next_item text ≡ found → ((rest : List Mark) → length rest ≤ fuel → ClosedOrNot rest) → ClosedOrNot text
    by_next None none go_on = by_close none (past 93 text) refl
    by_next (Some (item, rest)) next go_on =
        let ends = next_item_end text next in
        let within = ends_within ends in
        elim (cases_lt (length rest) (length text)) [
          | inl shorter ↦ by_rest next (go_on rest (omega (arith, shorter, enough)))
          | inr all ↦
              let same : text ≡ rest = same_end ([], refl) ends (omega (arith, within, all)) in
              inr (λ items after more. takes_nothing refl (next ∙ ap (λ (it : List Mark). Some (item, it)) (sym same)) more)
        ]

list_decided : (text : List Mark) → ((items : List Item) × (after : List Mark) × IsList text items after) ⊎ HasNoList text
list_decided text = by_first (first_item text) refl
  where
    by_rest : {item : Item} {rest : List Mark} → first_item text ≡ Some (item, rest) → ClosedOrNot rest → ((items : List Item) × (after : List Mark) × IsList text items after) ⊎ HasNoList text
    by_rest {item} first (inl (items, after, more)) = inl (item ∷ items, after, a_list first more)
    by_rest first (inr none) = inr (no_list_before first none)

    by_first : (found : Option (Item × List Mark)) → first_item text ≡ found → ((items : List Item) × (after : List Mark) × IsList text items after) ⊎ HasNoList text
    by_first None none = inr (no_first none)
    by_first (Some (item, rest)) first = by_rest first (items_decided (length rest) rest (omega arith))

set_decided : (text : List Mark) → ((set : Element) × (after : List Mark) × IsSet text set after) ⊎ IsNoSet text
set_decided text = by_first (past 33 text) refl
  where
    by_first : (found : Option (List Mark)) → past 33 text ≡ found → ((set : Element) × (after : List Mark) × IsSet text set after) ⊎ IsNoSet text
    by_first None first =
        elim (list_decided text) [
          | inl (items, after, list) ↦ inl (element.OneOf items, after, matching first list)
          | inr none ↦ inr (no_matching first none)
        ]
    by_first (Some rest) first =
        elim (list_decided rest) [
          | inl (items, after, list) ↦ inl (element.NoneOf items, after, non_matching first list)
          | inr none ↦ inr (no_non_matching first none)
        ]

-- a text begins with an element
element_there : (mark : Mark) (rest : List Mark) → (first : Element) × (after : List Mark) × IsElement (mark ∷ rest) first after × (length after ≤ length rest)
element_there mark rest = by_star (is_unquoted 42 mark) refl
  where
    by_bracket : is_unquoted 42 mark ≡ false → is_unquoted 63 mark ≡ false → (test : Bool) → is_unquoted 91 mark ≡ test
        → (first : Element) × (after : List Mark) × IsElement (mark ∷ rest) first after × (length after ≤ length rest)
    by_bracket star point true is =
        elim (set_decided rest) [
          | inl (set, after, there) ↦ (set, after, bracket is there, ends_within (set_end there))
          | inr none ↦ (element.Byte mark.byte, rest, open_bracket is none, omega arith)
        ]
    by_bracket star point false is = (element.Byte mark.byte, rest, ordinary_byte star point is, omega arith)

    by_point : is_unquoted 42 mark ≡ false → (test : Bool) → is_unquoted 63 mark ≡ test
        → (first : Element) × (after : List Mark) × IsElement (mark ∷ rest) first after × (length after ≤ length rest)
    by_point star true is = (element.AnyByte, rest, any_byte is, omega arith)
    by_point star false is = by_bracket star is (is_unquoted 91 mark) refl

    by_star : (test : Bool) → is_unquoted 42 mark ≡ test → (first : Element) × (after : List Mark) × IsElement (mark ∷ rest) first after × (length after ≤ length rest)
    by_star true is = (element.AnyString, rest, any_string is, omega arith)
    by_star false is = by_point is (is_unquoted 63 mark) refl

reading_there : (fuel : ℕ) (text : List Mark) → length text ≤ fuel → (pattern : List Element) × Reads text pattern
reading_there fuel [] enough = ([], nothing)
reading_there zero (mark ∷ rest) enough = absurd (omega (arith, enough))
reading_there (suc fuel) (mark ∷ rest) enough =
    let (first, after, there, within) = element_there mark rest in
    let (others, reads) = reading_there fuel after (omega (arith, within, enough)) in
    (first ∷ others, element_first there reads)

pub some_reading : (text : List Mark) → (pattern : List Element) × Reads text pattern
some_reading text = reading_there (length text) text (omega arith)

-- whether a text fits

abbrev pub Decided : Type 0 → Type 0
Decided P = P ⊎ (P → ⊥)

ending_decided : (pattern : List Element) → ((text : List ℕ) → Decided (Fits pattern text)) → (text : List ℕ) → Decided (EndsIn (Fits pattern) text)
ending_decided pattern decide text = by_here text (decide text)
  where
    none_of_nothing : (Fits pattern [] → ⊥) → EndsIn (Fits pattern) [] → ⊥
    none_of_nothing not_here ([], left, is, fits) = not_here (subst (Fits pattern) (sym is) fits)
    none_of_nothing not_here (first ∷ passed, left, is, fits) = absurd (cc)

    by_here : (text : List ℕ) → Decided (Fits pattern text) → Decided (EndsIn (Fits pattern) text)
    by_here text (inl fits) = inl ([], text, refl, fits)
    by_here [] (inr not_here) = inr (none_of_nothing not_here)
    by_here (byte ∷ rest) (inr not_here) =
        elim (by_here rest (decide rest)) [
          | inl ends ↦ inl (ending_more pattern refl ends)
          | inr none ↦ inr (λ ends. none (ending_later pattern refl not_here ends))
        ]

byte_decided : (test : Bool) {More : Type 0} → Decided More → Decided ((test ≡ true) × More)
byte_decided true (inl more) = inl (refl, more)
byte_decided true (inr none) = inr (λ both. none both.1)
byte_decided false more = inr (λ both. true≢false (sym both.0))

pub fits_decided : (pattern : List Element) (text : List ℕ) → Decided (Fits pattern text)
fits_decided [] [] = inl refl
fits_decided [] (byte ∷ text) = inr (λ is. cc)
fits_decided (element.AnyString ∷ pattern) text = ending_decided pattern (fits_decided pattern) text
fits_decided (element.AnyByte ∷ pattern) [] = inr (λ never. never)
fits_decided (element.AnyByte ∷ pattern) (byte ∷ text) = byte_decided (takes element.AnyByte byte) (fits_decided pattern text)
fits_decided (element.Byte listed ∷ pattern) [] = inr (λ never. never)
fits_decided (element.Byte listed ∷ pattern) (byte ∷ text) = byte_decided (takes (element.Byte listed) byte) (fits_decided pattern text)
fits_decided (element.OneOf items ∷ pattern) [] = inr (λ never. never)
fits_decided (element.OneOf items ∷ pattern) (byte ∷ text) = byte_decided (takes (element.OneOf items) byte) (fits_decided pattern text)
fits_decided (element.NoneOf items ∷ pattern) [] = inr (λ never. never)
fits_decided (element.NoneOf items ∷ pattern) (byte ∷ text) = byte_decided (takes (element.NoneOf items) byte) (fits_decided pattern text)
