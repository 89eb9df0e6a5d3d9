-- Bracket expressions (XCU 2.13.1, XBD 9.3.5): what a `[` begins, read from the left. A range is a byte, `-` and a byte
-- other than `]`; a class is no end of one (own). A list in which `[.` or `[=` stands is none (own).
use Rattle.std.specs.Prelude.{◌≡◌, ◌&&◌, ◌||◌, not, Bool, false, List, [], ◌∷◌, Option, Some, None, if◌then◌else◌}
use Rattle.sh_pattern.specs.declared.marks.Mark.{Mark}
use Rattle.ps_lines.specs.declared.class.Class.{Class}
use Rattle.sh_pattern.specs.declared.elements.Item.{Item}
use Rattle.sh_pattern.specs.declared.elements.Item.TheVariants as item
use Rattle.sh_pattern.specs.Marks.{is_unquoted, past}
use Rattle.sh_pattern.specs.Classes.{class_at}

-- an unquoted `]`
abbrev pub is_close : Mark → Bool
is_close mark = is_unquoted 93 mark

-- `[.` or `[=` begins here: a collating symbol or an equivalence class
abbrev pub begins_symbol : Mark → List Mark → Bool
begins_symbol first [] = false
begins_symbol first (second ∷ rest) = is_unquoted 91 first && (is_unquoted 46 second || is_unquoted 61 second)

-- the last mark of a range and what follows it, in the text after the range's first mark
abbrev pub range_end : List Mark → Option (Mark × List Mark)
range_end [] = None
range_end (dash ∷ []) = None
range_end (dash ∷ last ∷ rest) = if is_unquoted 45 dash && not (is_close last) then Some (last, rest) else None

abbrev pub ranged : Mark → List Mark → Option (Mark × List Mark) → Option (Item × List Mark)
ranged first rest None = Some (item.Byte first.byte, rest)
ranged first rest (Some end) = if begins_symbol end.0 end.1 then None else Some (item.Range first.byte end.0.byte, end.1)

-- a range from this mark on where one goes on after it, else the byte alone
abbrev pub byte_or_range : Mark → List Mark → Option (Item × List Mark)
byte_or_range first rest = ranged first rest (range_end rest)

abbrev pub classed : Mark → List Mark → Option (Class × List Mark) → Option (Item × List Mark)
classed first rest (Some class) = Some (item.Class class.0, class.1)
classed first rest None = if begins_symbol first rest then None else byte_or_range first rest

-- the first item of a list, where `]` is ordinary, and what follows it
abbrev pub first_item : List Mark → Option (Item × List Mark)
first_item [] = None
first_item (first ∷ rest) = classed first rest (class_at (first ∷ rest))

-- a further item, and what follows it
abbrev pub next_item : List Mark → Option (Item × List Mark)
next_item [] = None
next_item (first ∷ rest) = if is_close first then None else first_item (first ∷ rest)

-- these are the items up to the `]` that ends the list, and this is what follows it
pub data IsItems : List Mark → List Item → List Mark → Type 0 where
  no_item : {text rest : List Mark} → past 93 text ≡ Some rest → IsItems text [] rest
  one_more : {text rest after : List Mark} {item : Item} {items : List Item} → next_item text ≡ Some (item, rest) → IsItems rest items after → IsItems text (item ∷ items) after

-- a list is a first item and further ones, and this follows its `]`
pub data IsList : List Mark → List Item → List Mark → Type 0 where
  a_list : {text rest after : List Mark} {item : Item} {items : List Item} → first_item text ≡ Some (item, rest) → IsItems rest items after → IsList text (item ∷ items) after

-- no list stands here
abbrev pub HasNoList : List Mark → Type 0
HasNoList text = (items : List Item) (after : List Mark) → IsList text items after → ⊥
