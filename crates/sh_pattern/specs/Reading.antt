-- How a marked text reads as a pattern (XCU 2.13.1, 2.13.2). A quoted byte is ordinary. So is a `[` that begins no
-- bracket expression (own where a `[.` or a `[=` stands in it).
use Rattle.std.specs.Prelude.{◌≡◌, ◌||◌, Bool, true, false, List, [], ◌∷◌, Some, None}
use Rattle.sh_pattern.specs.declared.marks.Mark.{Mark}
use Rattle.sh_pattern.specs.declared.elements.Item.{Item}
use Rattle.sh_pattern.specs.declared.elements.Element.{Element}
use Rattle.sh_pattern.specs.declared.elements.Element.TheVariants as element
use Rattle.sh_pattern.specs.Marks.{is_unquoted, past}
use Rattle.sh_pattern.specs.Brackets.{IsList}

-- the text after a `[` is that of a bracket expression, and this follows it; the list after `!` is a non-matching one
pub data IsSet : List Mark → Element → List Mark → Type 0 where
  matching : {text after : List Mark} {items : List Item} → past 33 text ≡ None → IsList text items after → IsSet text (element.OneOf items) after
  non_matching : {text rest after : List Mark} {items : List Item} → past 33 text ≡ Some rest → IsList rest items after → IsSet text (element.NoneOf items) after

-- no bracket expression begins after the `[`
abbrev pub IsNoSet : List Mark → Type 0
IsNoSet text = (set : Element) (after : List Mark) → IsSet text set after → ⊥

-- one of the three special bytes, unquoted
abbrev pub is_special : Mark → Bool
is_special mark = is_unquoted 42 mark || (is_unquoted 63 mark || is_unquoted 91 mark)

-- the text begins with this element, and this follows it
pub data IsElement : List Mark → Element → List Mark → Type 0 where
  ordinary : {mark : Mark} {rest : List Mark} → is_special mark ≡ false → IsElement (mark ∷ rest) (element.Byte mark.byte) rest
  any_string : {mark : Mark} {rest : List Mark} → is_unquoted 42 mark ≡ true → IsElement (mark ∷ rest) element.AnyString rest
  any_byte : {mark : Mark} {rest : List Mark} → is_unquoted 63 mark ≡ true → IsElement (mark ∷ rest) element.AnyByte rest
  bracket : {mark : Mark} {rest after : List Mark} {set : Element} → is_unquoted 91 mark ≡ true → IsSet rest set after → IsElement (mark ∷ rest) set after
  open_bracket : {mark : Mark} {rest : List Mark} → is_unquoted 91 mark ≡ true → IsNoSet rest → IsElement (mark ∷ rest) (element.Byte mark.byte) rest

-- the text reads as this pattern
pub data Reads : List Mark → List Element → Type 0 where
  nothing : Reads [] []
  element_first : {text rest : List Mark} {element : Element} {elements : List Element} → IsElement text element rest → Reads rest elements → Reads text (element ∷ elements)
