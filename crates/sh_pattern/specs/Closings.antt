-- Which ends of a text close a list that stands open before them. The reader keeps this in a table by their lengths, so
-- that lists which aren't closed are walked once, and not again from each `[`.
use Rattle.std.specs.Prelude.{◌≡◌, Bool, false, List, ◌++◌, Some, length}
use Rattle.std.specs.List.{slice_get}
use Rattle.sh_pattern.specs.declared.marks.Mark.{Mark}
use Rattle.sh_pattern.specs.declared.elements.Item.{Item}
use Rattle.sh_pattern.specs.Brackets.{IsItems}

-- the text ends with this one
abbrev pub EndsWith : List Mark → List Mark → Type 0
EndsWith text end = (before : List Mark) × (text ≡ before ++ end)

-- a list that stands open before this text isn't closed in it
abbrev pub IsUnclosed : List Mark → Type 0
IsUnclosed text = (items : List Item) (after : List Mark) → IsItems text items after → ⊥

-- where the table has `false` at the length of one of the text's ends, no list is closed from there; no other value says anything
pub record Knows (closes : List Bool) (text : List Mark) : Type 0 where
  pub unclosed : (end : List Mark) → EndsWith text end → slice_get closes (length end) ≡ Some false → IsUnclosed end
