-- Pattern matching (XCU 2.13.1, 2.13.2). The code goes back to the last star; the definition tries every cut.
use Rattle.std.specs.Prelude.{◌≡◌, ℕ, ◌==◌, ◌&&◌, not, nat_le, Bool, true, false, List, [], ◌∷◌, ◌++◌}
use Rattle.std.specs.List.{list_any}
use Rattle.sh_pattern.specs.declared.elements.Item.{Item}
use Rattle.sh_pattern.specs.declared.elements.Item.TheVariants as item
use Rattle.sh_pattern.specs.declared.elements.Element.{Element}
use Rattle.sh_pattern.specs.declared.elements.Element.TheVariants as element
use Rattle.ps_lines.specs.Classes.{class_has}

-- the item holds the byte; a range whose ends are reversed holds none (own)
abbrev pub holds : Item → ℕ → Bool
holds (item.Byte listed) byte = listed == byte
holds (item.Range low high) byte = nat_le low byte && nat_le byte high
holds (item.Class class) byte = class_has class byte

-- the element fits this one byte; `*` isn't one of those that fit one byte each
abbrev pub takes : Element → ℕ → Bool
takes (element.Byte listed) byte = listed == byte
takes element.AnyByte byte = true
takes element.AnyString byte = false
takes (element.OneOf items) byte = list_any (λ item. holds item byte) items
takes (element.NoneOf items) byte = not (list_any (λ item. holds item byte) items)

-- a first byte that passes the test, and after it a text for which the fact holds
abbrev pub ByteThen : (ℕ → Bool) → (List ℕ → Type 0) → List ℕ → Type 0
ByteThen test More [] = ⊥
ByteThen test More (byte ∷ left) = (test byte ≡ true) × More left

-- the text ends with one for which the fact holds
abbrev pub EndsIn : (List ℕ → Type 0) → List ℕ → Type 0
EndsIn More text = (passed : List ℕ) × (left : List ℕ) × (text ≡ passed ++ left) × More left

-- the text fits the pattern
abbrev pub Fits : List Element → List ℕ → Type 0
Fits [] text = text ≡ []
Fits (element.AnyString ∷ rest) text = EndsIn (Fits rest) text
Fits (element.AnyByte ∷ rest) text = ByteThen (takes element.AnyByte) (Fits rest) text
Fits (element.Byte byte ∷ rest) text = ByteThen (takes (element.Byte byte)) (Fits rest) text
Fits (element.OneOf items ∷ rest) text = ByteThen (takes (element.OneOf items)) (Fits rest) text
Fits (element.NoneOf items ∷ rest) text = ByteThen (takes (element.NoneOf items)) (Fits rest) text
