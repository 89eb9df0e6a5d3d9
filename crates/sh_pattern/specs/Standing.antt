-- A walk over a text, byte by byte from one side, with the places at which the pattern may stand, by which its parts speak to one another.
use Rattle.std.specs.Prelude.{◌⊎◌, ℕ, ◌-◌, Bool, true, false, List, [], ◌∷◌, take, drop, reverse, Option, Some}
use Rattle.sh_pattern.specs.declared.elements.Element.{Element}
use Rattle.sh_pattern.specs.declared.elements.Element.TheVariants as element
use Rattle.sh_pattern.specs.declared.trims.Side.{Side}
use Rattle.sh_pattern.specs.declared.trims.Side.TheVariants as side
use Rattle.sh_pattern.specs.Fits.{Fits}
use Rattle.sh_pattern.specs.Trims.{IsFirst, IsLast}

-- the items, counted from the side
abbrev pub from_side : {Item : Type 0} → Side → List Item → List Item
from_side side.Prefix items = items
from_side side.Suffix items = reverse items

-- the pattern begins with a star
abbrev pub begins_with_star : List Element → Bool
begins_with_star [] = false
begins_with_star (element.AnyString ∷ rest) = true
begins_with_star (element.AnyByte ∷ rest) = false
begins_with_star (element.Byte byte ∷ rest) = false
begins_with_star (element.OneOf items ∷ rest) = false
begins_with_star (element.NoneOf items ∷ rest) = false

-- what is behind one of these places in the pattern fits the text
abbrev pub FitsFrom : List Element → List ℕ → List ℕ → Type 0
FitsFrom pattern [] text = ⊥
FitsFrom pattern (place ∷ places) text = Fits (drop place pattern) text ⊎ FitsFrom pattern places text

-- the first bytes fit, so many
abbrev pub FitsFirst : List Element → List ℕ → ℕ → Type 0
FitsFirst pattern text count = Fits pattern (take count text)

-- the fewest first bytes that fit, or the most
abbrev pub IsBestCount : Bool → (ℕ → Type 0) → ℕ → ℕ → Type 0
IsBestCount false = IsFirst
IsBestCount true = IsLast

-- the number that was found last
abbrev pub later : Bool → ℕ → Option ℕ → Option ℕ
later true count found = Some count
later false count found = found

-- the place behind so many bytes, counted from the side
abbrev pub place_of : Side → ℕ → ℕ → ℕ
place_of side.Prefix count bytes = count
place_of side.Suffix count bytes = bytes - count
