-- Beginnings and endings of a text that fit a pattern (XCU 2.6.2: `%`, `%%`, `#`, `##`).
use Rattle.std.specs.Prelude.{ℕ, ◌≤◌, Bool, true, false, List, take, drop, length}
use Rattle.sh_pattern.specs.declared.elements.Element.{Element}
use Rattle.sh_pattern.specs.Fits.{Fits}
use Rattle.sh_pattern.specs.declared.trims.Side.{Side}
use Rattle.sh_pattern.specs.declared.trims.Side.TheVariants as side

-- what is cut off at this place fits the pattern
abbrev pub FitsAt : Side → List Element → List ℕ → ℕ → Type 0
FitsAt side.Prefix pattern text place = Fits pattern (take place text)
FitsAt side.Suffix pattern text place = Fits pattern (drop place text)

-- what is left
abbrev pub left_of : Side → ℕ → List ℕ → List ℕ
left_of side.Prefix place text = drop place text
left_of side.Suffix place text = take place text

-- it holds at no place up to the end
abbrev pub IsNowhere : (ℕ → Type 0) → ℕ → Type 0
IsNowhere Holds end = (place : ℕ) → place ≤ end → Holds place → ⊥

-- it holds at this place, up to the end, and at none before
pub record IsFirst (Holds : ℕ → Type 0) (end place : ℕ) : Type 0 where
  pub within : place ≤ end
  pub here : Holds place
  pub least : (other : ℕ) → other ≤ end → Holds other → place ≤ other

-- it holds at this place, up to the end, and at none behind
pub record IsLast (Holds : ℕ → Type 0) (end place : ℕ) : Type 0 where
  pub within : place ≤ end
  pub here : Holds place
  pub greatest : (other : ℕ) → other ≤ end → Holds other → other ≤ place

-- the shortest prefix ends first, and the longest suffix begins first
abbrev pub IsBest : Side → Bool → (ℕ → Type 0) → ℕ → ℕ → Type 0
IsBest side.Prefix false = IsFirst
IsBest side.Prefix true = IsLast
IsBest side.Suffix false = IsLast
IsBest side.Suffix true = IsFirst

-- the text is this without the shortest or longest beginning or ending that fits; where none does, it is the whole text
pub data Cuts (side : Side) (longest : Bool) (pattern : List Element) (text : List ℕ) : List ℕ → Type 0 where
  cut : (place : ℕ) → IsBest side longest (FitsAt side pattern text) (length text) place → Cuts side longest pattern text (left_of side place text)
  whole : IsNowhere (FitsAt side pattern text) (length text) → Cuts side longest pattern text text
