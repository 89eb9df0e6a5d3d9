-- A walk along a pattern up to its next star, by which the matcher's parts speak to one another.
use Rattle.std.specs.Prelude.{◌≡◌, ℕ, true, List, ◌∷◌}
use Rattle.sh_pattern.specs.declared.elements.Element.{Element}
use Rattle.sh_pattern.specs.declared.elements.Element.TheVariants as element
use Rattle.sh_pattern.specs.declared.matching.Walk.{Walk}
use Rattle.sh_pattern.specs.declared.matching.Walk.TheVariants as walk
use Rattle.sh_pattern.specs.Fits.{takes, Fits}

-- elements without a star took the bytes that lie between the two places in pattern and text
pub data Passed : List Element → List ℕ → List Element → List ℕ → Type 0 where
  not_yet : {pattern : List Element} {text : List ℕ} → Passed pattern text pattern text
  one_byte : {pattern rest : List Element} {text left : List ℕ} {element : Element} {byte : ℕ} → Passed pattern text (element ∷ rest) (byte ∷ left) → takes element byte ≡ true → Passed pattern text rest left

-- how a walk ended: at a star, at the end of both, or because the text doesn't fit
abbrev pub WalkEnds : List Element → List ℕ → Walk → Type 0
WalkEnds pattern text (walk.AtStar rest left) = Passed pattern text (element.AnyString ∷ rest.now) left.now
WalkEnds pattern text walk.AtEnd = Fits pattern text
WalkEnds pattern text walk.Astray = Fits pattern text → ⊥
