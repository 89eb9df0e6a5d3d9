-- Searches for what a line with an expression has: bytes in a row, or what it begins with.
use Rattle.std.specs.Prelude.{ℕ, ◌<◌, Bool, true, false, List, length}
use Rattle.ut_regex.specs.declared.search.Search.{Search}
use Rattle.ut_regex.specs.declared.search.Search.TheVariants.{Exact, Folded, Front}
use Rattle.ut_regex.specs.Inner.Fronts.{FitAt}
use Rattle.ut_regex.specs.Inner.Literals.{StandsAt}
use Rattle.ut_regex.specs.Spans.{Spans}
use Rattle.ut_regex.specs.Tree.{Tree}

-- what is searched for stands in a text from a place on
abbrev pub IsSoughtAt : Search → List ℕ → ℕ → Type 0
IsSoughtAt (Exact bytes) text place = StandsAt false text bytes place
IsSoughtAt (Folded folded) text place = StandsAt true text folded.bytes.items place
IsSoughtAt (Front front) text place = FitAt front.fold text front.leaves.items place

-- a search tells where what it searches for stands, and not only where it may
abbrev pub tells : Search → Bool
tells (Exact bytes) = true
tells (Folded folded) = true
tells (Front front) = false

-- the search is for something that every line with the expression has
pub record Looks (search : Search) (fold : Bool) (re : Tree) : Type 0 where
  pub required : (line : List ℕ) (from to : ℕ) → Spans fold line re from to → (place : ℕ) × IsSoughtAt search line place
  pub some : (line : List ℕ) (place : ℕ) → IsSoughtAt search line place → place < length line
