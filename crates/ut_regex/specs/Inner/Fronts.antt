-- The first bytes of all that an expression spans. The code passes over the places of a text from which on they don't stand.
use Rattle.std.specs.Prelude.{ℕ, ◌≡◌, ◌+◌, ◌<◌, Bool, true, List, [], ◌∷◌, length, slice_index, slice_index_or}
use Rattle.ut_regex.specs.declared.front.Front.{Front}
use Rattle.ut_regex.specs.declared.tree.Leaf.{Leaf}
use Rattle.ut_regex.specs.declared.tree.Leaf.TheVariants.{Any}
use Rattle.ut_regex.specs.Spans.{fits, Spans}
use Rattle.ut_regex.specs.Tree.{Tree}

-- from a place of the line on stand bytes that fit the leaves, one behind the other
abbrev pub FitAt : Bool → List ℕ → List Leaf → ℕ → Type 0
FitAt fold line [] place = Unit {0}
FitAt fold line (one ∷ leaves) place = (place < length line) × (fits fold one (slice_index line place) ≡ true) × FitAt fold line leaves (place + 1)

-- all that the expression spans begins with bytes that fit the leaves of a front; an exact one has a leaf for each byte
pub record IsFront (fold : Bool) (re : Tree) (front : Front) : Type 0 where
  pub begins : (line : List ℕ) (from to : ℕ) → Spans fold line re from to → FitAt fold line front.leaves.items from
  pub exact : front.exact ≡ true → (line : List ℕ) (from to : ℕ) → Spans fold line re from to → to ≡ from + length front.leaves.items

-- what fits a leaf fits a wider one
abbrev pub IsWider : Leaf → Leaf → Type 0
IsWider wide one = (fold : Bool) (byte : ℕ) → fits fold one byte ≡ true → fits fold wide byte ≡ true

-- so many leaves are wider than those at their places in two lists
pub record IsJoined (made first second : List Leaf) (count : ℕ) : Type 0 where
  pub first_wider : (place : ℕ) → place < count → IsWider (slice_index_or made place Any) (slice_index_or first place Any)
  pub second_wider : (place : ℕ) → place < count → IsWider (slice_index_or made place Any) (slice_index_or second place Any)
