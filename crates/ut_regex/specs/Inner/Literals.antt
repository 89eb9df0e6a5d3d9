-- Bytes that a line has in a row wherever it has an expression. The code looks for them first.
use Rattle.std.specs.Prelude.{ℕ, ◌≡◌, ◌+◌, ◌<◌, Bool, true, List, [], ◌∷◌, length, slice_index}
use Rattle.ut_regex.specs.declared.literals.Required.{Required}
use Rattle.ut_regex.specs.Inner.Fronts.{IsFront}
use Rattle.ut_regex.specs.Tree.{Tree, last_tree, trees_before}
use Rattle.ut_regex.specs.declared.tree.Leaf.TheVariants.{Byte}
use Rattle.ut_regex.specs.Spans.{fits, Spans}

-- the bytes stand in the line from a place on; with `fold` letters are compared in both cases
abbrev pub StandsAt : Bool → List ℕ → List ℕ → ℕ → Type 0
StandsAt fold line [] place = Unit {0}
StandsAt fold line (byte ∷ bytes) place = (place < length line) × (fits fold (Byte byte) (slice_index line place) ≡ true) × StandsAt fold line bytes (place + 1)

-- the line has the bytes in a row
abbrev pub Contains : Bool → List ℕ → List ℕ → Type 0
Contains fold line bytes = (place : ℕ) × StandsAt fold line bytes place

-- the bytes stand in the line up to a place
abbrev pub StandsBefore : Bool → List ℕ → List ℕ → ℕ → Type 0
StandsBefore fold line bytes end = (place : ℕ) × (end ≡ place + length bytes) × StandsAt fold line bytes place

-- a line has these bytes in a row wherever the expression spans any of its places
abbrev pub IsLiteral : Bool → Tree → List ℕ → Type 0
IsLiteral fold re bytes = (line : List ℕ) (from to : ℕ) → Spans fold line re from to → Contains fold line bytes

-- what is required of all that an expression spans
pub record Requires (fold : Bool) (re : Tree) (required : Required) : Type 0 where
  pub inner : IsLiteral fold re required.inner.items
  pub suffix : (line : List ℕ) (from to : ℕ) → Spans fold line re from to → StandsBefore fold line required.suffix.items to
  pub exact : required.exact ≡ true → (line : List ℕ) (from to : ℕ) → Spans fold line re from to → to ≡ from + length required.suffix.items
  pub front : IsFront fold re required.front

-- each of a list is required of its tree
abbrev pub AreRequired : Bool → List Required → List Tree → Type 0
AreRequired fold [] trees = Unit {0}
AreRequired fold (first ∷ rest) trees = Requires fold (last_tree trees) first × AreRequired fold rest (trees_before trees)
