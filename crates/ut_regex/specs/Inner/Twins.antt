-- Bytes that a machine doesn't tell apart, so that what follows one follows the other.
use Rattle.std.specs.Prelude.{ℕ, ◌≡◌, ◌<◌, ◌≤◌, not, Bool, false, List, [], ◌∷◌, length, slice_index_or}
use Rattle.std.specs.Bool.{beq}
use Rattle.ut_regex.specs.declared.program.Op.{Op}
use Rattle.ut_regex.specs.declared.program.Op.TheVariants as op
use Rattle.ut_regex.specs.Spans.{fits}

-- a step tells two bytes apart
abbrev pub tells : Bool → ℕ → ℕ → Op → Bool
tells fold first byte (op.Point one) = not (beq (fits fold one first) (fits fold one byte))
tells fold first byte op.Begin = false
tells fold first byte op.End = false
tells fold first byte op.Empty = false
tells fold first byte op.Both = false
tells fold first byte op.Either = false
tells fold first byte op.Many = false
tells fold first byte op.Maybe = false

-- no step tells them apart
abbrev pub AreTwins : Bool → ℕ → ℕ → List Op → Type 0
AreTwins fold first byte [] = Unit {0}
AreTwins fold first byte (step ∷ steps) = (tells fold first byte step ≡ false) × AreTwins fold first byte steps

-- each byte up to a number of them has an earlier twin, or is its own
pub record HasTwins (fold : Bool) (steps : List Op) (twins : List ℕ) (count : ℕ) : Type 0 where
  pub long : length twins ≡ count
  pub before : (byte : ℕ) → byte < count → slice_index_or twins byte 0 ≤ byte
  pub same : (byte : ℕ) → byte < count → AreTwins fold (slice_index_or twins byte 0) byte steps

-- no byte before the twin of one is a twin too
abbrev pub AreFirst : Bool → List Op → List ℕ → ℕ → Type 0
AreFirst fold steps twins count =
    (byte earlier : ℕ) → byte < count → earlier < slice_index_or twins byte 0 → AreTwins fold earlier byte steps → ⊥
