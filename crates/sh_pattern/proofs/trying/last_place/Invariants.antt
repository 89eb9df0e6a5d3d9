use Rattle.std.proofs.Common.{ℕ, ◌<◌, ◌≤◌, length}
use Rattle.sh_pattern.specs.Trims.{FitsAt}
use Rattle.sh_pattern.proofs.trying.last_place.Given as goal

-- no place behind this one fits
abbrev pub invariant-places : goal.invariant-places
invariant-places l = record {
  within : l.place ≤ length l.text;
  behind : (other : ℕ) → l.place < other → other ≤ length l.text → FitsAt l.side l.pattern l.text other → ⊥;
}

abbrev pub decreases-places : goal.decreases-places
decreases-places l = l.place
