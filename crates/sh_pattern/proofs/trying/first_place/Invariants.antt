use Rattle.std.proofs.Common.{ℕ, ◌<◌}
use Rattle.sh_pattern.specs.Trims.{FitsAt}
use Rattle.sh_pattern.proofs.trying.first_place.Given as goal

-- no place so far fits
abbrev pub invariant-loop-place : goal.invariant-loop-place
invariant-loop-place l = (other : ℕ) → other < l.place → FitsAt l.side l.pattern l.text other → ⊥
