use Rattle.std.proofs.Common.{ℕ, List, ◌∷◌, ◌↔◌, ◌⊎◌, length}
use Rattle.sh_pattern.specs.Standing.{from_side, FitsFrom}
use Rattle.sh_pattern.proofs.trims.step.Given as goal

-- those that were added, and what those that are left lead to, are what all lead to
abbrev pub invariant-loop-place : goal.invariant-loop-place
invariant-loop-place l = (more : List ℕ) → FitsFrom (from_side l.side l.elements) l.standing (l.byte ∷ more)
    ↔ (FitsFrom (from_side l.side l.elements) l.next.items more ⊎ FitsFrom (from_side l.side l.elements) l.left (l.byte ∷ more))

abbrev pub decreases-loop-place : goal.decreases-loop-place
decreases-loop-place l = length l.left
