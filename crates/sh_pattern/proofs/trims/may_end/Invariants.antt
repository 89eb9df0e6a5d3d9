use Rattle.std.proofs.Common.{[], ◌↔◌, length}
use Rattle.sh_pattern.specs.Standing.{from_side, FitsFrom}
use Rattle.sh_pattern.proofs.trims.may_end.Given as goal

-- one of all may be at its end where one of those that are left is
abbrev pub invariant-loop-place : goal.invariant-loop-place
invariant-loop-place l = FitsFrom (from_side l.side l.elements) l.standing [] ↔ FitsFrom (from_side l.side l.elements) l.left []

abbrev pub decreases-loop-place : goal.decreases-loop-place
decreases-loop-place l = length l.left
