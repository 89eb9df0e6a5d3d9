use Rattle.std.proofs.Common.{◌≡◌, ◌+◌, length}
use Rattle.ut_sort.specs.Sides.{first_waiting}
use Rattle.ut_sort.proofs.sides.first_waiting.Given as goal

abbrev pub invariant-loop-side : goal.invariant-loop-side
invariant-loop-side l = (first_waiting 0 l.sides ≡ first_waiting l.at l.left) × (l.at + length l.left ≡ length l.sides)

abbrev pub decreases-loop-side : goal.decreases-loop-side
decreases-loop-side l = length l.left
