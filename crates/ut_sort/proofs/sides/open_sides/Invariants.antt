use Rattle.std.proofs.Common.{◌≡◌, ◌+◌, length}
use Rattle.ut_sort.proofs.SideLemmas.{AreFresh}
use Rattle.ut_sort.proofs.sides.open_sides.Given as goal

abbrev pub invariant-loop-left : goal.invariant-loop-left
invariant-loop-left l = AreFresh l.sides.items × (length l.sides.items + l.left ≡ l.count)

abbrev pub decreases-loop-left : goal.decreases-loop-left
decreases-loop-left l = l.left
