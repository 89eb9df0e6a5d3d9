use Rattle.std.proofs.Common.{◌≡◌, length}
use Rattle.ut_slices.specs.Cut.{is_selected}
use Rattle.ut_slices.proofs.runs.is_selected.Given as goal

abbrev pub invariant-loop-left : goal.invariant-loop-left
invariant-loop-left l = is_selected l.ranges l.index ≡ is_selected l.left l.index

abbrev pub decreases-loop-left : goal.decreases-loop-left
decreases-loop-left l = length l.left
