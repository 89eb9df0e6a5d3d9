use Rattle.std.proofs.Common.{◌≡◌, ◌≤◌, ◌+◌, ◌*◌, ◌-◌, length}
use Rattle.std.specs.List.Sorted.{IsPermutation}
use Rattle.ut_sort.proofs.arranging.+arranging.Given as goal

abbrev pub invariant-arrange_numbered-loop-from : goal.invariant-arrange_numbered-loop-from
invariant-arrange_numbered-loop-from l =
    IsPermutation l.initial.places l.places × (length l.places ≡ length l.initial.places) × (l.from ≤ length l.places)

abbrev pub decreases-arrange_numbered-loop-from : goal.decreases-arrange_numbered-loop-from
decreases-arrange_numbered-loop-from l = length l.places - l.from

abbrev pub decreases-arrange_numbered : goal.decreases-arrange_numbered
decreases-arrange_numbered l = 2 * l.stages + 1

abbrev pub decreases-arrange_equal : goal.decreases-arrange_equal
decreases-arrange_equal l = 2 * l.stages
