use Rattle.std.proofs.Common.{◌≡◌, ◌≤◌, ◌-◌, length, map, take}
use Rattle.ut_sort.specs.Places.{with_number}
use Rattle.ut_sort.proofs.arranging.count_numbered.Given as goal

abbrev pub invariant-loop-count : goal.invariant-loop-count
invariant-loop-count l = (l.count ≤ length l.places) × (map (with_number l.number) (take l.count l.places) ≡ take l.count l.places)

abbrev pub decreases-loop-count : goal.decreases-loop-count
decreases-loop-count l = length l.places - l.count
