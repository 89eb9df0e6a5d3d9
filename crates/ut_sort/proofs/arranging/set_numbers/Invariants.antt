use Rattle.std.proofs.Common.{◌≡◌, map, take}
use Rattle.ut_sort.specs.Places.{with_number}
use Rattle.ut_sort.proofs.arranging.set_numbers.Given as goal

abbrev pub invariant-loop-place : goal.invariant-loop-place
invariant-loop-place l =
    (map (with_number l.number) l.places ≡ map (with_number l.number) l.initial.places)
    × (map (with_number l.number) (take l.place-index l.places) ≡ take l.place-index l.places)
