use Rattle.std.proofs.Common.{◌≡◌, ℕ, map}
use Rattle.ut_sort.specs.Places.{with_number}
use Rattle.ut_sort.proofs.arranging.number_places.Given as goal

abbrev pub invariant-loop-place : goal.invariant-loop-place
invariant-loop-place l = (number : ℕ) → map (with_number number) l.places ≡ map (with_number number) l.initial.places
