use Rattle.std.proofs.Common.{refl, ◌∙◌}
use Rattle.std.proofs.Math.Seq.{map-set_same}
use Rattle.ut_sort.specs.Places.{with_number}
use Rattle.ut_sort.proofs.arranging.number_places.Goals as goal

pub loop-place-preserved : goal.loop-place-preserved
loop-place-preserved c = λ number.
    map-set_same (with_number number) c.loop-place.places c.loop-place.place-index _ _ refl ∙ c.loop-place.invariant number
