use Rattle.std.proofs.Common.{arith, refl, ◌∙◌}
use Rattle.std.proofs.Math.Seq.{map-set_same}
use Rattle.ut_sort.specs.Places.{with_number}
use Rattle.ut_sort.proofs.ArrangingLemmas.{set-more}
use Rattle.ut_sort.proofs.arranging.set_numbers.Goals as goal

pub loop-place-preserved : goal.loop-place-preserved
loop-place-preserved c = (
  map-set_same (with_number c.args.number) c.loop-place.places c.loop-place.place-index _ _ refl ∙ c.loop-place.invariant.0,
  set-more c.args.number c.loop-place.places c.loop-place.place-index _ (omega arith) refl c.loop-place.invariant.1,
)
