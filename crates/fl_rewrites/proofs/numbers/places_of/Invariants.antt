use Rattle.fl_rewrites.proofs.TableLemmas.{IsFilled}
use Rattle.fl_rewrites.proofs.numbers.places_of.Given as goal

abbrev pub invariant-loop-left : goal.invariant-loop-left
invariant-loop-left l = IsFilled l.places.items l.edges l.count l.left

abbrev pub decreases-loop-left : goal.decreases-loop-left
decreases-loop-left l = l.left
