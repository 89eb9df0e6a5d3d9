use Rattle.std.proofs.Common.{◌-◌, ◌≤◌, length}
use Rattle.memchr.specs.Find.{Nowhere}
use Rattle.ut_regex.specs.Inner.Fronts.{FitAt}
use Rattle.ut_regex.proofs.front_search.FrontSearch.first_place.Given as goal

abbrev pub invariant-loop-place : goal.invariant-loop-place
invariant-loop-place l = record {
  within : l.place ≤ length l.text;
  passed : Nowhere (FitAt l.self.fold l.text l.self.leaves.items) 0 l.place;
}

abbrev pub decreases-loop-place : goal.decreases-loop-place
decreases-loop-place l = length l.text - l.place
