use Rattle.std.proofs.Common.{◌≡◌, length}
use Rattle.ut_regex.specs.Inner.Fronts.{IsJoined}
use Rattle.ut_regex.proofs.front.joined.Given as goal

abbrev pub invariant-loop-place : goal.invariant-loop-place
invariant-loop-place l = record {
  long : length l.made.items ≡ l.place;
  joined : IsJoined l.made.items l.first l.second l.place;
}
