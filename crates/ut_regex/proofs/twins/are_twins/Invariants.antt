use Rattle.std.proofs.Common.{length}
use Rattle.ut_regex.specs.Inner.Twins.{AreTwins}
use Rattle.ut_regex.proofs.twins.are_twins.Given as goal

abbrev pub invariant-loop-left : goal.invariant-loop-left
invariant-loop-left l = record {
  whole : AreTwins l.fold l.first l.byte l.left → AreTwins l.fold l.first l.byte l.steps;
  part : AreTwins l.fold l.first l.byte l.steps → AreTwins l.fold l.first l.byte l.left;
}

abbrev pub decreases-loop-left : goal.decreases-loop-left
decreases-loop-left l = length l.left
