use Rattle.std.proofs.Common.{length}
use Rattle.sh_pattern.specs.Walks.{Passed}
use Rattle.sh_pattern.proofs.matching.next_star.Given as goal

abbrev pub invariant-loop-element : goal.invariant-loop-element
invariant-loop-element l = Passed l.fn.pattern l.fn.text l.rest l.left

abbrev pub decreases-loop-element : goal.decreases-loop-element
decreases-loop-element l = length l.rest
