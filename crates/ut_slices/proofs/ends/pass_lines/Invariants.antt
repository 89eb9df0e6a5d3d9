use Rattle.ut_slices.proofs.EndLemmas.{Passing}
use Rattle.ut_slices.proofs.ends.pass_lines.Given as goal

abbrev pub invariant-loop-left : goal.invariant-loop-left
invariant-loop-left l = Passing l.piece l.count l.rest l.left

abbrev pub decreases-loop-left : goal.decreases-loop-left
decreases-loop-left l = l.left
