use Rattle.ut_slices.proofs.EndLemmas.{Walked}
use Rattle.ut_slices.proofs.ends.last_lines_at.Given as goal

abbrev pub invariant-loop-left : goal.invariant-loop-left
invariant-loop-left l = Walked l.text l.count l.front l.left

abbrev pub decreases-loop-left : goal.decreases-loop-left
decreases-loop-left l = l.left
