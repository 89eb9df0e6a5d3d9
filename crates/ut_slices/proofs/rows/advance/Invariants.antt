use Rattle.std.proofs.Common.{◌≡◌, ◌+◌, true, false, if◌then◌else◌}
use Rattle.ut_slices.specs.Inner.Rows.{weight, Goes, IsSettled}
use Rattle.ut_slices.proofs.rows.advance.Given as goal

abbrev pub invariant-loop-goes_on : goal.invariant-loop-goes_on
invariant-loop-goes_on l = Goes l.plan l.initial.walk l.walk l.initial.out.items l.out.items true × (l.goes_on ≡ false → IsSettled l.plan l.walk)

abbrev pub decreases-loop-goes_on : goal.decreases-loop-goes_on
decreases-loop-goes_on l = weight l.walk + (if l.goes_on then 1 else 0)
