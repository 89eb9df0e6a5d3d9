use Rattle.std.proofs.Common.{◌-◌, ◌^◌}
use Rattle.ut_slices.proofs.RunLemmas.{Follows}
use Rattle.ut_slices.proofs.runs.runs_of.Given as goal

abbrev pub invariant-loop-end : goal.invariant-loop-end
invariant-loop-end l = Follows l.ranges l.runs.items l.from

abbrev pub decreases-loop-end : goal.decreases-loop-end
decreases-loop-end l = 2 ^ 64 - l.from
