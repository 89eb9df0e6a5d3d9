use Rattle.std.proofs.Common.{◌≤◌, ◌-◌, length, true}
use Rattle.ut_slices.specs.Inner.Rows.{weight, Goes}
use Rattle.ut_slices.proofs.rows.write_row.Given as goal

abbrev pub invariant-loop-port : goal.invariant-loop-port
invariant-loop-port l = Goes l.plan l.initial.walk l.walk l.initial.out.items l.out.items true × (weight l.walk ≤ weight l.initial.walk)

abbrev pub decreases-loop-port : goal.decreases-loop-port
decreases-loop-port l = length l.plan.columns.items - l.walk.column
