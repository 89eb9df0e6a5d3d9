use Rattle.std.proofs.Common.{◌≡◌, ◌+◌, ◌≤◌, length}
use Rattle.ut_groups.specs.Inner.Runs.{common}
use Rattle.ut_groups.proofs.runs.common_blocks.Given as goal

abbrev pub invariant-loop-rest : goal.invariant-loop-rest
invariant-loop-rest l = (l.passed + common l.rest l.others ≡ common l.one l.other) × (length l.rest ≤ length l.others)

abbrev pub decreases-loop-rest : goal.decreases-loop-rest
decreases-loop-rest l = length l.rest
