use Rattle.std.proofs.Common.{◌+◌, ◌≤◌, length}
use Rattle.ut_regex.proofs.stuck.are_lines_left_soon.Given as goal

abbrev pub invariant-loop-left : goal.invariant-loop-left
invariant-loop-left l = l.steps + length l.left ≤ length l.sample

abbrev pub decreases-loop-left : goal.decreases-loop-left
decreases-loop-left l = length l.left
