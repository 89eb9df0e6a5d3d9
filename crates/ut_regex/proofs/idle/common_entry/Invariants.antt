use Rattle.std.proofs.Common.{◌+◌, ◌≤◌}
use Rattle.ut_regex.proofs.idle.common_entry.Given as goal

abbrev pub invariant-loop-byte : goal.invariant-loop-byte
invariant-loop-byte l = l.votes + 32 ≤ l.byte
