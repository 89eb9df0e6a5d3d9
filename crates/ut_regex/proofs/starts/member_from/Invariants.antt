use Rattle.std.proofs.Common.{◌≡◌, ◌<◌, ◌≤◌, ℕ, false}
use Rattle.ps_lines.specs.ByteSet.{has_byte}
use Rattle.ut_regex.proofs.starts.member_from.Given as goal

abbrev pub invariant-loop-code : goal.invariant-loop-code
invariant-loop-code l = (byte : ℕ) → l.from ≤ byte → byte < l.code → has_byte l.set byte ≡ false
