use Rattle.std.proofs.Common.{◌≡◌, ◌&&◌, ℕ, nat_lt, not}
use Rattle.ps_lines.specs.ByteSet.{has_byte}
use Rattle.ut_regex.specs.Inner.Idling.{stays}
use Rattle.ut_regex.proofs.idle.starts_of.Given as goal

abbrev pub invariant-loop-code : goal.invariant-loop-code
invariant-loop-code l = (byte : ℕ) → has_byte l.starts byte ≡ (nat_lt byte l.code && not (stays l.next l.state byte))
