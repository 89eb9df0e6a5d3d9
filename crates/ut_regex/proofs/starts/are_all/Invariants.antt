use Rattle.std.proofs.Common.{◌≡◌, ◌<◌, ℕ}
use Rattle.memchr.specs.Find.{is_byte3}
use Rattle.ps_lines.specs.ByteSet.{has_byte}
use Rattle.ut_regex.proofs.starts.are_all.Given as goal

abbrev pub invariant-loop-code : goal.invariant-loop-code
invariant-loop-code l = (byte : ℕ) → byte < l.code → has_byte l.set byte ≡ is_byte3 l.first l.second l.third byte
