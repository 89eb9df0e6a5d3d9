use Rattle.std.proofs.Common.{◌≡◌, length}
use Rattle.ps_lines.specs.ByteSet.{has_byte}
use Rattle.ut_test.specs.Fields.{before_white}
use Rattle.ut_test.proofs.fields.before_white.Given as goal

abbrev pub invariant-loop-byte : goal.invariant-loop-byte
invariant-loop-byte l = before_white (has_byte l.separators) l.left ≡ before_white (has_byte l.separators) l.text

abbrev pub decreases-loop-byte : goal.decreases-loop-byte
decreases-loop-byte l = length l.left
