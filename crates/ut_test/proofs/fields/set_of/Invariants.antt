use Rattle.std.proofs.Common.{◌≡◌, ◌||◌, ℕ, length}
use Rattle.ps_lines.specs.ByteSet.{has_byte}
use Rattle.ut_test.specs.Fields.{is_in}
use Rattle.ut_test.proofs.fields.set_of.Given as goal

abbrev pub invariant-loop-byte : goal.invariant-loop-byte
invariant-loop-byte l = (one : ℕ) → (has_byte l.set one || is_in l.left one) ≡ is_in l.ifs one

abbrev pub decreases-loop-byte : goal.decreases-loop-byte
decreases-loop-byte l = length l.left
