use Rattle.std.proofs.Common.{◌≡◌, ◌≤◌, length}
use Rattle.ps_lines.specs.ByteSet.{has_byte}
use Rattle.ut_test.specs.Fields.{from_end}
use Rattle.ut_test.proofs.fields.from_end.Given as goal

abbrev pub invariant-loop-byte : goal.invariant-loop-byte
invariant-loop-byte l = record {
  rest : from_end (has_byte l.separators) l.left ≡ from_end (has_byte l.separators) l.text;
  within : length l.left ≤ length l.text;
}

abbrev pub decreases-loop-byte : goal.decreases-loop-byte
decreases-loop-byte l = length l.left
