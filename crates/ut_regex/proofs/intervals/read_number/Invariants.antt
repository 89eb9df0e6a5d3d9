use Rattle.std.proofs.Common.{◌≡◌, ◌≤◌, min, length}
use Rattle.ut_regex.specs.Intervals.{number_from, behind_digits}
use Rattle.ut_regex.proofs.intervals.read_number.Given as goal

abbrev pub invariant-loop-digit : goal.invariant-loop-digit
invariant-loop-digit l = record {
  number : min (number_from l.number l.left) 256 ≡ min (number_from 0 l.text) 256;
  small : l.number ≤ 256;
  behind : behind_digits l.left ≡ behind_digits l.text;
  shorter : length l.left ≤ length l.text;
}

abbrev pub decreases-loop-digit : goal.decreases-loop-digit
decreases-loop-digit l = length l.left
