use Rattle.std.proofs.Common.{◌≡◌, ◌++◌, length}
use Rattle.ut_strings.specs.Items.{behind_digits, digits_front}
use Rattle.ut_strings.proofs.items.read_digits.Given as goal

abbrev pub invariant-loop-left : goal.invariant-loop-left
invariant-loop-left l = record {
  digits : l.initial.digits.items ++ digits_front l.initial.left ≡ l.digits.items ++ digits_front l.left;
  behind : behind_digits l.initial.left ≡ behind_digits l.left;
}

abbrev pub decreases-loop-left : goal.decreases-loop-left
decreases-loop-left l = length l.left
