use Rattle.std.proofs.Common.{◌≡◌, ◌+◌, ◌++◌, length, take, drop}
use Rattle.ut_args.specs.Keys.{behind_digits, digits_front}
use Rattle.ut_args.proofs.keys.split_digits.Given as goal

abbrev pub invariant-loop-left : goal.invariant-loop-left
invariant-loop-left l = record {
  within : l.count + length l.left ≡ length l.text;
  front : digits_front l.text ≡ take l.count l.text ++ digits_front l.left;
  behind : behind_digits l.text ≡ behind_digits l.left;
  rest : l.left ≡ drop l.count l.text;
}

abbrev pub decreases-loop-left : goal.decreases-loop-left
decreases-loop-left l = length l.left
