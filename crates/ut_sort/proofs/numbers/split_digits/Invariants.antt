use Rattle.std.proofs.Common.{◌≡◌, ◌+◌, ◌++◌, length, take, drop, true}
use Rattle.std.specs.List.{list_all}
use Rattle.std.specs.Char.{is_ascii_digit}
use Rattle.ut_args.specs.Keys.{behind_digits, digits_front}
use Rattle.ut_sort.proofs.numbers.split_digits.Given as goal

abbrev pub invariant-loop-left : goal.invariant-loop-left
invariant-loop-left l =
    (l.left ≡ drop l.count l.text) × (l.count + length l.left ≡ length l.text)
    × (behind_digits l.text ≡ behind_digits l.left) × (digits_front l.text ≡ take l.count l.text ++ digits_front l.left)
    × (list_all is_ascii_digit (take l.count l.text) ≡ true)

abbrev pub decreases-loop-left : goal.decreases-loop-left
decreases-loop-left l = length l.left
