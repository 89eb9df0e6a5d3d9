use Rattle.std.proofs.Common.{◌≡◌, length, true}
use Rattle.std.specs.List.{list_all}
use Rattle.std.specs.Char.{is_ascii_digit}
use Rattle.std.specs.Str.Parse.{digits_value}
use Rattle.ut_sort.proofs.numbers.without_front_zeros.Given as goal

abbrev pub invariant-loop-left : goal.invariant-loop-left
invariant-loop-left l = (digits_value 10 l.left ≡ digits_value 10 l.digits) × (list_all is_ascii_digit l.left ≡ true)

abbrev pub decreases-loop-left : goal.decreases-loop-left
decreases-loop-left l = length l.left
