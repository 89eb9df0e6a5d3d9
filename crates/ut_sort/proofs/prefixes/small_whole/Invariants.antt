use Rattle.std.proofs.Common.{◌≡◌, ◌<◌, length, true}
use Rattle.std.specs.List.{list_all}
use Rattle.std.specs.Char.{is_ascii_digit}
use Rattle.std.specs.Str.Parse.{digits_value, digits_value_after}
use Rattle.ut_sort.proofs.prefixes.small_whole.Given as goal

abbrev pub invariant-loop-left : goal.invariant-loop-left
invariant-loop-left l =
    (digits_value 10 l.digits ≡ digits_value_after 10 l.whole l.left) × (l.whole < 87960930222080) × (list_all is_ascii_digit l.left ≡ true)

abbrev pub decreases-loop-left : goal.decreases-loop-left
decreases-loop-left l = length l.left
