use Rattle.std.proofs.Common.{◌≡◌, length}
use Rattle.ut_sort.specs.Numbers.{without_end_zeros as without_end_zeros_def}
use Rattle.ut_sort.proofs.numbers.without_end_zeros.Given as goal

abbrev pub invariant-loop-digit : goal.invariant-loop-digit
invariant-loop-digit l = without_end_zeros_def l.left ≡ without_end_zeros_def l.digits

abbrev pub decreases-loop-digit : goal.decreases-loop-digit
decreases-loop-digit l = length l.left
