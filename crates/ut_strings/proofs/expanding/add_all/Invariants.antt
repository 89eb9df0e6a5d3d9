use Rattle.std.proofs.Common.{◌≡◌, length}
use Rattle.ut_strings.specs.Strings.{all_added, no_sides}
use Rattle.ut_strings.proofs.expanding.add_all.Given as goal

abbrev pub invariant-loop-left : goal.invariant-loop-left
invariant-loop-left l = all_added l.second 0 no_sides l.marked ≡ all_added l.second l.skipped l.sides l.left

abbrev pub decreases-loop-left : goal.decreases-loop-left
decreases-loop-left l = length l.left
