use Rattle.std.proofs.Common.{◌≡◌, length}
use Rattle.ut_sort.specs.Keys.{keys_cmp}
use Rattle.ut_sort.proofs.keys.compare_keys.Given as goal

abbrev pub invariant-loop-left : goal.invariant-loop-left
invariant-loop-left l = keys_cmp l.separator l.left l.one l.other ≡ keys_cmp l.separator l.keys l.one l.other

abbrev pub decreases-loop-left : goal.decreases-loop-left
decreases-loop-left l = length l.left
