use Rattle.std.proofs.Common.{◌≡◌, length, map}
use Rattle.ut_sort.specs.Keys.{keys_cmp, with_global}
use Rattle.ut_sort.proofs.orders.compare_each.Given as goal

abbrev pub invariant-loop-left : goal.invariant-loop-left
invariant-loop-left l =
    keys_cmp l.separator (map (with_global l.global) l.left) l.one l.other ≡ keys_cmp l.separator (map (with_global l.global) l.keys) l.one l.other

abbrev pub decreases-loop-left : goal.decreases-loop-left
decreases-loop-left l = length l.left
