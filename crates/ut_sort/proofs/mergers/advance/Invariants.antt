use Rattle.std.proofs.Common.{◌≡◌, ◌+◌, true, false, if◌then◌else◌}
use Rattle.ut_sort.specs.LineOrders.{cmp_by}
use Rattle.ut_sort.specs.Sides.{total_held, Goes, IsSettled}
use Rattle.ut_sort.proofs.mergers.advance.Given as goal

abbrev pub invariant-loop-goes_on : goal.invariant-loop-goes_on
invariant-loop-goes_on l =
    Goes (cmp_by l.order) l.order.unique l.initial.sides.items l.sides.items l.initial.out.items l.out.items true × (l.goes_on ≡ false → IsSettled l.sides.items)

abbrev pub decreases-loop-goes_on : goal.decreases-loop-goes_on
decreases-loop-goes_on l = total_held l.sides.items + (if l.goes_on then 1 else 0)
