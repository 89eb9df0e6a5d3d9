use Rattle.std.proofs.Common.{◌≡◌, ◌+◌, length, true}
use Rattle.ps_lines.specs.Lines.{is_closed}
use Rattle.ut_streams.specs.Streams.{Wrote}
use Rattle.ut_sort.specs.Merging.{merged_with}
use Rattle.ut_sort.specs.Order.{order_of}
use Rattle.ut_sort.proofs.merging.merge_some.Given as goal

abbrev pub invariant-loop-line : goal.invariant-loop-line
invariant-loop-line l =
    Wrote (merged_with (order_of l.inv.args) l.inv.args.unique l.left l.right) (merged_with (order_of l.inv.args) l.inv.args.unique l.lefts l.rights)
    l.initial.out.items l.out.items true
    × (is_closed l.left ≡ true → is_closed l.lefts ≡ true) × (is_closed l.right ≡ true → is_closed l.rights ≡ true)

abbrev pub decreases-loop-line : goal.decreases-loop-line
decreases-loop-line l = length l.lefts + length l.rights
