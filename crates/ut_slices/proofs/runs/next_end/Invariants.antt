use Rattle.std.proofs.Common.{◌≡◌, ◌≤◌, ◌<◌, ℕ, true, length, IfSome}
use Rattle.ut_slices.specs.Cut.{is_selected}
use Rattle.ut_slices.specs.Inner.Runs.{is_before}
use Rattle.ut_slices.proofs.runs.next_end.Given as goal

abbrev pub invariant-loop-left : goal.invariant-loop-left
invariant-loop-left l =
    IfSome l.end (λ end. l.from < end)
    × ((index : ℕ) → l.from ≤ index → is_before index l.end ≡ true → is_selected l.left index ≡ is_selected l.left l.from → is_selected l.ranges index ≡ is_selected l.ranges l.from)

abbrev pub decreases-loop-left : goal.decreases-loop-left
decreases-loop-left l = length l.left
