use Rattle.std.proofs.Common.{◌≡◌, ◌++◌, ◌∷◌, length, None}
use Rattle.ut_slices.proofs.delimiters.behind_none.Given as goal

abbrev pub invariant-loop-left : goal.invariant-loop-left
invariant-loop-left l = l.all.items ++ l.left ≡ None ∷ l.delimiters

abbrev pub decreases-loop-left : goal.decreases-loop-left
decreases-loop-left l = length l.left
