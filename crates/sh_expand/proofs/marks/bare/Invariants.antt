use Rattle.std.proofs.Common.{◌≡◌, ◌++◌, length}
use Rattle.sh_expand.specs.Marks.{bare}
use Rattle.sh_expand.proofs.marks.bare.Given as goal

abbrev pub invariant-loop-left : goal.invariant-loop-left
invariant-loop-left l = l.bytes.items ++ bare l.left ≡ bare l.marks

abbrev pub decreases-loop-left : goal.decreases-loop-left
decreases-loop-left l = length l.left
