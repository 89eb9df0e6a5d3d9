use Rattle.std.proofs.Common.{◌≡◌, ◌++◌, length}
use Rattle.sh_expand.specs.Marks.{marked}
use Rattle.sh_expand.proofs.marks.add_bytes.Given as goal

abbrev pub invariant-loop-left : goal.invariant-loop-left
invariant-loop-left l = l.out.items ++ marked l.manner l.left ≡ l.fn.out.items ++ marked l.manner l.bytes

abbrev pub decreases-loop-left : goal.decreases-loop-left
decreases-loop-left l = length l.left
