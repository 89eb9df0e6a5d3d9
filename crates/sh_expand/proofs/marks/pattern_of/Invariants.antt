use Rattle.std.proofs.Common.{◌≡◌, ◌++◌, length}
use Rattle.sh_expand.specs.Marks.{pattern_of}
use Rattle.sh_expand.proofs.marks.pattern_of.Given as goal

abbrev pub invariant-loop-left : goal.invariant-loop-left
invariant-loop-left l = l.text.items ++ pattern_of l.left ≡ pattern_of l.marks

abbrev pub decreases-loop-left : goal.decreases-loop-left
decreases-loop-left l = length l.left
