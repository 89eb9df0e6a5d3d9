use Rattle.std.proofs.Common.{◌≡◌, length}
use Rattle.ps_fakes.specs.Bounded.{are_bounded}
use Rattle.ps_fakes.specs.Trees.{entries_of}
use Rattle.ps_fakes.proofs.no_fail.are_bounded.Given as goal

abbrev pub invariant-loop-left : goal.invariant-loop-left
invariant-loop-left l = are_bounded (entries_of l.initial.left) ≡ are_bounded (entries_of l.left)

abbrev pub decreases-loop-left : goal.decreases-loop-left
decreases-loop-left l = length l.left
