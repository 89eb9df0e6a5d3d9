use Rattle.std.proofs.Common.{◌≡◌, length}
use Rattle.ut_strings.specs.Marked.{behind, marked_from}
use Rattle.ut_strings.proofs.marked.marked_of.Given as goal

abbrev pub invariant-loop-left : goal.invariant-loop-left
invariant-loop-left l = marked_from l.initial.state l.initial.left ≡ behind l.bytes (marked_from l.state l.left)

abbrev pub decreases-loop-left : goal.decreases-loop-left
decreases-loop-left l = length l.left
