use Rattle.std.proofs.Common.{◌<◌, ◌≤◌, length}
use Rattle.ut_sort.proofs.writing.piece_of.Given as goal

abbrev pub invariant-loop-left : goal.invariant-loop-left
invariant-loop-left l = (length l.left ≤ length l.places) × (l.bytes < 65536) × (0 < l.bytes → length l.left < length l.places)

abbrev pub decreases-loop-left : goal.decreases-loop-left
decreases-loop-left l = length l.left
