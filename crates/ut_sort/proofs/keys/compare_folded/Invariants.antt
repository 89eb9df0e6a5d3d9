use Rattle.std.proofs.Common.{◌≡◌, length}
use Rattle.ut_sort.specs.Keys.{bytes_cmp, folded}
use Rattle.ut_sort.proofs.keys.compare_folded.Given as goal

abbrev pub invariant-loop-one : goal.invariant-loop-one
invariant-loop-one l = bytes_cmp (folded l.one) (folded l.other) ≡ bytes_cmp (folded l.initial.one) (folded l.initial.other)

abbrev pub decreases-loop-one : goal.decreases-loop-one
decreases-loop-one l = length l.one
