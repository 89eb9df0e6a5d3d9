use Rattle.ut_slices.proofs.FieldLemmas.{PassedDelimiters}
use Rattle.ut_slices.proofs.fields.cut_at_delimiter.Given as goal

abbrev pub invariant-loop-left : goal.invariant-loop-left
invariant-loop-left l = PassedDelimiters l.delimiter l.count l.text l.rest l.left

abbrev pub decreases-loop-left : goal.decreases-loop-left
decreases-loop-left l = l.left
