use Rattle.std.proofs.Common.{◌≡◌, length}
use Rattle.ut_fields.specs.Fields.{from_blank as from_blank_def}
use Rattle.ut_fields.proofs.fields.from_blank.Given as goal

abbrev pub invariant-loop-left : goal.invariant-loop-left
invariant-loop-left l = from_blank_def l.left ≡ from_blank_def l.text

abbrev pub decreases-loop-left : goal.decreases-loop-left
decreases-loop-left l = length l.left
