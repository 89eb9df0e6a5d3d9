use Rattle.std.proofs.Common.{◌≡◌, length}
use Rattle.ut_fields.specs.Fields.{behind_blanks as behind_blanks_def}
use Rattle.ut_fields.proofs.fields.behind_blanks.Given as goal

abbrev pub invariant-loop-left : goal.invariant-loop-left
invariant-loop-left l = behind_blanks_def l.left ≡ behind_blanks_def l.text

abbrev pub decreases-loop-left : goal.decreases-loop-left
decreases-loop-left l = length l.left
