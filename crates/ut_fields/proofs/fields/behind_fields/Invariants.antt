use Rattle.std.proofs.Common.{◌≡◌}
use Rattle.ut_fields.specs.Fields.{behind_fields as behind_fields_def}
use Rattle.ut_fields.proofs.fields.behind_fields.Given as goal

abbrev pub invariant-loop-more : goal.invariant-loop-more
invariant-loop-more l = behind_fields_def l.separator l.more l.left ≡ behind_fields_def l.separator l.count l.line

abbrev pub decreases-loop-more : goal.decreases-loop-more
decreases-loop-more l = l.more
