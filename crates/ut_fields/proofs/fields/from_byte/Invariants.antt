use Rattle.std.proofs.Common.{◌≡◌, length}
use Rattle.ut_fields.specs.Fields.{from_byte as from_byte_def}
use Rattle.ut_fields.proofs.fields.from_byte.Given as goal

abbrev pub invariant-loop-left : goal.invariant-loop-left
invariant-loop-left l = from_byte_def l.separator l.left ≡ from_byte_def l.separator l.text

abbrev pub decreases-loop-left : goal.decreases-loop-left
decreases-loop-left l = length l.left
