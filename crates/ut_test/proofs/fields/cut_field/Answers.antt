use Rattle.ps_lines.specs.ByteSet.{has_byte}
use Rattle.ut_test.proofs.FieldLemmas.{field_taken}
use Rattle.ut_test.proofs.fields.cut_field.Goals as goal

pub returns-clause-field : goal.returns-clause-field
returns-clause-field c = field_taken (has_byte c.args.separators.now) c.args.text.now _ c.from_end-rest.ensures.rest
