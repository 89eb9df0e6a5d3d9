use Rattle.std.proofs.Common.{◌∙◌}
use Rattle.ut_slices.proofs.FieldLemmas.{has-sought}
use Rattle.ut_slices.proofs.fields.has_delimiter.Goals as goal

pub returns : goal.returns
returns c = c.is_some.ensures ∙ has-sought c.args.delimiter c.args.line.now c.memchr.result c.memchr.ensures
