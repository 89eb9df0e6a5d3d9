use Rattle.ut_slices.proofs.FieldLemmas.{CutsField-sought, plain-sought}
use Rattle.ut_slices.proofs.fields.cut_field.Goals as goal

pub returns-in-Some-clause-cut : goal.returns-in-Some-clause-cut
returns-in-Some-clause-cut c = CutsField-sought c.args.delimiter c.args.text.now c.in-Some.end c.in-Some.ensures

pub returns-in-None-clause-none : goal.returns-in-None-clause-none
returns-in-None-clause-none c = plain-sought c.args.delimiter c.args.text.now c.in-None.ensures
