use Rattle.ut_slices.proofs.FieldLemmas.{PassedDelimiters-few, PassedDelimiters-next}
use Rattle.ut_slices.proofs.fields.cut_at_delimiter.Goals as goal

pub loop-left-preserved : goal.loop-left-preserved
loop-left-preserved c =
    PassedDelimiters-next c.args.delimiter c.args.count c.args.text.now c.loop-left.rest.now c.loop-left.left _ c.in-Some-cut_field.behind.now c.loop-left.invariant
    c.loop-left-test.true c.in-Some-cut_field.ensures.cut

pub returns-in_default-cut_field-clause-none : goal.returns-in_default-cut_field-clause-none
returns-in_default-cut_field-clause-none c =
    PassedDelimiters-few c.args.delimiter c.args.count c.args.text.now c.loop-left.rest.now c.loop-left.left c.loop-left.invariant c.loop-left-test.true
    c.in_default-cut_field.ensures.none
