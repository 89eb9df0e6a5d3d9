use Rattle.ut_fields.proofs.FieldLemmas.{past_the_end}
use Rattle.ut_fields.proofs.fields.behind_fields.Goals as goal

pub returns-then-is_empty : goal.returns-then-is_empty
returns-then-is_empty c =
    past_the_end c.args.separator c.loop-more.more c.loop-more.left.now _ c.if-is_empty.ensures c.loop-more.invariant
