use Rattle.std.proofs.Common.{rules}
use Rattle.ut_args.proofs.ListLemmas.{list_step, list_stop}
use Rattle.ut_args.proofs.columns.list_of.Goals as goal

pub returns-in_default-range_of : goal.returns-in_default-range_of
returns-in_default-range_of c =
    list_stop c.loop-part.left.now c.in-Some.part.now c.in-Some.rest.now c.loop-part.ranges _ (search rules) (search rules) (search rules)

pub loop-part-preserved : goal.loop-part-preserved
loop-part-preserved c =
    list_step c.loop-part.left.now c.in-Some.part.now c.in-Some.rest.now c.in-Some-range_of.range c.loop-part.ranges c.push.new.self _
    (search rules) (search rules) (search rules) c.loop-part.invariant
