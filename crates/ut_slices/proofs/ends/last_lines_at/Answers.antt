use Rattle.ut_slices.proofs.EndLemmas.{BeginsLast-all, BeginsLast-few, Walked-line}
use Rattle.ut_slices.proofs.ends.last_lines_at.Goals as goal

pub loop-left-preserved : goal.loop-left-preserved
loop-left-preserved c =
    Walked-line c.args.text.now c.args.count c.loop-left.front.now c.loop-left.left c.in-Some.field-0-0.now c.in-Some.body.now c.cut_last_line.result.0.now
    c.cut_last_line.result.1.now c.loop-left.invariant c.loop-left-test.true c.in-Some.ensures.cases.0 c.cut_last_line.ensures.cut

pub returns-in-None : goal.returns-in-None
returns-in-None c = BeginsLast-few c.args.text.now c.args.count c.loop-left.front.now c.loop-left.left c.in-None.ensures.cases c.loop-left.invariant

pub returns : goal.returns
returns c = BeginsLast-all c.args.text.now c.args.count c.loop-left.front.now c.loop-left.left c.loop-left-test.false c.loop-left.invariant
