use Rattle.std.proofs.Common.{rules, true, false}
use Rattle.ut_slices.specs.Inner.Rows.{Goes}
use Rattle.ut_slices.proofs.WalkLemmas.{Goes-then}
use Rattle.ut_slices.proofs.rows.advance.Goals as goal

pub loop-goes_on-preserved : goal.loop-goes_on-preserved
loop-goes_on-preserved c =
    let l = c.loop-goes_on in
    let step : Goes c.args.plan.now l.walk c.write_row.new.walk l.out.items c.write_row.new.out.items true = search rules in
    (Goes-then c.args.plan.now _ l.walk c.write_row.new.walk _ l.out.items c.write_row.new.out.items true l.invariant.0 step, search rules)

pub returns-in-Err-clause-goes : goal.returns-in-Err-clause-goes
returns-in-Err-clause-goes c =
    let l = c.loop-goes_on in
    let step : Goes c.args.plan.now l.walk c.write_row.new.walk l.out.items c.write_row.new.out.items false = search rules in
    Goes-then c.args.plan.now _ l.walk c.write_row.new.walk _ l.out.items c.write_row.new.out.items false l.invariant.0 step
