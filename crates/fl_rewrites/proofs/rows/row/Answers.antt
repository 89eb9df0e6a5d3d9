use Rattle.std.proofs.Common.{arith}
use Rattle.fl_rewrites.proofs.RowLemmas.{row-on}
use Rattle.fl_rewrites.proofs.rows.row.Goals as goal

pub loop-number-preserved : goal.loop-number-preserved
loop-number-preserved c =
    let below = c.loop-number-test.true in (
      omega (arith, below),
      row-on c.loop-number.row.items c.push.new.self.items c.loop-number.number c.args.from c.args.count below c.in_ok-push.ensures.items c.loop-number.invariant.1,
    )
