use Rattle.std.proofs.Common.{rules, ◌≤◌, ◌<◌, true, false, arith}
use Rattle.ut_slices.specs.Inner.Rows.{weight, Goes}
use Rattle.ut_slices.proofs.WalkLemmas.{Goes-then}
use Rattle.ut_slices.proofs.rows.write_row.Goals as goal

pub loop-port-preserved : goal.loop-port-preserved
loop-port-preserved c =
    let l = c.loop-port in
    let step : Goes c.args.plan.now l.walk c.write_cell.new.walk l.out.items c.write_cell.new.out.items true = search rules in
    let lighter : weight c.write_cell.new.walk ≤ weight l.walk = search rules in
    let so_far = l.invariant.1 in
    (Goes-then c.args.plan.now _ l.walk c.write_cell.new.walk _ l.out.items c.write_cell.new.out.items true l.invariant.0 step, omega arith)

pub returns-in-Ok-false-clause-goes : goal.returns-in-Ok-false-clause-goes
returns-in-Ok-false-clause-goes c =
    let l = c.loop-port in
    let step : Goes c.args.plan.now l.walk c.write_cell.new.walk l.out.items c.write_cell.new.out.items true = search rules in
    Goes-then c.args.plan.now _ l.walk c.write_cell.new.walk _ l.out.items c.write_cell.new.out.items true l.invariant.0 step

pub returns-in-Ok-false-clause-no_heavier : goal.returns-in-Ok-false-clause-no_heavier
returns-in-Ok-false-clause-no_heavier c =
    let lighter : weight c.write_cell.new.walk ≤ weight c.loop-port.walk = search rules in
    let so_far = c.loop-port.invariant.1 in omega arith

pub returns-in-Err-clause-goes : goal.returns-in-Err-clause-goes
returns-in-Err-clause-goes c =
    let l = c.loop-port in
    let step : Goes c.args.plan.now l.walk c.write_cell.new.walk l.out.items c.write_cell.new.out.items false = search rules in
    Goes-then c.args.plan.now _ l.walk c.write_cell.new.walk _ l.out.items c.write_cell.new.out.items false l.invariant.0 step

pub returns-then-not-walk-clause-goes : goal.returns-then-not-walk-clause-goes
returns-then-not-walk-clause-goes c = c.loop-port.invariant.0

pub returns-then-not-walk-clause-no_heavier : goal.returns-then-not-walk-clause-no_heavier
returns-then-not-walk-clause-no_heavier c = c.loop-port.invariant.1

pub returns-in-Ok-clause-goes : goal.returns-in-Ok-clause-goes
returns-in-Ok-clause-goes c =
    let l = c.loop-port in
    let step : Goes c.args.plan.now l.walk c.end_row.new.walk l.out.items c.end_row.new.out.items true = search rules in
    Goes-then c.args.plan.now _ l.walk c.end_row.new.walk _ l.out.items c.end_row.new.out.items true l.invariant.0 step

pub returns-in-Ok-clause-no_heavier : goal.returns-in-Ok-clause-no_heavier
returns-in-Ok-clause-no_heavier c =
    let lighter : weight c.end_row.new.walk < weight c.loop-port.walk = search rules in
    let so_far = c.loop-port.invariant.1 in omega arith

pub returns-in-Ok-clause-lighter : goal.returns-in-Ok-clause-lighter
returns-in-Ok-clause-lighter c is_more =
    let lighter : weight c.end_row.new.walk < weight c.loop-port.walk = search rules in
    let so_far = c.loop-port.invariant.1 in omega arith

pub returns-in-Err-end_row-clause-goes : goal.returns-in-Err-end_row-clause-goes
returns-in-Err-end_row-clause-goes c =
    let l = c.loop-port in
    let step : Goes c.args.plan.now l.walk c.end_row.new.walk l.out.items c.end_row.new.out.items false = search rules in
    Goes-then c.args.plan.now _ l.walk c.end_row.new.walk _ l.out.items c.end_row.new.out.items false l.invariant.0 step
