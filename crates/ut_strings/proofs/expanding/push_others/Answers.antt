use Rattle.std.proofs.Common.{rules}
use Rattle.ut_strings.specs.Strings.{is_other}
use Rattle.ut_strings.proofs.PassingLemmas.{passing_start, passing_step}
use Rattle.ut_strings.proofs.expanding.push_others.Goals as goal

pub loop-number-init : goal.loop-number-init
loop-number-init c = passing_start (is_other c.args.bytes.now) c.args.others.now.items

pub loop-number-preserved : goal.loop-number-preserved
loop-number-preserved c =
    passing_step (is_other c.args.bytes.now) c.loop-number.number c.args.others.now.items _ c.push_if.new.bytes.items c.loop-number.invariant (search rules)
