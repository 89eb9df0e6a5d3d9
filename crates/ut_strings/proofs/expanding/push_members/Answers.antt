use Rattle.std.proofs.Common.{rules}
use Rattle.ut_strings.specs.Strings.{item_has}
use Rattle.ut_strings.proofs.PassingLemmas.{passing_start, passing_step}
use Rattle.ut_strings.proofs.expanding.push_members.Goals as goal

pub loop-number-init : goal.loop-number-init
loop-number-init c = passing_start (item_has c.args.item) c.args.bytes.now.items

pub loop-number-preserved : goal.loop-number-preserved
loop-number-preserved c =
    passing_step (item_has c.args.item) c.loop-number.number c.args.bytes.now.items _ c.push_if.new.bytes.items c.loop-number.invariant (search rules)
