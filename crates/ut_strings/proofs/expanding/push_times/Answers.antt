use Rattle.std.proofs.Common.{rules}
use Rattle.ut_strings.proofs.PassingLemmas.{again_start, again_step}
use Rattle.ut_strings.proofs.expanding.push_times.Goals as goal

pub loop-number-init : goal.loop-number-init
loop-number-init c = again_start c.args.byte c.args.bytes.now.items

pub loop-number-preserved : goal.loop-number-preserved
loop-number-preserved c =
    again_step c.args.byte c.loop-number.number c.args.bytes.now.items _ c.push.new.self.items c.loop-number.invariant (search rules)
