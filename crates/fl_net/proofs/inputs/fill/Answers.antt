use Rattle.std.proofs.Common.{rules, length}
use Rattle.fl_net.proofs.LoadLemmas.{front_more, front_ended, front_size}
use Rattle.fl_net.proofs.TurnLemmas.{on_ok_map}
use Rattle.fl_net.proofs.inputs.fill.Goals as goal

pub loop-left-preserved : goal.loop-left-preserved
loop-left-preserved c =
    front_more c.loop-left.wire c.push.new.self c.in_ok-bytes.bytes c.loop-left.left.now c.args.text.now (length c.as_slice.result.now) (search rules)
    (front_size c.loop-left.left.now c.in_ok-bytes.bytes c.as_slice.result.now (search rules) c.as_slice.ensures.bytes) c.as_slice.ensures.some c.loop-left.invariant

pub returns : goal.returns
returns c = on_ok_map c.push-2.result c.push-2.ensures.ok (λ pushed.
    front_ended c.loop-left.wire c.push-2.new.self c.loop-left.left.now c.args.text.now pushed (search rules) c.loop-left.invariant)
