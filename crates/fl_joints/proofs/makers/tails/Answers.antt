use Rattle.std.proofs.Common.{◌∙◌, false}
use Rattle.ut_args.specs.declared.invocations.Inv.TheVariants as inv
use Rattle.fl_machines.specs.contracts.any_stream.AnyStreamStream.TheImpl.{ghosts}
use Rattle.fl_joints.specs.Joints.{joined_by}
use Rattle.fl_joints.proofs.AggregateLemmas.{gathered-begins, tails-joined}
use Rattle.fl_joints.proofs.makers.tails.Goals as goal

pub returns-in-Ok : goal.returns-in-Ok
returns-in-Ok c =
    let made = c.new-in-Ok.result in
    gathered-begins (inv.Tail c.args.tail.now) c.args.ins made.ins _ (ghosts.due made.stream) made.close made.within_line made.putting made.broken made.at made.waiting c.requires.ports
    c.new-in-Ok.ensures.ins c.new-in-Ok.ensures.at c.new-in-Ok.ensures.waiting c.new-in-Ok.ensures.within_line c.new-in-Ok.ensures.putting c.new-in-Ok.ensures.broken
    (λ texts.
    (λ i. ghosts.due (c.new-in-Ok.ensures.stream i) (joined_by (c.new-in-Ok.ensures.close i) false texts 0 c.args.ins)) ∙ c.in-Ok.ensures.due (joined_by false false texts 0 c.args.ins)
    ∙ tails-joined texts c.args.tail.now c.requires.built c.requires.from_end c.args.ins c.requires.ports)
