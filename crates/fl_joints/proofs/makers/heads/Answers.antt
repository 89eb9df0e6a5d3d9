use Rattle.std.proofs.Common.{◌∙◌, false}
use Rattle.ut_args.specs.declared.invocations.Inv.TheVariants as inv
use Rattle.fl_machines.specs.contracts.any_stream.AnyStreamStream.TheImpl.{ghosts}
use Rattle.fl_joints.specs.Joints.{joined_by}
use Rattle.fl_joints.proofs.AggregateLemmas.{gathered-begins, heads-joined}
use Rattle.fl_joints.proofs.makers.heads.Goals as goal

pub returns : goal.returns
returns c =
    let made = c.new.result in
    gathered-begins (inv.Head c.args.head.now) c.args.ins made.ins _ (ghosts.due made.stream) made.close made.within_line made.putting made.broken made.at made.waiting c.requires.ports
    c.new.ensures.ins c.new.ensures.at c.new.ensures.waiting c.new.ensures.within_line c.new.ensures.putting c.new.ensures.broken
    (λ texts.
    (λ i. ghosts.due (c.new.ensures.stream i) (joined_by (c.new.ensures.close i) false texts 0 c.args.ins)) ∙ c.of.ensures.due (joined_by false false texts 0 c.args.ins)
    ∙ heads-joined texts c.args.head.now c.args.ins c.requires.ports)
