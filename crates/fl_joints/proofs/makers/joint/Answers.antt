use Rattle.std.proofs.Common.{rules, ◌≡◌, ◌∙◌, ap, sym}
use Rattle.fl_graph.specs.Kinds.{runs_what_is_built}
use Rattle.fl_graph.specs.declared.kinds.NodeKind.TheVariants as kind
use Rattle.fl_joints.specs.Joints.{is_joint}
use Rattle.fl_joints.proofs.MakerLemmas.{agg-begins, agg-ins}
use Rattle.fl_joints.proofs.makers.joint.Goals as goal

pub aggregate-requires-clause-known : goal.aggregate-requires-clause-known
aggregate-requires-clause-known c =
    let whole : c.args.kind.now ≡ kind.Agg c.in-Agg.inv = search rules in
    ap is_joint (sym whole) ∙ c.requires.known

pub aggregate-requires-clause-ports : goal.aggregate-requires-clause-ports
aggregate-requires-clause-ports c =
    let whole : c.args.kind.now ≡ kind.Agg c.in-Agg.inv = search rules in
    agg-ins c.args.kind.now c.in-Agg.inv c.args.ins c.args.outs whole c.requires.ports

pub aggregate-requires-clause-built : goal.aggregate-requires-clause-built
aggregate-requires-clause-built c =
    let whole : c.args.kind.now ≡ kind.Agg c.in-Agg.inv = search rules in
    ap runs_what_is_built (sym whole) ∙ c.requires.built

pub returns-in-Ok : goal.returns-in-Ok
returns-in-Ok c =
    let whole : c.args.kind.now ≡ kind.Agg c.in-Agg.inv = search rules in
    agg-begins c.args.kind.now c.in-Agg.inv c.args.ins c.args.outs whole c.requires.ports _ c.in-Ok.ensures
