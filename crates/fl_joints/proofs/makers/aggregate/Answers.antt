use Rattle.std.proofs.Common.{rules, ◌≡◌, true, ap, sym, ◌∙◌}
use Rattle.ut_args.specs.declared.invocations.Inv.TheVariants as inv
use Rattle.fl_graph.specs.declared.kinds.NodeKind.TheVariants as kind
use Rattle.fl_classes.specs.Kinds.{is_count}
use Rattle.fl_joints.specs.Joints.{is_joint}
use Rattle.fl_joints.proofs.SumLemmas.{grep-given, wc-given}
use Rattle.fl_joints.proofs.makers.aggregate.Goals as goal

pub returns-in-Wc : goal.returns-in-Wc
returns-in-Wc c =
    let whole : c.args.inv.now ≡ inv.Wc c.in-Wc.wc = search rules in
    search (rules, wc-given c.in-Wc.wc)

pub returns-in-Grep : goal.returns-in-Grep
returns-in-Grep c =
    let grep = c.in-Grep.field-0 in
    let whole : c.args.inv.now ≡ inv.Grep grep = search rules in
    let counts : is_count grep.args.report ≡ true = ap (λ it. is_joint (kind.Agg it)) (sym whole) ∙ c.requires.known in
    search (rules, grep-given grep counts)
