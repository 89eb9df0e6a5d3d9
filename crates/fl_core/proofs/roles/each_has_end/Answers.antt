use Rattle.std.proofs.Common.{rules, ap, sym, ◌∙◌}
use Rattle.fl_graph.specs.declared.graphs.Cell.{Cell}
use Rattle.fl_graph.specs.declared.kinds.NodeKind.{NodeKind}
use Rattle.fl_core.specs.Roles.{needs_no_more}
use Rattle.fl_core.proofs.EndListLemmas.{ends_all, ends_below, lacks_end}
use Rattle.fl_core.proofs.roles.each_has_end.Goals as goal

pub returns-then-not-has_end-clause-no : goal.returns-then-not-has_end-clause-no
returns-then-not-has_end-clause-no g c = λ has.
    absurd (lacks_end c.args.nodes.now c.args.ends.now c.loop-node.node c.index-nodes-node.result (search rules) (search rules)
    (ap (λ (it : Cell NodeKind). needs_no_more it.kind c.loop-node.node c.args.ends.now) c.index-nodes-node.is ∙ sym c.has_end.ensures ∙ c.if-not-has_end.true) has)

pub loop-node-preserved : goal.loop-node-preserved
loop-node-preserved g c =
    ends_below c.args.nodes.now c.args.ends.now c.loop-node.node c.index-nodes-node.result (search rules) (search rules)
    (ap (λ (it : Cell NodeKind). needs_no_more it.kind c.loop-node.node c.args.ends.now) c.index-nodes-node.is ∙ sym c.has_end.ensures ∙ c.if-not-has_end.false) c.loop-node.invariant

pub returns-clause-yes : goal.returns-clause-yes
returns-clause-yes g c = λ yes. ends_all c.args.nodes.now c.args.ends.now (search rules)
