use Rattle.std.proofs.Common.{rules, ap, ◌∙◌, set}
use Rattle.fl_graph.specs.declared.graphs.Cell.{Cell}
use Rattle.fl_graph.specs.declared.kinds.NodeKind.{NodeKind}
use Rattle.fl_rewrites.specs.Numbering.{renamed}
use Rattle.fl_rewrites.specs.Inner.Tables.{looked_up}
use Rattle.fl_rewrites.proofs.TableLemmas.{changes-on}
use Rattle.fl_rewrites.proofs.numbers.renumber_all.Goals as goal

pub loop-node-preserved : goal.loop-node-preserved
loop-node-preserved c =
    ap (λ (new : Cell NodeKind). set c.loop-node.nodes.items c.loop-node.node new)
    (c.in_ok-renumber.ensures ∙ ap (renamed (looked_up c.args.places.now c.args.count)) c.index_mut.ensures.value)
    ∙ changes-on (renamed (looked_up c.args.places.now c.args.count)) c.args.nodes.now.items c.loop-node.nodes.items c.loop-node.node _ (search rules) c.loop-node.invariant
