use Rattle.std.proofs.Common.{◌≡◌, ◌+◌, min, List, ◌∷◌, drop, ap, sym, subst, ◌∙◌}
use Rattle.std.proofs.lemmas.List.{drop_more}
use Rattle.fl_graph.specs.Net.{count, takes}
use Rattle.fl_graph.specs.declared.graphs.Cell.{Cell}
use Rattle.fl_graph.specs.declared.kinds.NodeKind.{NodeKind}
use Rattle.fl_graph.proofs.ListLemmas.{count_on}
use Rattle.fl_graph.proofs.edges.times_taken.Goals as goal

pub loop-node-preserved : goal.loop-node-preserved
loop-node-preserved c =
    let nodes = c.args.nodes.now in
    let rest = drop (c.loop-node.node-index + 1) nodes in
    let total = min 2 (count c.args.edge (takes nodes)) in
    let next = drop_more nodes c.loop-node.node-index c.node-item.result c.loop-node-test.true ∙ ap (λ (node : Cell NodeKind). node ∷ rest) (sym c.node-item.is) in
    let was = subst (λ (left : List (Cell NodeKind)). min 2 (c.loop-node.times + count c.args.edge (takes left)) ≡ total) next c.loop-node.invariant.1 in
    let is = c.times_in-times.ensures ∙ ap (λ (part : List _). min 2 (c.loop-node.times + count c.args.edge part)) c.as_slice.ensures in
    count_on c.args.edge c.node-item.result.ins (takes rest) c.loop-node.times c.times_in-times.result total c.loop-node.invariant.0 was is
