use Rattle.std.proofs.Common.{◌≡◌, length}
use Rattle.std.specs.Vec.Iter.{into_iter_items}
use Rattle.serde_json.specs.View.{items_view}
use Rattle.fl_text.specs.Inner.Drafts.{each_of, node_in}
use Rattle.fl_text.proofs.ReadLemmas.{before}
use Rattle.fl_text.proofs.nodes.each_node.Given as goal

abbrev pub invariant-loop-value : goal.invariant-loop-value
invariant-loop-value l =
    each_of node_in (items_view l.fn.values.items) ≡ before l.nodes.items (each_of node_in (items_view (into_iter_items l.left)))

abbrev pub decreases-loop-value : goal.decreases-loop-value
decreases-loop-value l = length (into_iter_items l.left)
