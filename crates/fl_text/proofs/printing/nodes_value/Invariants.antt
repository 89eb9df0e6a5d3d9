use Rattle.std.proofs.Common.{◌≡◌, true, map, take}
use Rattle.std.specs.List.{list_all}
use Rattle.serde_json.specs.View.{view}
use Rattle.fl_text.specs.Values.{is_held_node, node_value}
use Rattle.fl_text.proofs.printing.nodes_value.Given as goal

abbrev pub invariant-loop-node : goal.invariant-loop-node
invariant-loop-node l = record {
  values : map view l.values.items ≡ map node_value (take l.node-index l.nodes);
  held : list_all is_held_node (take l.node-index l.nodes) ≡ true;
}
