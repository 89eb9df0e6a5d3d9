use Rattle.std.proofs.Common.{◌≡◌, ◌++◌, drop}
use Rattle.fl_graph.specs.Net.{gives}
use Rattle.fl_text.proofs.wiring.all_outs.Given as goal

abbrev pub invariant-loop-node : goal.invariant-loop-node
invariant-loop-node l = l.edges.items ++ gives (drop l.node-index l.nodes) ≡ gives l.nodes
