use Rattle.std.proofs.Common.{◌≡◌, ◌++◌, drop}
use Rattle.fl_graph.specs.Net.{takes}
use Rattle.fl_text.proofs.wiring.all_ins.Given as goal

abbrev pub invariant-loop-node : goal.invariant-loop-node
invariant-loop-node l = l.edges.items ++ takes (drop l.node-index l.nodes) ≡ takes l.nodes
