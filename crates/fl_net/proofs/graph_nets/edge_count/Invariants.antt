use Rattle.std.proofs.Common.{◌≡◌, ◌+◌, length, drop}
use Rattle.fl_graph.specs.Net.{gives}
use Rattle.fl_net.proofs.graph_nets.edge_count.Given as goal

abbrev pub invariant-loop-node : goal.invariant-loop-node
invariant-loop-node l = l.count + length (gives (drop l.node-index l.nodes)) ≡ length (gives l.nodes)
