use Rattle.std.proofs.Common.{◌≡◌, drop}
use Rattle.fl_graph.specs.Net.{has, gives}
use Rattle.fl_graph.proofs.edges.is_given.Given as goal

abbrev pub invariant-loop-node : goal.invariant-loop-node
invariant-loop-node l = has l.edge (gives (drop l.node-index l.nodes)) ≡ has l.edge (gives l.nodes)
