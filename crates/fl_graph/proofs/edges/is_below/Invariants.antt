use Rattle.std.proofs.Common.{◌≡◌, length, drop}
use Rattle.std.specs.Prelude.{nat_lt}
use Rattle.fl_graph.specs.Net.{gives}
use Rattle.fl_graph.proofs.edges.is_below.Given as goal

abbrev pub invariant-loop-node : goal.invariant-loop-node
invariant-loop-node l = nat_lt l.left (length (gives (drop l.node-index l.nodes))) ≡ nat_lt l.edge (length (gives l.nodes))
