use Rattle.std.proofs.Common.{◌≡◌, ◌≤◌, ◌+◌, min, drop}
use Rattle.fl_graph.specs.Net.{count, takes}
use Rattle.fl_graph.proofs.edges.times_taken.Given as goal

abbrev pub invariant-loop-node : goal.invariant-loop-node
invariant-loop-node l = (l.times ≤ 2) × (min 2 (l.times + count l.edge (takes (drop l.node-index l.nodes))) ≡ min 2 (count l.edge (takes l.nodes)))
