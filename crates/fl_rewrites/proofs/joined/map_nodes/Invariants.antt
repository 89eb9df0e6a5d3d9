use Rattle.std.proofs.Common.{◌≡◌, ◌+◌, ◌++◌, drop}
use Rattle.fl_rewrites.specs.Joined.{map_cells}
use Rattle.fl_rewrites.proofs.joined.map_nodes.Given as goal

abbrev pub invariant-loop-edge : goal.invariant-loop-edge
invariant-loop-edge l = (l.out ≡ l.next + l.edge-index) × (l.nodes.items ++ map_cells l.inv l.stage l.out (drop l.edge-index l.edges) ≡ map_cells l.inv l.stage l.next l.edges)
