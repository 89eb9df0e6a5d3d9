use Rattle.std.proofs.Common.{◌≡◌, ◌≤◌, ◌+◌, min, drop}
use Rattle.fl_graph.specs.Net.{count}
use Rattle.fl_graph.proofs.edges.times_in.Given as goal

abbrev pub invariant-loop-other : goal.invariant-loop-other
invariant-loop-other l = (l.times ≤ 2) × (min 2 (l.times + count l.edge (drop l.other-index l.edges)) ≡ min 2 (l.before + count l.edge l.edges))
