use Rattle.std.proofs.Common.{◌≡◌, drop}
use Rattle.fl_graph.specs.Paths.{is_among, paths_read}
use Rattle.fl_graph.proofs.paths.is_read.Given as goal

abbrev pub invariant-loop-node : goal.invariant-loop-node
invariant-loop-node l = is_among (paths_read (drop l.node-index l.nodes)) l.path ≡ is_among (paths_read l.nodes) l.path
