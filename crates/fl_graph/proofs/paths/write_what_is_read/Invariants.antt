use Rattle.std.proofs.Common.{◌≡◌, drop}
use Rattle.std.specs.List.{list_any}
use Rattle.fl_graph.specs.Paths.{is_among, paths_read, paths_written}
use Rattle.fl_graph.proofs.paths.write_what_is_read.Given as goal

abbrev pub invariant-loop-node : goal.invariant-loop-node
invariant-loop-node l = list_any (is_among (paths_read l.nodes)) (paths_written (drop l.node-index l.nodes)) ≡ list_any (is_among (paths_read l.nodes)) (paths_written l.nodes)
