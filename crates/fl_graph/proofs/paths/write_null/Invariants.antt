use Rattle.std.proofs.Common.{◌≡◌, drop}
use Rattle.std.specs.List.{list_any}
use Rattle.ps_world.specs.Places.{is_null_path}
use Rattle.fl_graph.specs.Paths.{paths_written}
use Rattle.fl_graph.proofs.paths.write_null.Given as goal

abbrev pub invariant-loop-node : goal.invariant-loop-node
invariant-loop-node l = list_any is_null_path (paths_written (drop l.node-index l.nodes)) ≡ list_any is_null_path (paths_written l.nodes)
