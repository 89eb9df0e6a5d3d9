use Rattle.std.proofs.Common.{◌≡◌, drop}
use Rattle.std.specs.List.{list_any}
use Rattle.ps_world.specs.Places.{is_null_path}
use Rattle.fl_graph.specs.Paths.{paths_read}
use Rattle.fl_graph.proofs.paths.read_null.Given as goal

abbrev pub invariant-loop-node : goal.invariant-loop-node
invariant-loop-node l = list_any is_null_path (paths_read (drop l.node-index l.nodes)) ≡ list_any is_null_path (paths_read l.nodes)
