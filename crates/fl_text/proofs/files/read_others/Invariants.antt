use Rattle.std.proofs.Common.{◌≡◌, drop}
use Rattle.std.specs.List.{list_all}
use Rattle.fl_graph.specs.Paths.{paths_read}
use Rattle.fl_text.specs.Inner.Writings.{is_kept, is_new}
use Rattle.fl_text.proofs.files.read_others.Given as goal

abbrev pub invariant-loop-node : goal.invariant-loop-node
invariant-loop-node l = list_all (is_new (is_kept l.files)) (paths_read (drop l.node-index l.nodes)) ≡ list_all (is_new (is_kept l.files)) (paths_read l.nodes)
