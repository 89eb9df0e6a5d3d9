use Rattle.std.proofs.Common.{◌≡◌, drop}
use Rattle.fl_graph.specs.Paths.{paths_written}
use Rattle.fl_text.specs.Inner.Writings.{are_new, is_kept, with_paths}
use Rattle.fl_text.proofs.files.keep_all.Given as goal

abbrev pub invariant-loop-node : goal.invariant-loop-node
invariant-loop-node l =
    (are_new (is_kept l.files) (paths_written (drop l.node-index l.nodes)) ≡ are_new (is_kept l.initial.files) (paths_written l.nodes))
    × (with_paths (paths_written (drop l.node-index l.nodes)) (is_kept l.files) ≡ with_paths (paths_written l.nodes) (is_kept l.initial.files))
