use Rattle.fl_segments.proofs.AddLemmas.{left-parts}
use Rattle.fl_commands.proofs.WriterLemmas.{paths-next}
use Rattle.fl_commands.proofs.writers.paths_written.Goals as goal

pub loop-left-preserved : goal.loop-left-preserved
loop-left-preserved c =
    paths-next c.args.nodes.now _ _ _ (left-parts c.loop-left.left.now c.node-item.result c.node-item.is c.in-len1-up.len_at_least) _ c.path_written.ensures _ _ c.loop-left.invariant c.in_ok-add_copy.ensures
