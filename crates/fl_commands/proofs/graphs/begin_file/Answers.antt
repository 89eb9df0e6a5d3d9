use Rattle.fl_commands.proofs.GraphLemmas.{held-begun}
use Rattle.std.proofs.Common.{ap}
use Rattle.ps_world.specs.TreeState.{TreeState}
use Rattle.fl_commands.proofs.WriterLemmas.{only-refused, only-same}
use Rattle.fl_commands.proofs.graphs.begin_file.Goals as goal

pub returns-clause-held : goal.returns-clause-held
returns-clause-held g c =
    held-begun (g.T.Tree.state c.args.tree.now) _ _ c.args.path.now c.args.mode _ c.end_write.result c.in_ok-writer.ensures.writer c.in_ok-writer.ensures.state c.end_write.ensures.ok

pub returns-in_err-writer-clause-kept : goal.returns-in_err-writer-clause-kept
returns-in_err-writer-clause-kept g c = only-same (ap (λ (state : TreeState). state.held) c.in_err-writer.ensures.state)

pub returns-clause-kept : goal.returns-clause-kept
returns-clause-kept g c =
    only-refused (g.T.Tree.state c.args.tree.now) _ _ c.args.path.now _ c.end_write.result c.in_ok-writer.ensures.state c.end_write.ensures.ok c.end_write.ensures.failed c.end_write.ensures.memory
