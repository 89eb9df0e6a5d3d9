use Rattle.fl_commands.proofs.WriterLemmas.{only-refused}
use Rattle.sh_eval.proofs.RedirectionLemmas.{held-begun}
use Rattle.sh_eval.proofs.files.begin_file.Goals as goal

pub returns-clause-held : goal.returns-clause-held
returns-clause-held g c =
    held-begun (g.T.Tree.state c.args.tree.now) _ _ c.args.anew c.args.path.now c.mode_of.result _ c.end_write.result c.mode_of.ensures c.in_ok-writer.ensures.writer c.in_ok-writer.ensures.state c.end_write.ensures.ok

pub returns-clause-kept : goal.returns-clause-kept
returns-clause-kept g c =
    only-refused (g.T.Tree.state c.args.tree.now) _ _ c.args.path.now _ c.end_write.result c.in_ok-writer.ensures.state c.end_write.ensures.ok c.end_write.ensures.failed c.end_write.ensures.memory
