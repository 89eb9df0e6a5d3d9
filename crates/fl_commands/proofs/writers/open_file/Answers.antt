use Rattle.fl_commands.proofs.WriterLemmas.{among-front, only-created, only-refused, out-begun}
use Rattle.fl_commands.proofs.writers.open_file.Goals as goal

pub returns-in-Ok-clause-out : goal.returns-in-Ok-clause-out
returns-in-Ok-clause-out g c = λ first count out. out-begun _ _ _ _ c.in-Ok.ensures.ok first count _ _ _ c.in_ok-writer.ensures.state out

pub returns-in-Ok-clause-kept : goal.returns-in-Ok-clause-kept
returns-in-Ok-clause-kept g c = only-created (g.T.Tree.state c.args.tree.now) _ c.args.path.now c.in_ok-writer.ensures.state

pub returns-in-Err-clause-kept : goal.returns-in-Err-clause-kept
returns-in-Err-clause-kept g c =
    only-refused (g.T.Tree.state c.args.tree.now) _ _ c.args.path.now _ _ c.in_ok-writer.ensures.state c.end_write.ensures.ok c.end_write.ensures.failed c.end_write.ensures.memory

pub returns-in_err-copy-clause-among : goal.returns-in_err-copy-clause-among
returns-in_err-copy-clause-among g c = among-front _ _

pub returns-in_err-writer-clause-among : goal.returns-in_err-writer-clause-among
returns-in_err-writer-clause-among g c = among-front _ _
