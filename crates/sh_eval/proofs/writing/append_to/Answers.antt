use Rattle.std.proofs.Common.{rules}
use Rattle.fl_commands.proofs.WriterLemmas.{only-refused}
use Rattle.sh_eval.proofs.WritingLemmas.{held-filled-where, given-back}
use Rattle.sh_eval.proofs.writing.append_to.Goals as goal

pub returns-in-Ok-clause-held : goal.returns-in-Ok-clause-held
returns-in-Ok-clause-held g c =
    held-filled-where (g.T.Tree.state c.args.tree.now) _ _ c.args.path.now c.args.bytes.now _ _ c.end_write.result (search rules) (search rules) c.in-Ok.ensures.ok c.end_write.ensures.ok

pub returns-in-Ok-clause-lent : goal.returns-in-Ok-clause-lent
returns-in-Ok-clause-lent g c =
    given-back (g.T.Tree.state c.args.tree.now) _ _ c.args.path.now _ c.end_write.result (search rules) c.end_write.ensures.ok c.end_write.ensures.failed c.end_write.ensures.memory

pub returns-in-Err-clause-lent : goal.returns-in-Err-clause-lent
returns-in-Err-clause-lent g c =
    given-back (g.T.Tree.state c.args.tree.now) _ _ c.args.path.now _ c.end_write-in-Err.result (search rules) c.end_write-in-Err.ensures.ok c.end_write-in-Err.ensures.failed c.end_write-in-Err.ensures.memory

pub returns-in-Ok-clause-kept : goal.returns-in-Ok-clause-kept
returns-in-Ok-clause-kept g c =
    only-refused (g.T.Tree.state c.args.tree.now) _ _ c.args.path.now _ c.end_write.result (search rules) c.end_write.ensures.ok c.end_write.ensures.failed c.end_write.ensures.memory

pub returns-in-Err-clause-kept : goal.returns-in-Err-clause-kept
returns-in-Err-clause-kept g c =
    only-refused (g.T.Tree.state c.args.tree.now) _ _ c.args.path.now _ c.end_write-in-Err.result (search rules) c.end_write-in-Err.ensures.ok c.end_write-in-Err.ensures.failed c.end_write-in-Err.ensures.memory
