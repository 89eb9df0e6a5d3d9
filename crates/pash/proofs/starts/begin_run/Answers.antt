use Rattle.std.proofs.Common.{rules}
use Rattle.pash.specs.Starts.{start_of_script}
use Rattle.pash.specs.Words.{as_run}
use Rattle.pash.proofs.StartLemmas.{started-loaded, started-missing}
use Rattle.pash.proofs.starts.begin_run.Goals as goal

pub returns-in-Ok-Some-clause-start : goal.returns-in-Ok-Some-clause-start
returns-in-Ok-Some-clause-start g c =
    started-loaded (g.T.Tree.state c.args.tree.now).held (g.T.Tree.state c.args.tree.now).home (as_run c.args.command.now) c.as_slice.result.now _ _
    (search rules) c.in-Ok-Some.ensures.loaded c.begin_text.ensures.start

pub returns-in-Ok-None-clause-start : goal.returns-in-Ok-None-clause-start
returns-in-Ok-None-clause-start g c =
    started-missing (λ reads files. start_of_script reads (as_run c.args.command.now)) (g.T.Tree.state c.args.tree.now).held
    (g.T.Tree.state c.args.tree.now).home _ _ _ _ (search rules) c.in-Ok-None.ensures.loaded c.no_script.ensures.start

pub returns-in-Ok-Some-clause-ready : goal.returns-in-Ok-Some-clause-ready
returns-in-Ok-Some-clause-ready g c = c.begin_text.ensures.ready _
