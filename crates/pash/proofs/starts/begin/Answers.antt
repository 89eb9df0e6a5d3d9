use Rattle.std.proofs.Common.{◌≡◌, Some, rules}
use Rattle.pash.specs.Words.{as_run, command_of, exec, run, texts, trial}
use Rattle.pash.proofs.StartLemmas.{started-command, started-told}
use Rattle.pash.proofs.starts.begin.Goals as goal

pub returns-in-Some-Run-clause-start : goal.returns-in-Some-Run-clause-start
returns-in-Some-Run-clause-start g c =
    let asked : command_of (texts c.args.words.now) ≡ Some (run (as_run c.in-Some-Run.command)) = search rules in
    started-command (g.T.Tree.state c.args.tree.now).held (g.T.Tree.state c.args.tree.now).home _ (run (as_run c.in-Some-Run.command)) _ asked
    c.begin_run.ensures.start

pub returns-in-Some-Exec-clause-start : goal.returns-in-Some-Exec-clause-start
returns-in-Some-Exec-clause-start g c =
    let asked : command_of (texts c.args.words.now) ≡ Some (exec c.in-Some-Exec.graph.now) = search rules in
    started-command (g.T.Tree.state c.args.tree.now).held (g.T.Tree.state c.args.tree.now).home _ (exec c.in-Some-Exec.graph.now) _ asked
    c.begin_exec.ensures.start

pub returns-in-Some-Trial-clause-start : goal.returns-in-Some-Trial-clause-start
returns-in-Some-Trial-clause-start g c =
    let asked : command_of (texts c.args.words.now) ≡ Some (trial c.in-Some-Trial.sample (as_run c.in-Some-Trial.command)) = search rules in
    started-told (g.T.Tree.state c.args.tree.now).held (g.T.Tree.state c.args.tree.now).home _ c.in-Some-Trial.sample (as_run c.in-Some-Trial.command) _ asked
    c.begin_trial.ensures.start
