use Rattle.std.proofs.Common.{◌^◌, ◌-◌, rules}
use Rattle.pash.specs.Starts.{start_of_graph}
use Rattle.pash.proofs.StartLemmas.{started-missing, started-printed}
use Rattle.pash.proofs.starts.begin_exec.Goals as goal

pub returns-in-Ok-Some-clause-start : goal.returns-in-Ok-Some-clause-start
returns-in-Ok-Some-clause-start g c =
    started-printed (g.T.Tree.state c.args.tree.now) _ c.args.graph.now (2 ^ 64 - 1) c.as_slice.result.now _ _ c.in-Ok-Some.ensures.lent (search rules) (search rules)
    c.in-Ok-Some.ensures.loaded c.begin_graph.ensures.start

pub returns-in-Ok-None-clause-start : goal.returns-in-Ok-None-clause-start
returns-in-Ok-None-clause-start g c =
    started-missing (λ reads files. start_of_graph files (g.T.Tree.state c.args.tree.now).home) (g.T.Tree.state c.args.tree.now).held
    (g.T.Tree.state c.args.tree.now).home _ _ _ _ (search rules) c.in-Ok-None.ensures.loaded c.no_script.ensures.start
