use Rattle.std.proofs.Common.{Option, IfSome, List, subst, sym}
use Rattle.ps_world.specs.Paths.{Components}
use Rattle.fl_commands.specs.Writers.{AreFilesAt}
use Rattle.fl_commands.proofs.RunLemmas.{graph-so, nothing-ran, read-there, stages-ran}
use Rattle.fl_commands.proofs.runs.run_segment.Goals as goal

pub returns-in_default : goal.returns-in_default
returns-in_default g c = nothing-ran _ _ _ _ _ _

pub run_graph-requires-clause-there : goal.run_graph-requires-clause-there
run_graph-requires-clause-there g c κs within = read-there _ c.args.segment.now _ c.in-Ok.ensures.reads c.requires.there

pub run_graph-requires-clause-begun : goal.run_graph-requires-clause-begun
run_graph-requires-clause-begun g c κs within =
    subst (λ (it : List Components). IfSome (g.T.Tree.state c.args.tree.now).held (λ files. AreFilesAt files it)) (sym c.in-Ok.ensures.writes) c.requires.begun

pub returns : goal.returns
returns g c =
    stages-ran c.width.result c.args.segment.now c.args.from.now c.in-Ok.graph
    (graph-so _ _ _ _ c.in-Ok.ensures.valid c.in-Ok.ensures.kinds c.in-Ok.ensures.reads c.in-Ok.ensures.writes c.in-Ok.ensures.input c.in-Ok.ensures.outcome c.in-Ok.ensures.used)
    _ c.width.ensures _ c.requires.marks _ _ _ _ _ _ _ _ _ c.run_graph.ensures
