use Rattle.std.proofs.Common.{◌≡◌, ◌∙◌, Err, List, IfSome, ap, subst, sym}
use Rattle.std.specs.Option.{option_map}
use Rattle.ps_world.proofs.TreeStateLemmas.{balanced-none}
use Rattle.fl_graph.specs.Paths.{paths_written}
use Rattle.fl_graph.specs.declared.graphs.Cell.{Cell}
use Rattle.fl_graph.specs.declared.kinds.NodeKind.{NodeKind}
use Rattle.fl_commands.specs.Graphs.{Executes, files_begun}
use Rattle.fl_commands.specs.Inner.Begun.{AllCanBegin}
use Rattle.fl_commands.specs.Writers.{ChangesOnly}
use Rattle.fl_commands.proofs.GraphLemmas.{all-can-begin, executed, not-executed, read-begun, written-begun}
use Rattle.fl_commands.proofs.graphs.execute.Goals as goal

pub begin_files-requires-clause-made : goal.begin_files-requires-clause-made
begin_files-requires-clause-made g c κs within =
    subst (λ (it : List (Cell NodeKind)). IfSome (g.T.Tree.state c.args.tree.now).held (λ files. AllCanBegin files it)) (sym c.as_slice.ensures)
    (all-can-begin c.args.graph.now c.requires.valid.paths _ _ c.requires.whole c.requires.there)

pub run_graph-requires-clause-there : goal.run_graph-requires-clause-there
run_graph-requires-clause-there g c κs within =
    read-begun c.args.graph.now c.requires.valid.paths (g.T.Tree.state c.args.tree.now).held _ (g.T.Tree.state c.args.tree.now).home
    (c.in-Ok.ensures.held ∙ ap (λ (it : List (Cell NodeKind)). option_map (files_begun it) (g.T.Tree.state c.args.tree.now).held) c.as_slice.ensures) c.requires.whole c.requires.there

pub run_graph-requires-clause-begun : goal.run_graph-requires-clause-begun
run_graph-requires-clause-begun g c κs within =
    written-begun c.args.graph.now c.requires.valid.paths (g.T.Tree.state c.args.tree.now).held _
    (c.in-Ok.ensures.held ∙ ap (λ (it : List (Cell NodeKind)). option_map (files_begun it) (g.T.Tree.state c.args.tree.now).held) c.as_slice.ensures)

pub returns-in-Ok : goal.returns-in-Ok
returns-in-Ok g c =
    executed c.args.graph.now c.requires.valid.paths (g.T.Tree.state c.args.tree.now) (g.T.Tree.state c.begin_files.new.tree) _ _ _ _ _ _ _ _ _ _ _ _ _ c.requires.whole
    (c.in-Ok.ensures.held ∙ ap (λ (it : List (Cell NodeKind)). option_map (files_begun it) (g.T.Tree.state c.args.tree.now).held) c.as_slice.ensures)
    (c.begin_files.ensures.lent _ (balanced-none _)) c.in-Ok.ensures.ok
    (subst (λ (it : List (Cell NodeKind)). ChangesOnly (paths_written it) (g.T.Tree.state c.args.tree.now).held (g.T.Tree.state c.begin_files.new.tree).held) c.as_slice.ensures c.begin_files.ensures.kept)
    c.run_graph.ensures

pub returns-in-Err : goal.returns-in-Err
returns-in-Err g c =
    subst (Executes _ _ _ _ _ _ _ _ _ _ _) (sym c.of_tree.ensures)
    (not-executed c.args.graph.now c.requires.valid.paths _ _ _ _ _ _ _ _ _ c.in-Err.error
    (subst (λ (it : List (Cell NodeKind)). ChangesOnly (paths_written it) (g.T.Tree.state c.args.tree.now).held (g.T.Tree.state c.begin_files.new.tree).held) c.as_slice.ensures c.begin_files.ensures.kept)
    (c.begin_files.ensures.lent _ (balanced-none _)) c.begin_files.ensures.later
    (λ same. c.begin_files.ensures.failed (c.in-Err.is ∙ ap Err same)))
