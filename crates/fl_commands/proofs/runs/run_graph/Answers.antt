use Rattle.std.proofs.Common.{◌≡◌, ◌∙◌, Err, IfSome, List, length, subst, sym, ap}
use Rattle.ps_world.specs.Paths.{Components}
use Rattle.fl_graph.specs.Paths.{paths_read, paths_written}
use Rattle.fl_graph.specs.declared.graphs.Cell.{Cell}
use Rattle.fl_graph.specs.declared.kinds.NodeKind.{NodeKind}
use Rattle.fl_classes.specs.Kinds.{are_run}
use Rattle.fl_commands.specs.Inner.Overs.{Lends}
use Rattle.fl_commands.specs.Inner.Writing.{AreApart, Returns}
use Rattle.fl_commands.specs.Runs.{Runs}
use Rattle.fl_commands.specs.Writers.{AreFilesAt, ChangesOnly}
use Rattle.fl_commands.proofs.RunLemmas.{none-opened, ran-so, readers-back, runs-all, writers-back}
use Rattle.fl_commands.proofs.WriterLemmas.{apart-of}
use Rattle.fl_commands.proofs.runs.run_graph.Goals as goal

pub lend-requires-clause-there : goal.lend-requires-clause-there
lend-requires-clause-there g c κs within =
    subst (λ (it : List (Cell NodeKind)). IfSome (g.T.Tree.state c.args.tree.now).held (λ files. AreFilesAt files (paths_read it))) (sym c.as_slice.ensures) c.requires.there

pub lend-requires-clause-begun : goal.lend-requires-clause-begun
lend-requires-clause-begun g c κs within =
    subst (λ (it : List (Cell NodeKind)). IfSome (g.T.Tree.state c.args.tree.now).held (λ files. AreFilesAt files (paths_written it))) (sym c.as_slice.ensures) c.requires.begun

pub lend-requires-clause-apart : goal.lend-requires-clause-apart
lend-requires-clause-apart g c κs within =
    subst (λ (it : List (Cell NodeKind)). AreApart (paths_written it)) (sym c.as_slice.ensures) (apart-of _ c.requires.valid.paths.once)

pub returns-in-Err : goal.returns-in-Err
returns-in-Err g c =
    subst (Runs _ _ _ _ _ _ _ _ _ _ _) (sym c.of_tree.ensures)
    (none-opened _ _ _ _ _ _ _ _ _ _ c.in-Err.error c.in-Err.ensures.back (λ none. c.in-Err.ensures.held (ap paths_written c.as_slice.ensures ∙ none))
    (subst (λ (it : List (Cell NodeKind)). ChangesOnly (paths_written it) (g.T.Tree.state c.args.tree.now).held (g.T.Tree.state c.lend.new.tree).held) c.as_slice.ensures c.in-Err.ensures.kept)
    c.lend.ensures.later
    (λ same. c.in-Err.ensures.failed (ap Err same)))

pub run_over-came-requires-clause-kinds : goal.run_over-came-requires-clause-kinds
run_over-came-requires-clause-kinds g c κs within = runs-all c.args.graph.now.nodes c.requires.valid.classes

pub run_over-came-requires-clause-reads : goal.run_over-came-requires-clause-reads
run_over-came-requires-clause-reads g c κs within =
    c.in-Ok.ensures.lends.opens.count ∙ ap (λ (it : List (Cell NodeKind)). length (paths_read it)) c.as_slice.ensures

pub run_over-came-requires-clause-writes : goal.run_over-came-requires-clause-writes
run_over-came-requires-clause-writes g c κs within =
    c.in-Ok.ensures.lends.begins.count ∙ ap (λ (it : List (Cell NodeKind)). length (paths_written it)) c.as_slice.ensures

pub end_writers-returned-requires-clause-paths : goal.end_writers-returned-requires-clause-paths
end_writers-returned-requires-clause-paths g c κs within =
    writers-back g.T.Reader.Source.left g.I.Source.left g.T.Writer.Sink.taken g.O.Sink.taken g.T.Reader.Source.faults g.T.Writer.Sink.faults g.I.Source.faults g.O.Sink.faults
    c.args.graph.now _ _ _ _
    (subst (λ (it : List (Cell NodeKind)). Lends g.T.Reader.Source.left g.T.Reader.Source.faults g.T.Writer.Sink.taken g.T.Writer.Sink.faults (paths_read it) (paths_written it)
    (g.T.Tree.state c.args.tree.now) (g.T.Tree.state c.lend.new.tree) c.in-Ok.lent.readers.items c.in-Ok.lent.writers.items) c.as_slice.ensures c.in-Ok.ensures.lends)
    _ _ _ _ _ _ c.run_over-came.ensures
    ∙ sym (ap (λ (it : List Components). length it) c.in-Ok.ensures.written ∙ ap (λ (it : List (Cell NodeKind)). length (paths_written it)) c.as_slice.ensures)

pub give_back-requires-clause-paths : goal.give_back-requires-clause-paths
give_back-requires-clause-paths g c κs within =
    c.in-Ok.ensures.paths
    ∙ sym (readers-back g.T.Reader.Source.left g.I.Source.left g.T.Writer.Sink.taken g.O.Sink.taken g.T.Reader.Source.faults g.T.Writer.Sink.faults g.I.Source.faults g.O.Sink.faults
    c.args.graph.now _ _ _ _
    (subst (λ (it : List (Cell NodeKind)). Lends g.T.Reader.Source.left g.T.Reader.Source.faults g.T.Writer.Sink.taken g.T.Writer.Sink.faults (paths_read it) (paths_written it)
    (g.T.Tree.state c.args.tree.now) (g.T.Tree.state c.lend.new.tree) c.in-Ok.lent.readers.items c.in-Ok.lent.writers.items) c.as_slice.ensures c.in-Ok.ensures.lends)
    _ _ _ _ _ _ c.run_over-came.ensures)

pub returns : goal.returns
returns g c =
    subst (Runs _ _ _ _ _ _ _ _ _ _ _) (sym c.how_ended.ensures)
    (ran-so g.T.Reader.Source.left g.I.Source.left g.T.Writer.Sink.taken g.O.Sink.taken g.T.Reader.Source.faults g.T.Writer.Sink.faults g.I.Source.faults g.O.Sink.faults
    c.args.graph.now _ _ _ _
    (subst (λ (it : List (Cell NodeKind)). Lends g.T.Reader.Source.left g.T.Reader.Source.faults g.T.Writer.Sink.taken g.T.Writer.Sink.faults (paths_read it) (paths_written it)
    (g.T.Tree.state c.args.tree.now) (g.T.Tree.state c.lend.new.tree) c.in-Ok.lent.readers.items c.in-Ok.lent.writers.items) c.as_slice.ensures c.in-Ok.ensures.lends)
    _ _ _ _ _ _ c.run_over-came.ensures
    (apart-of _ c.requires.valid.paths.once) _ _ _ _ _ _ c.in-Ok.ensures.ok _
    (subst (λ (it : List Components). Returns g.T.Writer.Sink.taken g.T.Writer.Sink.faults it c.run_over-came.result.ends.writers.items (g.T.Tree.state c.lend.new.tree) (g.T.Tree.state c.end_writers-returned.new.tree)
    (g.T.Tree.faults c.lend.new.tree) (g.T.Tree.faults c.end_writers-returned.new.tree) c.end_writers-returned.result)
    (c.in-Ok.ensures.written ∙ ap paths_written c.as_slice.ensures) c.end_writers-returned.ensures)
    c.give_back.ensures.out c.give_back.ensures.held c.give_back.ensures.later c.give_back.ensures.calm c.give_back.ensures.cause)
