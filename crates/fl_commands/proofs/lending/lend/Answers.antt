use Rattle.std.proofs.Common.{◌∙◌, List, Option, IfSome, subst, sym}
use Rattle.ps_world.specs.Files.{Files}
use Rattle.ps_world.specs.Paths.{Components}
use Rattle.fl_graph.specs.Paths.{paths_written}
use Rattle.fl_commands.specs.Inner.Writing.{AreApart, Begins}
use Rattle.fl_commands.specs.Writers.{AreFilesAt, ChangesOnly}
use Rattle.fl_commands.proofs.WriterLemmas.{only-more, only-same}
use Rattle.fl_commands.proofs.lending.lend.Goals as goal

pub open_writers-requires-clause-there : goal.open_writers-requires-clause-there
open_writers-requires-clause-there g c κs within =
    subst (λ (it : List Components). IfSome (g.T.Tree.state c.open_files.new.tree).held (λ files. AreFilesAt files it)) (sym (c.as_slice.ensures.value ∙ c.in_ok-written.ensures))
    (subst (λ (it : Option Files). IfSome it (λ files. AreFilesAt files (paths_written c.args.nodes.now))) (sym c.in_ok-opened.ensures.held) c.requires.begun)

pub open_writers-requires-clause-apart : goal.open_writers-requires-clause-apart
open_writers-requires-clause-apart g c κs within = subst AreApart (sym (c.as_slice.ensures.value ∙ c.in_ok-written.ensures)) c.requires.apart

pub returns-in-Ok-clause-lends : goal.returns-in-Ok-clause-lends
returns-in-Ok-clause-lends g c = record {
  mid = g.T.Tree.state c.open_files.new.tree;
  opens = c.in_ok-opened.ensures.opens;
  held = c.in_ok-opened.ensures.held;
  begins = subst (λ (it : List Components). Begins g.T.Writer.Sink.taken g.T.Writer.Sink.faults it (g.T.Tree.state c.open_files.new.tree) (g.T.Tree.state c.open_writers.new.tree) c.in-Ok.begun.writers.items) (c.as_slice.ensures.value ∙ c.in_ok-written.ensures) c.in-Ok.ensures.begins;
}

pub returns-clause-kept : goal.returns-clause-kept
returns-clause-kept g c =
    only-more (only-same c.in_ok-opened.ensures.held)
    (only-more
    (subst (λ (it : List Components). ChangesOnly it (g.T.Tree.state c.open_files.new.tree).held (g.T.Tree.state c.open_writers.new.tree).held) (c.as_slice.ensures.value ∙ c.in_ok-written.ensures) c.in-Err.ensures.kept)
    (only-same c.give_back.ensures.held))
