use Rattle.std.proofs.Common.{◌≡◌, ◌+◌, ◌++◌, ℕ, [], Option, Some, false, map, length, IfSome}
use Rattle.std.specs.Option.{option_map}
use Rattle.ps_world.specs.Files.{Files, bytes_at}
use Rattle.ps_world.specs.TreeState.{AreOut, TreeState}
use Rattle.fl_engines.specs.OwnEnds.{each_of}
use Rattle.fl_commands.specs.Inner.Writing.{AreApart, out_at}
use Rattle.fl_commands.specs.Readers.{has_count}
use Rattle.fl_commands.specs.Writers.{AreFilesAt, ChangesOnly}
use Rattle.fl_commands.proofs.WriterLemmas.{Goes}
use Rattle.fl_commands.proofs.writers.open_each.Given as goal

abbrev pub invariant-loop-left : goal.invariant-loop-left
invariant-loop-left g l = record {
  there : IfSome (g.T.Tree.state l.tree).held (λ files. AreFilesAt files l.left);
  apart : AreApart l.left;
  texts : (files : Files) → (g.T.Tree.state l.fn.tree).held ≡ Some files
      → Goes (g.T.Tree.state l.tree).held (each_of g.T.Writer.Sink.taken l.begun.writers.items) l.left
      (each_of g.T.Writer.Sink.taken l.fn.begun.writers.items ++ map (λ path. Some (bytes_at files path)) l.paths);
  paths : l.fn.begun.paths.items ++ l.paths ≡ l.begun.paths.items ++ l.left;
  count : length l.fn.begun.writers.items ≡ length l.fn.begun.paths.items → length l.begun.writers.items ≡ length l.begun.paths.items;
  fresh : has_count (each_of g.T.Writer.Sink.faults l.fn.begun.writers.items) ≡ false → has_count (each_of g.T.Writer.Sink.faults l.begun.writers.items) ≡ false;
  out : (first : TreeState) (count : ℕ) → AreOut (length l.fn.begun.writers.items + count) first (g.T.Tree.state l.fn.tree)
      → AreOut (length l.begun.writers.items + count) first (g.T.Tree.state l.tree);
  held : option_map (out_at l.left) (g.T.Tree.state l.tree).held ≡ option_map (out_at l.paths) (g.T.Tree.state l.fn.tree).held;
  kept : (last : Option Files) → ChangesOnly l.left (g.T.Tree.state l.tree).held last → ChangesOnly l.paths (g.T.Tree.state l.fn.tree).held last;
  none : l.paths ≡ [] → (l.left ≡ []) × ((l.begun.writers.items ≡ l.fn.begun.writers.items) × (g.T.Tree.state l.tree ≡ g.T.Tree.state l.fn.tree));
  faults : g.T.Tree.faults l.tree ≡ g.T.Tree.faults l.fn.tree;
}

abbrev pub decreases-loop-left : goal.decreases-loop-left
decreases-loop-left g l = length l.left
