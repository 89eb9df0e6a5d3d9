use Rattle.std.proofs.Common.{◌≡◌, ◌+◌, Some, ◌++◌, false, map, length, IfSome}
use Rattle.ps_world.specs.Files.{Files, bytes_at}
use Rattle.ps_world.specs.TreeState.{AreOut, TreeState}
use Rattle.fl_engines.specs.OwnEnds.{each_of}
use Rattle.fl_graph.specs.Paths.{paths_read}
use Rattle.fl_commands.specs.Readers.{has_count}
use Rattle.fl_commands.specs.Writers.{AreFilesAt}
use Rattle.fl_commands.proofs.readers.open_nodes.Given as goal

abbrev pub invariant-loop-left : goal.invariant-loop-left
invariant-loop-left g l = record {
  there : IfSome (g.T.Tree.state l.fn.tree).held (λ files. AreFilesAt files (paths_read l.left));
  texts : (files : Files) → (g.T.Tree.state l.fn.tree).held ≡ Some files
      → each_of g.T.Reader.Source.left l.fn.opened.readers.items ++ map (λ path. Some (bytes_at files path)) (paths_read l.nodes)
      ≡ each_of g.T.Reader.Source.left l.opened.readers.items ++ map (λ path. Some (bytes_at files path)) (paths_read l.left);
  count : length l.fn.opened.readers.items + length (paths_read l.nodes) ≡ length l.opened.readers.items + length (paths_read l.left);
  fresh : has_count (each_of g.T.Reader.Source.faults l.fn.opened.readers.items) ≡ false → has_count (each_of g.T.Reader.Source.faults l.opened.readers.items) ≡ false;
  out : (first : TreeState) → AreOut (length l.fn.opened.readers.items) first (g.T.Tree.state l.fn.tree) → AreOut (length l.opened.readers.items) first (g.T.Tree.state l.tree);
  paths : length l.fn.opened.paths.items ≡ length l.fn.opened.readers.items → length l.opened.paths.items ≡ length l.opened.readers.items;
  held : (g.T.Tree.state l.tree).held ≡ (g.T.Tree.state l.fn.tree).held;
  faults : g.T.Tree.faults l.tree ≡ g.T.Tree.faults l.fn.tree;
}

abbrev pub decreases-loop-left : goal.decreases-loop-left
decreases-loop-left g l = length l.left
