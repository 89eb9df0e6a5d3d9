use Rattle.std.proofs.Common.{◌≡◌, ◌≤◌, false, true, length}
use Rattle.ps_world.specs.Counts.{Rose}
use Rattle.ps_world.specs.TreeState.{AreOut, TreeState}
use Rattle.fl_engines.specs.OwnEnds.{each_of}
use Rattle.fl_commands.specs.Readers.{has_count}
use Rattle.fl_commands.proofs.readers.give_back.Given as goal

abbrev pub invariant-loop-number : goal.invariant-loop-number
invariant-loop-number g l = record {
  paths : length l.paths.items ≡ length l.readers.items;
  out : (first : TreeState) → AreOut (length l.fn.readers.items) first (g.T.Tree.state l.fn.tree) → AreOut (length l.readers.items) first (g.T.Tree.state l.tree);
  held : (g.T.Tree.state l.tree).held ≡ (g.T.Tree.state l.fn.tree).held;
  later : g.T.Tree.faults l.fn.tree ≤ g.T.Tree.faults l.tree;
  calm : has_count (each_of g.T.Reader.Source.faults l.fn.readers.items) ≡ false
      → (has_count (each_of g.T.Reader.Source.faults l.readers.items) ≡ false) × (g.T.Tree.faults l.tree ≡ g.T.Tree.faults l.fn.tree);
  rose : has_count (each_of g.T.Reader.Source.faults l.fn.readers.items) ≡ true → has_count (each_of g.T.Reader.Source.faults l.readers.items) ≡ false
      → Rose (g.T.Tree.faults l.fn.tree) (g.T.Tree.faults l.tree);
}

abbrev pub decreases-loop-number : goal.decreases-loop-number
decreases-loop-number g l = length l.readers.items
