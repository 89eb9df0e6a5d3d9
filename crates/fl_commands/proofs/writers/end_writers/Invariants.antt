use Rattle.std.proofs.Common.{◌≡◌, ◌≤◌, ◌+◌, ℕ, [], Option, OnOk, IsErrOf, false, true, length}
use Rattle.ps_world.specs.Counts.{Rose}
use Rattle.ps_world.specs.Files.{Files}
use Rattle.ps_world.specs.TreeState.{AreOut, TreeState}
use Rattle.ps_world.specs.declared.error.WorldErr.TheVariants as error
use Rattle.fl_engines.specs.OwnEnds.{each_of}
use Rattle.fl_commands.specs.Inner.Writing.{Fills}
use Rattle.fl_commands.specs.Readers.{has_count}
use Rattle.fl_commands.specs.Writers.{ChangesOnly}
use Rattle.fl_commands.proofs.writers.end_writers.Given as goal

abbrev pub invariant-loop-number : goal.invariant-loop-number
invariant-loop-number g l = record {
  paths : length l.writers.items ≡ length l.paths.items;
  out : (first : TreeState) (count : ℕ) → AreOut (length l.fn.writers.items + count) first (g.T.Tree.state l.fn.tree) → AreOut (length l.writers.items + count) first (g.T.Tree.state l.tree);
  fills : (final : Option Files) → OnOk l.ended (Fills l.paths.items (each_of g.T.Writer.Sink.taken l.writers.items) (g.T.Tree.state l.tree).held final
      → Fills l.fn.paths.items (each_of g.T.Writer.Sink.taken l.fn.writers.items) (g.T.Tree.state l.fn.tree).held final);
  none : l.fn.writers.items ≡ [] → (l.writers.items ≡ []) × (g.T.Tree.state l.tree ≡ g.T.Tree.state l.fn.tree);
  kept : (last : Option Files) → ChangesOnly l.paths.items (g.T.Tree.state l.tree).held last → ChangesOnly l.fn.paths.items (g.T.Tree.state l.fn.tree).held last;
  later : g.T.Tree.faults l.fn.tree ≤ g.T.Tree.faults l.tree;
  calm : has_count (each_of g.T.Writer.Sink.faults l.fn.writers.items) ≡ false
      → (has_count (each_of g.T.Writer.Sink.faults l.writers.items) ≡ false) × OnOk l.ended (g.T.Tree.faults l.tree ≡ g.T.Tree.faults l.fn.tree);
  failed : IsErrOf l.ended error.Failed → Rose (g.T.Tree.faults l.fn.tree) (g.T.Tree.faults l.tree);
  rose : has_count (each_of g.T.Writer.Sink.faults l.fn.writers.items) ≡ true → has_count (each_of g.T.Writer.Sink.faults l.writers.items) ≡ false
      → Rose (g.T.Tree.faults l.fn.tree) (g.T.Tree.faults l.tree);
}

abbrev pub decreases-loop-number : goal.decreases-loop-number
decreases-loop-number g l = length l.writers.items
