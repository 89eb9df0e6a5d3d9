use Rattle.std.proofs.Common.{◌≡◌, ◌++◌, Some, List, ℕ, map, length}
use Rattle.ps_lines.specs.Texts.{texts_of}
use Rattle.ps_world.specs.Files.{Files}
use Rattle.ps_world.specs.Paths.{Components}
use Rattle.fl_commands.specs.Operands.{AllStand, AreNamed, named}
use Rattle.fl_commands.proofs.operands.look_at.Given as goal

abbrev pub invariant-loop-left : goal.invariant-loop-left
invariant-loop-left g l = record {
  named : (files : Files) (home : Components) → (g.T.Tree.state l.fn.tree).held ≡ Some files → (g.T.Tree.state l.fn.tree).home ≡ home
      → map (named files home) (texts_of l.operands) ≡ l.found.items ++ map (named files home) (texts_of l.left);
  stand : (files : Files) → (g.T.Tree.state l.fn.tree).held ≡ Some files → AllStand files l.found.items;
  are : (texts : List (List ℕ)) × (AreNamed texts l.found.items × (texts_of l.operands ≡ texts ++ texts_of l.left));
  state : g.T.Tree.state l.tree ≡ g.T.Tree.state l.fn.tree;
  faults : g.T.Tree.faults l.tree ≡ g.T.Tree.faults l.fn.tree;
}

abbrev pub decreases-loop-left : goal.decreases-loop-left
decreases-loop-left g l = length l.left
