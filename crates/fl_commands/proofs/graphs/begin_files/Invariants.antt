use Rattle.std.proofs.Common.{◌≡◌, length, IfSome, Option}
use Rattle.std.specs.Option.{option_map}
use Rattle.ps_world.specs.Files.{Files}
use Rattle.ps_world.specs.TreeState.{Balanced, TreeState}
use Rattle.fl_graph.specs.Paths.{paths_written}
use Rattle.fl_commands.specs.Graphs.{files_begun}
use Rattle.fl_commands.specs.Inner.Begun.{AllCanBegin}
use Rattle.fl_commands.specs.Writers.{ChangesOnly}
use Rattle.fl_commands.proofs.graphs.begin_files.Given as goal

abbrev pub invariant-loop-left : goal.invariant-loop-left
invariant-loop-left g l = record {
  made : IfSome (g.T.Tree.state l.tree).held (λ files. AllCanBegin files l.left);
  held : option_map (files_begun l.left) (g.T.Tree.state l.tree).held ≡ option_map (files_begun l.nodes) (g.T.Tree.state l.fn.tree).held;
  kept : (last : Option Files) → ChangesOnly (paths_written l.left) (g.T.Tree.state l.tree).held last → ChangesOnly (paths_written l.nodes) (g.T.Tree.state l.fn.tree).held last;
  lent : (first : TreeState) → Balanced first (g.T.Tree.state l.fn.tree) → Balanced first (g.T.Tree.state l.tree);
  faults : g.T.Tree.faults l.tree ≡ g.T.Tree.faults l.fn.tree;
}

abbrev pub decreases-loop-left : goal.decreases-loop-left
decreases-loop-left g l = length l.left
