use Rattle.std.proofs.Common.{◌≡◌, [], Some, length}
use Rattle.ps_world.specs.Files.{Files}
use Rattle.fl_commands.specs.Members.{AllCanRun, AllNamesStand, files_teed}
use Rattle.fl_tests.proofs.pipelines.members.Given as goal

abbrev pub invariant-loop-left : goal.invariant-loop-left
invariant-loop-left g l = record {
  ready : AllCanRun l.members.items;
  stand : (files : Files) → (g.T.Tree.state l.fn.tree).held ≡ Some files → AllNamesStand files l.members.items;
  teeless : files_teed l.members.items ≡ [];
  state : g.T.Tree.state l.tree ≡ g.T.Tree.state l.fn.tree;
}

abbrev pub decreases-loop-left : goal.decreases-loop-left
decreases-loop-left g l = length l.left
