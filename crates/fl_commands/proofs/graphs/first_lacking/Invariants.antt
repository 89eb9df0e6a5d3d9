use Rattle.std.proofs.Common.{◌≡◌, length, IfSome}
use Rattle.fl_commands.specs.Graphs.{first_lacking}
use Rattle.fl_commands.proofs.graphs.first_lacking.Given as goal

abbrev pub invariant-loop-left : goal.invariant-loop-left
invariant-loop-left g l = record {
  so : IfSome (g.T.Tree.state l.fn.tree).held (λ files. first_lacking files (g.T.Tree.state l.fn.tree).home l.nodes ≡ first_lacking files (g.T.Tree.state l.fn.tree).home l.left);
  state : g.T.Tree.state l.tree ≡ g.T.Tree.state l.fn.tree;
  faults : g.T.Tree.faults l.tree ≡ g.T.Tree.faults l.fn.tree;
}

abbrev pub decreases-loop-left : goal.decreases-loop-left
decreases-loop-left g l = length l.left
