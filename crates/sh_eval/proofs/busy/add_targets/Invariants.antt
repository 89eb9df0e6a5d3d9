use Rattle.std.proofs.Common.{drop, ◌≡◌, ◌++◌, Some}
use Rattle.sh_eval.specs.Redirections.{uses_of}
use Rattle.sh_eval.specs.States.{State}
use Rattle.sh_eval.proofs.busy.add_targets.Given as goal

-- the uses that are known, and those of the redirections that are left, are those of all
abbrev pub invariant-loop-target : goal.invariant-loop-target
invariant-loop-target g l = record {
  rest : (state : State) → (g.T.Tree.state l.fn.tree).held ≡ Some state.world.files → (g.T.Tree.state l.fn.tree).home ≡ state.world.home
      → l.uses.items ++ uses_of state (drop l.target-index l.fn.targets) ≡ l.fn.uses.items ++ uses_of state l.fn.targets;
  state : g.T.Tree.state l.tree ≡ g.T.Tree.state l.fn.tree;
  faults : g.T.Tree.faults l.tree ≡ g.T.Tree.faults l.fn.tree;
}
