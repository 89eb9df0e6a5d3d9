use Rattle.std.proofs.Common.{◌≡◌, take}
use Rattle.std.specs.Option.{IfSome}
use Rattle.sh_pattern.specs.Finding.{FollowsAll}
use Rattle.sh_pattern.proofs.expansion.follow_all.Given as goal

abbrev pub invariant-loop-place : goal.invariant-loop-place
invariant-loop-place g l = record {
  state : g.T.Tree.state l.tree ≡ g.T.Tree.state l.initial.tree;
  faults : g.T.Tree.faults l.tree ≡ g.T.Tree.faults l.initial.tree;
  found : IfSome (g.T.Tree.state l.initial.tree).held (λ files. FollowsAll files (take l.place-index l.from) l.component l.ending l.found.items);
}
