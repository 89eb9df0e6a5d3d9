use Rattle.std.proofs.Common.{◌≡◌, length}
use Rattle.std.specs.Option.{IfSome}
use Rattle.ps_world.specs.Places.{start_of}
use Rattle.sh_pattern.specs.PathExpansion.{bytes_of, components_of}
use Rattle.sh_pattern.proofs.ExpansionLemmas.{Remain}
use Rattle.sh_pattern.proofs.expansion.find_names.Given as goal

abbrev pub invariant-loop-component : goal.invariant-loop-component
invariant-loop-component g l = record {
  state : g.T.Tree.state l.tree ≡ g.T.Tree.state l.initial.tree;
  faults : g.T.Tree.faults l.tree ≡ g.T.Tree.faults l.initial.tree;
  found : IfSome (g.T.Tree.state l.initial.tree).held (λ files. Remain files (start_of (g.T.Tree.state l.initial.tree).home (bytes_of l.text)) l.text l.found.items (components_of l.left));
}

abbrev pub decreases-loop-component : goal.decreases-loop-component
decreases-loop-component g l = length l.left
