use Rattle.std.proofs.Common.{◌≡◌, length}
use Rattle.std.specs.Option.{IfSome}
use Rattle.ps_world.specs.Paths.{components}
use Rattle.ps_world.specs.Places.{resolve_from, IsDirIfTold}
use Rattle.ps_world.proofs.places.walk.Given as goal

abbrev pub invariant-loop-component : goal.invariant-loop-component
invariant-loop-component g l =
    (g.T.Tree.state l.tree ≡ g.T.Tree.state l.initial.tree)
    × (g.T.Tree.faults l.tree ≡ g.T.Tree.faults l.initial.tree)
    × IfSome (g.T.Tree.state l.initial.tree).held (λ files. resolve_from files l.initial.stand.path (components l.initial.left) ≡ resolve_from files l.stand.path (components l.left))
    × IsDirIfTold (g.T.Tree.state l.initial.tree).held l.stand.is_told l.stand.path

abbrev pub decreases-loop-component : goal.decreases-loop-component
decreases-loop-component g l = length l.left
