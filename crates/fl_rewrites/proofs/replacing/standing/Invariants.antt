use Rattle.std.proofs.Common.{◌≡◌, ◌++◌, drop}
use Rattle.std.specs.List.{flat_map}
use Rattle.fl_rewrites.specs.Replacing.{stand_for}
use Rattle.fl_rewrites.proofs.replacing.standing.Given as goal

abbrev pub invariant-loop-node : goal.invariant-loop-node
invariant-loop-node l = l.all.items ++ flat_map (stand_for l.place l.size l.named) (drop l.node-index l.nodes) ≡ flat_map (stand_for l.place l.size l.named) l.nodes
