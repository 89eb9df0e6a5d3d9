use Rattle.std.proofs.Common.{◌≡◌, ◌++◌, drop, map}
use Rattle.fl_split.specs.Inserting.{moved}
use Rattle.fl_split.proofs.inserting.moved_all.Given as goal

abbrev pub invariant-loop-node : goal.invariant-loop-node
invariant-loop-node l = l.all.items ++ map (moved l.place) (drop l.node-index l.nodes) ≡ map (moved l.place) l.nodes
