use Rattle.std.proofs.Common.{◌≡◌, ◌++◌, drop, map}
use Rattle.fl_split.specs.Inserting.{turned}
use Rattle.fl_split.proofs.inserting.turned_all.Given as goal

abbrev pub invariant-loop-edge : goal.invariant-loop-edge
invariant-loop-edge l = l.all.items ++ map (turned l.old l.new) (drop l.edge-index l.edges) ≡ map (turned l.old l.new) l.edges
