use Rattle.std.proofs.Common.{◌≡◌, ◌++◌, drop, map}
use Rattle.fl_rewrites.specs.Inner.Tables.{root_in}
use Rattle.fl_rewrites.proofs.known.roots_at.Given as goal

abbrev pub invariant-loop-edge : goal.invariant-loop-edge
invariant-loop-edge l = l.roots.items ++ map (root_in l.table) (drop l.edge-index l.edges) ≡ map (root_in l.table) l.edges
