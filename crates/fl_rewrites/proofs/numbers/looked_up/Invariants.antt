use Rattle.std.proofs.Common.{◌≡◌, ◌++◌, drop, map}
use Rattle.fl_rewrites.specs.Inner.Tables.{looked_up}
use Rattle.fl_rewrites.proofs.numbers.looked_up.Given as goal

abbrev pub invariant-loop-edge : goal.invariant-loop-edge
invariant-loop-edge l = l.new.items ++ map (looked_up l.places l.count) (drop l.edge-index l.edges) ≡ map (looked_up l.places l.count) l.edges
