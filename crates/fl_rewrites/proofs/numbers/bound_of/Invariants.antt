use Rattle.std.proofs.Common.{◌≡◌, max, drop}
use Rattle.fl_rewrites.specs.Inner.Tables.{bound}
use Rattle.fl_rewrites.proofs.numbers.bound_of.Given as goal

abbrev pub invariant-loop-edge : goal.invariant-loop-edge
invariant-loop-edge l = max l.above (bound (drop l.edge-index l.edges)) ≡ bound l.edges
