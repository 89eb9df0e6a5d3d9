use Rattle.std.proofs.Common.{◌≡◌, length, map}
use Rattle.ps_fakes.specs.Trees.{node_at, placed_of}
use Rattle.ps_fakes.proofs.stored.find.Given as goal

abbrev pub invariant-loop-left : goal.invariant-loop-left
invariant-loop-left l = node_at (map placed_of l.initial.left) l.path ≡ node_at (map placed_of l.left) l.path

abbrev pub decreases-loop-left : goal.decreases-loop-left
decreases-loop-left l = length l.left
