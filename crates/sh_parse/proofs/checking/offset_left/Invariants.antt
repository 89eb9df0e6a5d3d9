-- The item is among the rest.
use Rattle.std.proofs.Common.{◌≡◌, length}
use Rattle.sh_parse.specs.Stops.{offset_left}
use Rattle.sh_parse.proofs.checking.offset_left.Given as goal

abbrev pub invariant-loop-first : goal.invariant-loop-first
invariant-loop-first l = offset_left l.fn.items l.left ≡ offset_left l.rest l.left

abbrev pub decreases-loop-first : goal.decreases-loop-first
decreases-loop-first l = length l.rest
