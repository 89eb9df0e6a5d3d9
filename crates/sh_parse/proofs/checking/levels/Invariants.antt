-- The levels so far, and those of the rest.
use Rattle.std.proofs.Common.{◌≡◌, ◌+◌, ◌≤◌, length}
use Rattle.sh_parse.specs.Inner.Owed.{levels}
use Rattle.sh_parse.specs.Inner.Moves.{stacked}
use Rattle.sh_parse.proofs.checking.levels.Given as goal

abbrev pub invariant-loop-first : goal.invariant-loop-first
invariant-loop-first l =
    (l.count + levels (stacked l.rest) ≡ levels (stacked l.fn.stack)) × (l.count + length l.rest ≤ length l.fn.stack)

abbrev pub decreases-loop-first : goal.decreases-loop-first
decreases-loop-first l = length l.rest
