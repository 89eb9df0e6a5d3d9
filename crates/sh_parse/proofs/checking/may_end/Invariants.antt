-- All before the rest may be left out.
use Rattle.std.proofs.Common.{◌≡◌, length}
use Rattle.sh_parse.specs.Inner.Owed.{may_end}
use Rattle.sh_parse.specs.Inner.Moves.{stacked}
use Rattle.sh_parse.proofs.checking.may_end.Given as goal

abbrev pub invariant-loop-first : goal.invariant-loop-first
invariant-loop-first l = may_end (stacked l.fn.stack) ≡ may_end (stacked l.rest)

abbrev pub decreases-loop-first : goal.decreases-loop-first
decreases-loop-first l = length l.rest
