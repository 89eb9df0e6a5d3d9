-- The parts that were passed over skip a `(`.
use Rattle.std.proofs.Common.{◌≡◌, length}
use Rattle.sh_parse.specs.Inner.Moves.{stacked}
use Rattle.sh_parse.specs.Inner.Seeking.{may_open}
use Rattle.sh_parse.proofs.misuses.may_open.Given as goal

abbrev pub invariant-loop-part : goal.invariant-loop-part
invariant-loop-part l = may_open (stacked l.fn.stack) ≡ may_open (stacked l.rest)

abbrev pub decreases-loop-part : goal.decreases-loop-part
decreases-loop-part l = length l.rest
