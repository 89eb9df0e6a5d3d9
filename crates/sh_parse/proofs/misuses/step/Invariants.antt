-- The parts that were passed over skip the item.
use Rattle.std.proofs.Common.{◌≡◌, vec_len}
use Rattle.sh_parse.specs.Inner.Owed.{step}
use Rattle.sh_parse.specs.Inner.Moves.{stacked}
use Rattle.sh_parse.proofs.misuses.step.Given as goal

abbrev pub invariant-loop-part : goal.invariant-loop-part
invariant-loop-part l = step (stacked l.fn.stack.items) l.first ≡ step (stacked l.stack.items) l.first

abbrev pub decreases-loop-part : goal.decreases-loop-part
decreases-loop-part l = vec_len l.stack
