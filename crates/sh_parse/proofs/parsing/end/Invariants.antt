-- The parts so far are left out.
use Rattle.std.proofs.Common.{◌≡◌, vec_len}
use Rattle.sh_parse.specs.Inner.Building.{ended}
use Rattle.sh_parse.specs.Inner.Built.{state_of}
use Rattle.sh_parse.specs.Inner.Moves.{stacked}
use Rattle.sh_parse.proofs.parsing.end.Given as goal

abbrev pub invariant-loop-part : goal.invariant-loop-part
invariant-loop-part l =
    ended (stacked l.fn.stack.items) (state_of l.fn.building) ≡ ended (stacked l.stack.items) (state_of l.building)

abbrev pub decreases-loop-part : goal.decreases-loop-part
decreases-loop-part l = vec_len l.stack
