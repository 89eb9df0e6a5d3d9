-- The parts that were passed over are left out.
use Rattle.std.proofs.Common.{◌≡◌, vec_len}
use Rattle.sh_parse.specs.Inner.Building.{walked}
use Rattle.sh_parse.specs.Inner.Built.{state_of}
use Rattle.sh_parse.specs.Inner.Moves.{stacked}
use Rattle.sh_parse.proofs.parsing.walk.Given as goal

abbrev pub invariant-loop-part : goal.invariant-loop-part
invariant-loop-part g l =
    walked (g.W.WordReader.views l.fn.reader) (stacked l.fn.stack.items) l.fn.first (state_of l.fn.building)
    ≡ walked (g.W.WordReader.views l.fn.reader) (stacked l.stack.items) l.fn.first (state_of l.building)

abbrev pub decreases-loop-part : goal.decreases-loop-part
decreases-loop-part g l = vec_len l.stack
