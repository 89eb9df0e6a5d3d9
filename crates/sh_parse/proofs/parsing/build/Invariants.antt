-- What is read of all items is what is read of the rest, behind what was read.
use Rattle.std.proofs.Common.{◌≡◌, [], ◌∷◌, length}
use Rattle.sh_parse.specs.Inner.Owed.{again}
use Rattle.sh_parse.specs.Inner.Building.{build, start}
use Rattle.sh_parse.specs.Inner.Built.{state_of}
use Rattle.sh_parse.specs.Inner.Moves.{stacked}
use Rattle.sh_parse.proofs.parsing.build.Given as goal

abbrev pub invariant-loop-first : goal.invariant-loop-first
invariant-loop-first g l =
    build (g.W.WordReader.views l.fn.reader) l.fn.items (again ∷ []) start
    ≡ build (g.W.WordReader.views l.fn.reader) l.rest (stacked l.stack.items) (state_of l.building)

abbrev pub decreases-loop-first : goal.decreases-loop-first
decreases-loop-first g l = length l.rest
