-- What was found so far, or what the rest has.
use Rattle.std.proofs.Common.{◌≡◌, [], ◌∷◌, length}
use Rattle.sh_parse.specs.Inner.Owed.{again}
use Rattle.sh_parse.specs.Inner.Moves.{stacked}
use Rattle.sh_parse.specs.Inner.Seeking.{earliest, first_mix}
use Rattle.sh_parse.proofs.misuses.first_mix.Given as goal

abbrev pub invariant-loop-first : goal.invariant-loop-first
invariant-loop-first g l =
    first_mix (g.W.WordReader.views l.fn.reader) l.fn.items (again ∷ [])
    ≡ earliest l.found (first_mix (g.W.WordReader.views l.fn.reader) l.rest (stacked l.stack.items))

abbrev pub decreases-loop-first : goal.decreases-loop-first
decreases-loop-first g l = length l.rest
