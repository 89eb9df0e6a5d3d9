-- What was found so far, or what the rest has.
use Rattle.std.proofs.Common.{◌≡◌, length}
use Rattle.sh_parse.specs.Inner.Seeking.{earliest, first_form}
use Rattle.sh_parse.proofs.misuses.first_form.Given as goal

abbrev pub invariant-loop-first : goal.invariant-loop-first
invariant-loop-first g l =
    first_form (g.W.WordReader.views l.fn.reader) l.fn.items
    ≡ earliest l.found (first_form (g.W.WordReader.views l.fn.reader) l.rest)

abbrev pub decreases-loop-first : goal.decreases-loop-first
decreases-loop-first g l = length l.rest
