-- No item of the command before the rest assigns; no more substitutions are open than items were passed.
use Rattle.std.proofs.Common.{◌≡◌, ◌≤◌, ◌+◌, length}
use Rattle.sh_parse.specs.Misuses.{own_items, assigns}
use Rattle.sh_parse.proofs.misuses.assigns.Given as goal

abbrev pub invariant-loop-first : goal.invariant-loop-first
invariant-loop-first g l =
    (assigns (g.W.WordReader.views l.fn.reader) (own_items 0 l.fn.items)
    ≡ assigns (g.W.WordReader.views l.fn.reader) (own_items l.inside l.rest))
    × (l.inside + length l.rest ≤ length l.fn.items)

abbrev pub decreases-loop-first : goal.decreases-loop-first
decreases-loop-first g l = length l.rest
