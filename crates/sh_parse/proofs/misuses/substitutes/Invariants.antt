-- No item before the rest opens a command substitution.
use Rattle.std.proofs.Common.{◌≡◌, length}
use Rattle.sh_parse.specs.Misuses.{own_items, substitutes}
use Rattle.sh_parse.proofs.misuses.substitutes.Given as goal

abbrev pub invariant-loop-first : goal.invariant-loop-first
invariant-loop-first l = substitutes (own_items 0 l.fn.items) ≡ substitutes (own_items 0 l.rest)

abbrev pub decreases-loop-first : goal.decreases-loop-first
decreases-loop-first l = length l.rest
