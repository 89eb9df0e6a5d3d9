-- The verdict on all is that on the rest, with what is owed there.
use Rattle.std.proofs.Common.{◌≡◌, [], ◌∷◌, length}
use Rattle.sh_parse.specs.Inner.Owed.{again, verdict}
use Rattle.sh_parse.specs.Inner.Moves.{stacked}
use Rattle.sh_parse.specs.declared.items.TheConstants.{MAX_LEVELS}
use Rattle.sh_parse.proofs.checking.judge.Given as goal

abbrev pub invariant-loop-first : goal.invariant-loop-first
invariant-loop-first l = verdict MAX_LEVELS l.fn.items (again ∷ []) ≡ verdict MAX_LEVELS l.rest (stacked l.stack.items)

abbrev pub decreases-loop-first : goal.decreases-loop-first
decreases-loop-first l = length l.rest
