-- The parts that were passed over skip the item.
use Rattle.std.proofs.Common.{◌≡◌, List, ◌∷◌, vec_len}
use Rattle.sh_parse.specs.Inner.Owed.{verdict}
use Rattle.sh_parse.specs.Inner.Moves.{stacked}
use Rattle.sh_parse.specs.declared.items.Item.{Item}
use Rattle.sh_parse.specs.declared.items.TheConstants.{MAX_LEVELS}
use Rattle.sh_parse.proofs.checking.step.Given as goal

abbrev pub invariant-loop-part : goal.invariant-loop-part
invariant-loop-part l =
    (rest : List Item) → verdict MAX_LEVELS (l.first ∷ rest) (stacked l.fn.stack.items) ≡ verdict MAX_LEVELS (l.first ∷ rest) (stacked l.stack.items)

abbrev pub decreases-loop-part : goal.decreases-loop-part
decreases-loop-part l = vec_len l.stack
