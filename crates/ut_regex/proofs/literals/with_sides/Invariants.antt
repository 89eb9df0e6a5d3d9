use Rattle.std.proofs.Common.{◌≡◌, Bool, length}
use Rattle.ut_regex.specs.Several.{or_any, trees_of}
use Rattle.ut_regex.specs.Tree.{Tree}
use Rattle.ut_regex.specs.Inner.Literals.{Requires}
use Rattle.ut_regex.proofs.literals.with_sides.Given as goal

abbrev pub invariant-loop-left : goal.invariant-loop-left
invariant-loop-left l =
    (fold : Bool) (re : Tree) → Requires fold re l.initial.required
    → (now : Tree) × Requires fold now l.required × (or_any now (trees_of l.left) ≡ or_any re (trees_of l.initial.left))

abbrev pub decreases-loop-left : goal.decreases-loop-left
decreases-loop-left l = length l.left
