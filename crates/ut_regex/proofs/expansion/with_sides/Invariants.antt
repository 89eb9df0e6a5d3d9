use Rattle.std.proofs.Common.{◌≡◌, length}
use Rattle.ut_regex.specs.Inner.Program.{core, steps}
use Rattle.ut_regex.specs.Several.{or_any, trees_of}
use Rattle.ut_regex.specs.Tree.{Tree}
use Rattle.ut_regex.proofs.expansion.with_sides.Given as goal

abbrev pub invariant-loop-left : goal.invariant-loop-left
invariant-loop-left l =
    (re : Tree) → l.initial.steps.items ≡ steps (core re)
    → (now : Tree) × (l.steps.items ≡ steps (core now)) × (or_any now (trees_of l.left) ≡ or_any re (trees_of l.initial.left))

abbrev pub decreases-loop-left : goal.decreases-loop-left
decreases-loop-left l = length l.left
