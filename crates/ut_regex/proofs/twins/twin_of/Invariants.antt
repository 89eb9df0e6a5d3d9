use Rattle.std.proofs.Common.{◌<◌, ℕ}
use Rattle.ut_regex.specs.Inner.Twins.{AreTwins}
use Rattle.ut_regex.proofs.twins.twin_of.Given as goal

abbrev pub invariant-loop-first : goal.invariant-loop-first
invariant-loop-first l = (earlier : ℕ) → earlier < l.first → AreTwins l.fold earlier l.byte l.steps → ⊥
