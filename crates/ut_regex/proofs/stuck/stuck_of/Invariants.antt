use Rattle.std.proofs.Common.{◌<◌, ℕ}
use Rattle.ut_regex.specs.Inner.Idling.{IsStuck}
use Rattle.ut_regex.proofs.stuck.stuck_of.Given as goal

abbrev pub invariant-loop-state : goal.invariant-loop-state
invariant-loop-state l = (state : ℕ) → state < l.state → IsStuck l.next l.ends state → ⊥
