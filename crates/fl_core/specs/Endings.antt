-- How a run of an engine ends (own).
use Rattle.std.specs.Prelude.{ℕ}
use Rattle.fl_core.specs.declared.engine.Ending.{Ending}
use Rattle.fl_core.specs.declared.engine.Ending.TheVariants as ending

-- what holds where a run is done, of its status
abbrev pub OnDone : Ending → (ℕ → Type 0) → Type 0
OnDone (ending.Done status) holds = holds status
OnDone (ending.Fault node) holds = Unit {0}
OnDone ending.Memory holds = Unit {0}
