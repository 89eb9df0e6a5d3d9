-- What a machine is made for.
use Rattle.std.specs.Prelude.{ℕ, ◌≡◌, Bool, ◌&&◌, ◌||◌, List, [], ◌∷◌, reverse}
use Rattle.ut_regex.specs.declared.machine.Machine.{Machine}
use Rattle.ut_regex.specs.declared.program.Op.{Op}
use Rattle.ut_regex.specs.Tree.{Tree}
use Rattle.ut_regex.specs.Inner.Program.{core, steps}
use Rattle.ut_regex.specs.Inner.Sweeps.{top, below, Rising, risen, sunk}

-- the machine seeks the expression; with `fold` in both cases of letters, with `whole` as the whole line
pub record Seeks (machine : Machine) (fold whole : Bool) (re : Tree) : Type 0 where
  pub program : machine.steps.items ≡ steps (core re)
  pub folds : machine.fold ≡ fold
  pub is_whole : machine.whole ≡ whole

-- a machine does what it did, whatever its marks are
pub record Same (old new : Machine) : Type 0 where
  pub steps : new.steps.items ≡ old.steps.items
  pub fold : new.fold ≡ old.fold
  pub whole : new.whole ≡ old.whole

-- the sweep up from the marks
abbrev pub swept : Bool → Bool → List Op → List Bool → Rising
swept begins ends steps marks = risen begins ends steps (record { values = []; marks = marks; kept = [] })

-- whether the way leads on behind the whole program, from what the sweep up found
abbrev pub leads_on : Bool → Rising → Bool
leads_on entered s = top (below s.values) || (top s.values && entered)

-- the marks behind the next byte, from what the sweep up kept
abbrev pub marked : Bool → ℕ → Bool → List Op → List Bool → List Bool
marked fold byte entered steps kept = (sunk fold byte (reverse steps) (record { entries = entered ∷ []; kept = kept; marks = [] })).marks
