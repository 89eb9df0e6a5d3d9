-- What a run adds to (own): its output and errors only grow, a path that is written stays so, and the turns that it has used never fall.
use Rattle.std.specs.Prelude.{ℕ, ◌≤◌, List}
use Rattle.ps_lines.specs.Texts.{BeginsWith}
use Rattle.ps_world.specs.Files.{IsOneOf}
use Rattle.ps_world.specs.Paths.{Components}
use Rattle.sh_eval.specs.States.{State, Means}

pub record IsLonger (was_output was_errors : List ℕ) (were_written : List Components) (were_used : ℕ)
    (is_output is_errors : List ℕ) (are_written : List Components) (are_used : ℕ) : Type 0 where
  pub output : BeginsWith is_output was_output
  pub errors : BeginsWith is_errors was_errors
  pub written : (path : Components) → IsOneOf were_written path → IsOneOf are_written path
  pub turns : were_used ≤ are_used

-- the one state has come of the other
abbrev pub Grows : State → State → Type 0
Grows old new =
    IsLonger old.world.output old.world.errors old.world.written old.session.turns new.world.output new.world.errors new.world.written new.session.turns

-- a command adds to what is there
abbrev pub Adds : Means → Type 0
Adds means = (state : State) → Grows state (means state).state
