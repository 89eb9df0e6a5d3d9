-- The files of tee, for the functions that begin them.
use Rattle.std.specs.Prelude.{◌≡◌, ◌≤◌, ℕ, List, Option, Some, IfSome}
use Rattle.ps_world.specs.Files.{Files, NoWriterOut}
use Rattle.ps_world.specs.Paths.{Components}
use Rattle.ps_world.specs.TreeState.{Balanced, TreeState}
use Rattle.fl_commands.specs.Writers.{ChangesOnly}
use Rattle.sh_eval.specs.declared.outcomes.How.{How}
use Rattle.sh_eval.specs.declared.teeing.Begun.{Begun}
use Rattle.sh_eval.specs.Contract.{HasCause, HeldStays, IsGone, faults_of}
use Rattle.sh_eval.specs.Growth.{Adds}
use Rattle.sh_eval.specs.States.{State, Means, in_world}
use Rattle.sh_eval.specs.Teeing.{Made}

abbrev pub made_of : Begun → Made
made_of begun = record { files = begun.files.items; lines = begun.lines.items; is_whole = begun.is_whole }

-- what is meant by what goes on with the files
abbrev pub Making : Type 0
Making = (Made → Means) → Means

-- where files were begun one means what the other means behind it
pub record BeginsAt (first second : Making) (state : State) (old new : TreeState) : Type 0 where
  pub files : Files
  pub written : List Components
  pub told : new.held ≡ Some files
  pub kept : (begun : Option Files) → ChangesOnly state.world.written begun old.held → ChangesOnly written begun new.held
  pub same : (next : Made → Means) → first next state ≡ second next (in_world (λ world. record world { files = files; written = written }) state)

pub record Begins (first second : Making) (old new : TreeState) : Type 0 where
  pub at : (state : State) → old.held ≡ Some state.world.files → old.home ≡ state.world.home → BeginsAt first second state old new
  pub whole : IfSome old.held NoWriterOut → IfSome new.held NoWriterOut
  pub files : HeldStays old.held new.held
  pub lent : Balanced old new

-- or the command is over, as the tree failed or memory was wanted: nothing else is changed than what it writes, whatever would go on
pub record Fails (part : Making) (came : How) (old new : TreeState) (before now : ℕ) : Type 0 where
  pub kept : (next : Made → Means) → ((made : Made) → Adds (next made)) → (state : State) → old.held ≡ Some state.world.files → old.home ≡ state.world.home
      → (begun : Option Files) → ChangesOnly state.world.written begun old.held → ChangesOnly (part next state).state.world.written begun new.held
  pub off : IsGone came → ⊥
  pub later : before ≤ now
  pub cause : (input output errors : ℕ) → HasCause came (faults_of input output errors before) (faults_of input output errors now)
  pub lent : Balanced old new
