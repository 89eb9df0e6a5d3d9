-- What is left of a redirection that is done, and of one that stops (XCU 2.7, 2.8.1).
use Rattle.std.specs.Prelude.{◌≡◌, ℕ, ◌≤◌, List, Option, Some, IfSome, Result, Ok, Err}
use Rattle.ps_world.specs.Counts.{Rose}
use Rattle.ps_world.specs.declared.error.WorldErr.{WorldErr}
use Rattle.ps_world.specs.declared.error.WorldErr.TheVariants as error
use Rattle.ps_world.specs.TreeState.{Balanced}
use Rattle.ps_world.specs.Files.{NoWriterOut}
use Rattle.ps_world.specs.Paths.{Components}
use Rattle.fl_commands.specs.Writers.{ChangesOnly}
use Rattle.sh_eval.specs.declared.stops.RedirectionError.{RedirectionError}
use Rattle.sh_eval.specs.declared.stops.RedirectionError.TheVariants as stop
use Rattle.sh_eval.specs.declared.streams.From.{From}
use Rattle.sh_eval.specs.States.{State}
use Rattle.sh_eval.specs.Redirections.{Redirected, led, stopped}
use Rattle.sh_eval.specs.Contract.{Point, Base, Has, NoFewer, IsSound, HeldStays}

-- the state behind a redirection
pub record LedAt (base : Base) (does : State → Redirected) (state : State) (new : Point) : Type 0 where
  pub behind : State
  pub has : Has base new behind
  pub same : does state ≡ led behind

-- what a redirection leaves to the next
pub record LeavesOn (old new : Point) : Type 0 where
  pub whole : IfSome old.tree.held NoWriterOut → IfSome new.tree.held NoWriterOut
  pub files : HeldStays old.tree.held new.tree.held
  pub sound : IsSound old.session old.tree → IsSound new.session new.tree
  pub turns : old.session.turns ≤ new.session.turns
  pub faults : new.faults ≡ old.faults
  pub lent : Balanced old.tree new.tree

-- a redirection is done
pub record Led (does : State → Redirected) (old new : Point) : Type 0 where
  pub at : (base : Base) (state : State) → Has base old state → LedAt base does state new
  pub leaves_on : LeavesOn old new

-- a line tells why it isn't done, and nothing was changed
pub record TellsWhy (does : State → Redirected) (line : List ℕ) (old new : Point) : Type 0 where
  pub at : (base : Base) (state : State) → Has base old state → does state ≡ stopped line
  pub same : new ≡ old

-- the state in which a redirection leaves off
abbrev pub left_off : Redirected → State → State
left_off (led first) state = first
left_off (stopped line) state = state

-- the paths that are written by then
abbrev pub wrote_by : (State → Redirected) → State → List Components
wrote_by does state = (left_off (does state) state).world.written

-- the tree failed, or memory was wanted: nothing else is changed than what these redirections write
pub record Breaks (wrote : State → List Components) (old new : Point) : Type 0 where
  pub kept : (base : Base) (state : State) → Has base old state → ChangesOnly (wrote state) (Some base.files) new.tree.held
  pub taken : new.seen ≡ old.seen
  pub turns : old.session.turns ≤ new.session.turns
  pub later : NoFewer old.faults new.faults
  pub lent : Balanced old.tree new.tree

-- a redirection is done, or stops
abbrev pub Does : (State → Redirected) → Point → Point → Result (Option From) RedirectionError → Type 0
Does does old new (Ok value) = Led does old new
Does does old new (Err (stop.Line line)) = TellsWhy does line old new
Does does old new (Err stop.Tree) = Breaks (wrote_by does) old new × Rose old.faults.tree new.faults.tree
Does does old new (Err stop.Memory) = Breaks (wrote_by does) old new

-- a line tells why, unless memory is wanted
abbrev pub TellsLine : RedirectionError → List ℕ → Type 0
TellsLine (stop.Line line) wanted = line ≡ wanted
TellsLine stop.Tree wanted = ⊥
TellsLine stop.Memory wanted = Unit {0}

-- why a redirection isn't done where the tree failed
abbrev pub of_tree : WorldErr → RedirectionError
of_tree error.Failed = stop.Tree
of_tree error.Memory = stop.Memory
