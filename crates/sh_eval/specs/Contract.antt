-- What the evaluation of a command says of the state before it and of that behind it: the state that it means, or where it stopped, that
-- output and errors have grown by what is meant up to there.
use Rattle.std.specs.Prelude.{◌≡◌, ◌⊎◌, ℕ, ◌≤◌, List, Bool, true, false, Option, Some, None, IfSome}
use Rattle.std.specs.Option.{option_map}
use Rattle.ps_world.specs.Paths.{Components}
use Rattle.ps_world.specs.Counts.{Rose}
use Rattle.ps_world.specs.Told.{then_bytes, GrewByPrefix}
use Rattle.ps_world.specs.TreeState.{TreeState, Balanced}
use Rattle.ps_world.specs.Files.{Files, NoWriterOut, IsFileAt}
use Rattle.fl_engines.specs.Logs.{Log}
use Rattle.fl_segments.specs.Noted.{Noted}
use Rattle.fl_commands.specs.Runs.{with_noted}
use Rattle.fl_commands.specs.Writers.{ChangesOnly}
use Rattle.sh_expand.specs.Outcomes.{Expansions, AreExpansions}
use Rattle.sh_eval.specs.declared.flows.Flow.{Flow}
use Rattle.sh_eval.specs.declared.flows.Flow.TheVariants as flow
use Rattle.sh_eval.specs.declared.outcomes.How.{How}
use Rattle.sh_eval.specs.declared.outcomes.How.TheVariants as how
use Rattle.sh_eval.specs.declared.session.Session.{Session}
use Rattle.sh_eval.specs.declared.shell.Shell.{Shell}
use Rattle.sh_eval.specs.declared.streams.Streams.{Streams}
use Rattle.sh_eval.specs.declared.streams.To.{To}
use Rattle.sh_eval.specs.declared.streams.To.TheVariants as to
use Rattle.sh_eval.specs.States.{World, State, Ends, Means}
use Rattle.sh_eval.specs.Commands.{settled}
use Rattle.sh_eval.specs.Growth.{Adds}

-- what a command draws on, where it is told: what is left of the input, and what the engine tells of its width and of the utilities that it has
-- run
pub record Drawn : Type 0 where
  pub left : Option (List ℕ)
  pub used : Option Log

abbrev pub drawn_of : Option (List ℕ) → Option Log → Drawn
drawn_of left used = record { left = left; used = used }

-- what the objects of the outside tell: what is drawn on, and what output and errors have taken
pub record Seen : Type 0 where
  pub drawn : Drawn
  pub taken : Option (List ℕ)
  pub errors : Option (List ℕ)

-- their counts of faults
pub record Faults : Type 0 where
  pub input : ℕ
  pub output : ℕ
  pub errors : ℕ
  pub tree : ℕ

abbrev pub seen_of : Drawn → Option (List ℕ) → Option (List ℕ) → Seen
seen_of drawn taken errors = record { drawn = drawn; taken = taken; errors = errors }

abbrev pub faults_of : ℕ → ℕ → ℕ → ℕ → Faults
faults_of input output errors tree = record { input = input; output = output; errors = errors; tree = tree }

-- all that a contract sees at one moment
pub record Point : Type 0 where
  pub shell : Shell
  pub session : Session
  pub tree : TreeState
  pub seen : Seen
  pub faults : Faults

abbrev pub point_of : Shell → Session → TreeState → Seen → Faults → Point
point_of shell session tree seen faults = record { shell = shell; session = session; tree = tree; seen = seen; faults = faults }

-- what the engine, output and errors told as the run began, and the files then
pub record Base : Type 0 where
  pub files : Files
  pub used : Option Log
  pub taken : Option (List ℕ)
  pub errors : Option (List ℕ)

-- what the engine tells once these have run
abbrev pub then_ran : Option Log → List Noted → Option Log
then_ran used ran = option_map (with_noted ran) used

-- what the objects tell in a state
abbrev pub told : Base → World → Seen
told base world =
    record {
      drawn = record { left = Some world.input; used = then_ran base.used world.ran };
      taken = then_bytes base.taken world.output;
      errors = then_bytes base.errors world.errors;
    }

-- the point is that of a state
pub record Has (base : Base) (at : Point) (state : State) : Type 0 where
  pub shell : at.shell ≡ state.shell
  pub session : at.session ≡ state.session
  pub home : at.tree.home ≡ state.world.home
  pub held : at.tree.held ≡ Some state.world.files
  -- since the run began nothing else was changed than what was written
  pub kept : ChangesOnly state.world.written (Some base.files) at.tree.held
  pub seen : at.seen ≡ told base state.world

-- the command is over as it is meant
pub record HasEnd (base : Base) (came : Flow) (at : Point) (left : Ends) : Type 0 where
  pub flow : came ≡ left.flow
  pub has : Has base at left.state

-- output and errors have grown by fronts of what is meant, and nothing else is changed than what the meaning writes
pub record IsBehind (base : Base) (held : Option Files) (seen : Seen) (world : World) : Type 0 where
  pub kept : ChangesOnly world.written (Some base.files) held
  pub output : GrewByPrefix base.taken seen.taken world.output
  pub errors : GrewByPrefix base.errors seen.errors world.errors

abbrev pub Comes : Base → How → Point → Ends → Type 0
Comes base (how.Gone came) at left = HasEnd base came at left
Comes base how.ReadFault at left = IsBehind base at.tree.held at.seen left.state.world
Comes base how.WriteFault at left = IsBehind base at.tree.held at.seen left.state.world
Comes base how.TreeFault at left = IsBehind base at.tree.held at.seen left.state.world
Comes base how.Memory at left = IsBehind base at.tree.held at.seen left.state.world

-- no count falls
pub record NoFewer (old new : Faults) : Type 0 where
  pub input : old.input ≤ new.input
  pub output : old.output ≤ new.output
  pub errors : old.errors ≤ new.errors
  pub tree : old.tree ≤ new.tree

-- a fault comes where the count of its object rose, and an end where none did
abbrev pub HasCause : How → Faults → Faults → Type 0
HasCause (how.Gone came) old new = new ≡ old
HasCause how.ReadFault old new = Rose old.input new.input
HasCause how.WriteFault old new = Rose old.output new.output ⊎ Rose old.errors new.errors
HasCause how.TreeFault old new = Rose old.tree new.tree
HasCause how.Memory old new = Unit {0}

abbrev pub IsGone : How → Type 0
IsGone (how.Gone came) = Unit {0}
IsGone how.ReadFault = ⊥
IsGone how.WriteFault = ⊥
IsGone how.TreeFault = ⊥
IsGone how.Memory = ⊥

-- what a descriptor writes to can be written: a file is there
abbrev pub CanTake : Files → To → Type 0
CanTake files to.Output = Unit {0}
CanTake files to.Errors = Unit {0}
CanTake files (to.Pipe number) = Unit {0}
CanTake files (to.File path) = IsFileAt files path
CanTake files to.Null = Unit {0}

-- no writer is out, and what the descriptors write to is there
pub record Stands (streams : Streams) (files : Files) : Type 0 where
  pub whole : NoWriterOut files
  pub output : CanTake files streams.to
  pub errors : CanTake files streams.errors_to

-- a command can run here, where the tree tells its files
abbrev pub IsSound : Session → TreeState → Type 0
IsSound session tree = IfSome tree.held (Stands session.streams)

-- every file is a file still
pub record Stay (old new : Files) : Type 0 where
  pub files : (path : Components) → IsFileAt old path → IsFileAt new path

-- what is told now, where these were
pub record StayIn (held : Option Files) (old : Files) : Type 0 where
  pub new : Files
  pub told : held ≡ Some new
  pub stay : Stay old new

-- they are told still, or still not
abbrev pub HeldStays : Option Files → Option Files → Type 0
HeldStays None new = new ≡ None
HeldStays (Some old) new = StayIn new old

-- what a command leaves to the next: no writer is out, files are files still, and what is written goes where it went
pub record Keeps (old new : Point) : Type 0 where
  pub whole : IfSome old.tree.held NoWriterOut → IfSome new.tree.held NoWriterOut
  pub files : HeldStays old.tree.held new.tree.held
  pub output : new.session.streams.to ≡ old.session.streams.to
  pub errors : new.session.streams.errors_to ≡ old.session.streams.errors_to

-- the shell goes on with the next command
abbrev pub goes_on_by : Flow → Bool
goes_on_by flow.On = true
goes_on_by (flow.Break count) = false
goes_on_by (flow.Continue count) = false
goes_on_by flow.Exit = false
goes_on_by (flow.Refused cause) = false

-- it is over, and goes on in a way that passes the test
abbrev pub gone_by : (Flow → Bool) → How → Bool
gone_by test (how.Gone came) = test came
gone_by test how.ReadFault = false
gone_by test how.WriteFault = false
gone_by test how.TreeFault = false
gone_by test how.Memory = false

abbrev pub goes_on : How → Bool
goes_on came = gone_by goes_on_by came

-- where it is over, it goes on otherwise
abbrev pub going : (Flow → Flow) → How → How
going change (how.Gone came) = how.Gone (change came)
going change how.ReadFault = how.ReadFault
going change how.WriteFault = how.WriteFault
going change how.TreeFault = how.TreeFault
going change how.Memory = how.Memory

-- how the shell around goes on behind a subshell
abbrev pub settled_how : How → How
settled_how came = going settled came

-- where it is over, the shell is changed by how it goes on
abbrev pub changed_by : (Flow → Shell → Shell) → How → Shell → Shell
changed_by change (how.Gone came) shell = change came shell
changed_by change how.ReadFault shell = shell
changed_by change how.WriteFault shell = shell
changed_by change how.TreeFault shell = shell
changed_by change how.Memory shell = shell

-- the meaning of a command, where these are the expansions of words
abbrev pub Meaning : Type 0
Meaning = Expansions → Means

-- a command was evaluated
pub record Evaluates (means : Meaning) (old : Point) (came : How) (new : Point) : Type 0 where
  pub comes : (expansions : Expansions) → AreExpansions expansions → (base : Base) (state : State) → Has base old state → Comes base came new (means expansions state)
  -- where it is over, the next command finds what it needs
  pub keeps : IsGone came → Keeps old new
  -- turns are used up
  pub turns : old.session.turns ≤ new.session.turns
  pub later : NoFewer old.faults new.faults
  pub cause : HasCause came old.faults new.faults
  -- each reader and writer that was lent has come back
  pub lent : Balanced old.tree new.tree

-- a part of a command gave this, and the command is evaluated where what goes on with it is
abbrev pub PassesOn : {Given : Type 0} → (Expansions → (Given → Means) → Means) → Point → Given → Point → Type 0
PassesOn part old given mid =
    (next : Expansions → _ → Means) (came : How) (new : Point) → Evaluates (λ expansions. next expansions given) mid came new → Evaluates (λ expansions. part expansions (next expansions)) old came new

-- or the command is over with it, whatever would go on
abbrev pub StopsAt : {Given : Type 0} → (Expansions → (Given → Means) → Means) → Point → How → Point → Type 0
StopsAt part old came new =
    (next : Expansions → _ → Means) → ((expansions : Expansions) (given : _) → Adds (next expansions given)) → Evaluates (λ expansions. part expansions (next expansions)) old came new
