-- The redirections of a command, done one after the other (XCU 2.7).
use Rattle.std.specs.Prelude.{◌≡◌, List, Bool, true, false, Some, Result, Ok, Err, if◌then◌else◌}
use Rattle.std.specs.List.{list_any}
use Rattle.sh_eval.specs.declared.leading.Before.{Before}
use Rattle.sh_eval.specs.declared.streams.From.{From}
use Rattle.ps_world.specs.Counts.{Rose}
use Rattle.ps_world.specs.Paths.{Components}
use Rattle.ps_world.specs.TreeState.{TreeState}
use Rattle.sh_eval.specs.declared.flows.Flow.{Flow}
use Rattle.sh_eval.specs.declared.flows.Flow.TheVariants as flow
use Rattle.sh_eval.specs.declared.outcomes.How.{How}
use Rattle.sh_eval.specs.declared.outcomes.How.TheVariants as how
use Rattle.sh_eval.specs.declared.stops.RedirectionError.{RedirectionError}
use Rattle.sh_eval.specs.declared.stops.RedirectionError.TheVariants as stop
use Rattle.sh_eval.specs.Targets.{Target}
use Rattle.sh_eval.specs.States.{State, Means, on}
use Rattle.sh_eval.specs.Redirections.{redirecting, skipped, is_read}
use Rattle.sh_eval.specs.declared.session.Session.{Session}
use Rattle.sh_eval.specs.Contract.{Point, Base, Has, Evaluates, IsSound}
use Rattle.sh_eval.specs.Redirecting.{LeavesOn, Breaks}

-- what is meant at a state is what another command means at the state behind
pub record ReachesAt (base : Base) (first second : Means) (state : State) (new : Point) : Type 0 where
  pub behind : State
  pub has : Has base new behind
  pub same : first state ≡ second behind

-- and so it is for every way on, and for every command that comes next
pub record Reaches (first second : Flow → Means → Means) (old new : Point) : Type 0 where
  pub at : (way : Flow) (next : Means) (base : Base) (state : State) → Has base old state → ReachesAt base (first way next) (second way next) state new
  pub leaves_on : LeavesOn old new

-- the paths that redirections write
abbrev pub written_by : List Target → State → List Components
written_by targets state = (redirecting flow.On targets on state).state.world.written

-- redirections are done, or the first that stops is told
abbrev pub DoesAll : List Target → Point → Point → Result Unit RedirectionError → Type 0
DoesAll targets old new (Ok value) = Reaches (λ way. redirecting way targets) (λ way next. next) old new
DoesAll targets old new (Err (stop.Line line)) = Reaches (λ way. redirecting way targets) (λ way next. skipped way line) old new
DoesAll targets old new (Err stop.Tree) = Breaks (written_by targets) old new × Rose old.faults.tree new.faults.tree
DoesAll targets old new (Err stop.Memory) = Breaks (written_by targets) old new

-- one of them has descriptor 0 read something else
abbrev pub has_read : List Target → Bool
has_read targets = list_any (λ target. is_read target.how) targets

-- what descriptor 0 read is kept where it reads something else now, and else it reads it still
pub record Remembers (reads_other : Bool) (from now : From) (first before : Before) : Type 0 where
  pub is : before ≡ (if reads_other then record first { from = Some from } else first)
  pub same : reads_other ≡ false → now ≡ from

-- and where one of them has stopped
pub record RemembersSome (targets : List Target) (from now : From) (first before : Before) : Type 0 where
  pub reads_other : Bool
  pub of_them : reads_other ≡ true → has_read targets ≡ true
  pub remembers : Remembers reads_other from now first before

-- a line can be told here, if there is one
abbrev pub CanSkip : RedirectionError → Session → TreeState → Type 0
CanSkip (stop.Line line) session tree = IsSound session tree
CanSkip stop.Tree session tree = Unit {0}
CanSkip stop.Memory session tree = Unit {0}

-- a command is skipped where one of its redirections stopped
abbrev pub Skips : RedirectionError → Flow → Point → How → Point → Type 0
Skips (stop.Line line) way old came new = Evaluates (λ expansions. skipped way line) old came new
Skips stop.Tree way old came new = (came ≡ how.TreeFault) × (new ≡ old)
Skips stop.Memory way old came new = (came ≡ how.Memory) × (new ≡ old)
