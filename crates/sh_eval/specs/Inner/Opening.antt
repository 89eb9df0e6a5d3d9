-- What stands around a command whose redirections are done before it and taken back behind it, for the functions that do so.
use Rattle.std.specs.Prelude.{◌≡◌, ℕ, List, [], ◌++◌, Option, Some, None}
use Rattle.ps_world.specs.TreeState.{TreeState}
use Rattle.ps_world.specs.declared.error.WorldErr.{WorldErr}
use Rattle.ps_world.specs.declared.error.WorldErr.TheVariants as error
use Rattle.sh_expand.specs.Outcomes.{Expansions}
use Rattle.sh_eval.specs.declared.flows.Flow.{Flow}
use Rattle.sh_eval.specs.declared.flows.Flow.TheVariants as flow
use Rattle.sh_eval.specs.declared.leading.Before.{Before}
use Rattle.sh_eval.specs.declared.outcomes.How.{How}
use Rattle.sh_eval.specs.declared.outcomes.How.TheVariants as how
use Rattle.sh_eval.specs.declared.refusals.Refusal.TheVariants as refusal
use Rattle.sh_eval.specs.declared.session.Session.{Session}
use Rattle.sh_eval.specs.States.{State, Means, in_streams}
use Rattle.sh_eval.specs.Targets.{Target}
use Rattle.sh_eval.specs.Redirections.{Use, uses_of, where_free, in_redirections, holding}
use Rattle.sh_eval.specs.Leading.{put_back}
use Rattle.sh_eval.specs.Growth.{Adds}
use Rattle.sh_eval.specs.declared.shell.Shell.{Shell}
use Rattle.sh_eval.specs.Contract.{Seen, Point, point_of, faults_of, Meaning, Evaluates}

-- what goes on where no path is busy that the operands of a command use, or its redirections
abbrev pub freed : (State → List Use) → List Target → (State → Means) → Means
freed uses targets inner state = where_free (uses state ++ uses_of state targets) (inner state) state

-- a command in its redirections
abbrev pub opened : Flow → (State → List Use) → List Target → Means → Means
opened way uses targets next state = freed uses targets (λ at_first. in_redirections way targets next) state

-- the commands of a compound one in its redirections, whose paths it holds
abbrev pub held_opened : List Target → Means → Means
held_opened targets next state =
    freed (λ at_first. []) targets (λ at_first. in_redirections flow.On targets (λ inner. next (holding (uses_of at_first targets) inner))) state

-- the descriptors lead where they led, if they were led elsewhere
abbrev pub closed : Option Before → Session → Session
closed None session = session
closed (Some before) session = in_streams (put_back before) session

-- redirections are done: what is evaluated in them is, once they are taken back, evaluated with them
abbrev pub Opens : (Expansions → Means → Means) → Point → Option Before → Point → Type 0
Opens around old before mid =
    (next : Meaning) (came : How) (last : Point) (session : Session) → Evaluates next mid came last → session ≡ closed before last.session
    → Evaluates (λ expansions. around expansions (next expansions)) old came (point_of last.shell session last.tree last.seen last.faults)

-- or the command is over with them, whatever would go on
abbrev pub Shuts : (Expansions → Means → Means) → Point → How → Point → Type 0
Shuts around old came new =
    (next : Meaning) → ((expansions : Expansions) → Adds (next expansions)) → Evaluates (λ expansions. around expansions (next expansions)) old came new

-- these uses were found where a tree tells its files
abbrev pub FindsUses : TreeState → List Use → (State → List Use) → Type 0
FindsUses tree uses found = (state : State) → tree.held ≡ Some state.world.files → tree.home ≡ state.world.home → uses ≡ found state

-- how a command is over at which the tree failed, or memory was refused
abbrev pub how_of : WorldErr → How
how_of error.Failed = how.TreeFault
how_of error.Memory = how.Memory

-- it was over so before anything was done, whatever it was to do
abbrev pub LooksInVain : How → TreeState → TreeState → ℕ → ℕ → Type 0
LooksInVain came old new before now =
    (means : Meaning) → ((expansions : Expansions) → Adds (means expansions)) → (shell : Shell) (session : Session) (seen : Seen) (input output errors : ℕ)
    → Evaluates means (point_of shell session old seen (faults_of input output errors before)) came (point_of shell session new seen (faults_of input output errors now))

-- the run is refused since this path is busy, where there is memory to say so
pub data IsBusy (came : How) (text : List ℕ) : Type 0 where
  is_told : came ≡ how.Gone (flow.Refused (refusal.PathBusy text)) → IsBusy came text
  is_wanted : came ≡ how.Memory → IsBusy came text
