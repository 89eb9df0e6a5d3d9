-- What is run over its inputs, for the functions that run it (own): what it makes of a state, and what is asked for of it.
use Rattle.std.specs.Prelude.{◌≡◌, ◌≤◌, ◌<◌, ◌+◌, ◌^◌, ℕ, List, [], ◌∷◌, ◌&&◌, Bool, true, false, length, map, Some, IfSome, if◌then◌else◌}
use Rattle.std.specs.List.{flat_map, list_any}
use Rattle.ps_world.specs.Files.{Files}
use Rattle.ps_world.specs.Paths.{Components}
use Rattle.ps_world.specs.TreeState.{TreeState}
use Rattle.ut_args.specs.Built.{is_built_of}
use Rattle.ut_args.specs.Inputs.{operands_of}
use Rattle.ut_args.specs.Invocations.{command_of}
use Rattle.ut_args.specs.declared.invocations.Inv.{Inv}
use Rattle.ut_streams.specs.Utilities.{Input}
use Rattle.fl_segments.specs.Chains.{begins_with}
use Rattle.fl_segments.specs.Noted.{Noted}
use Rattle.fl_segments.specs.Stages.{is_shell_input, is_tee}
use Rattle.fl_segments.specs.declared.stages.First.{First}
use Rattle.fl_segments.specs.declared.chains.TheConstants.{MAX_STAGES}
use Rattle.fl_commands.specs.Inputs.{noted_over, output_for, selects_for, status_of}
use Rattle.fl_commands.specs.Members.{AllCanRun, AllNamesStand, files_teed}
use Rattle.fl_commands.specs.Operands.{AllStand, AreNamed}
use Rattle.fl_commands.specs.Runs.{Asks, command_asks, pipeline_asks}
use Rattle.fl_commands.specs.Writers.{AreFilesAt, all_added}
use Rattle.fl_commands.specs.declared.members.Member.{Member}
use Rattle.fl_commands.specs.declared.operands.Operand.{Operand}
use Rattle.fl_commands.specs.declared.runs.Ended.{Ended}
use Rattle.fl_commands.specs.declared.runs.Ended.TheVariants as ended
use Rattle.sh_eval.specs.declared.utilities.Task.{Task}
use Rattle.sh_eval.specs.declared.utilities.Task.TheVariants as task
use Rattle.sh_eval.specs.Inner.Inputs.{called_by, is_own_input, reads_stream}
use Rattle.sh_eval.specs.Segments.{ran_of, reads_first, status_through, text_through}
use Rattle.sh_eval.specs.States.{State, Means, in_world, leaves, to_read}
use Rattle.sh_eval.specs.Table.{pages}
use Rattle.sh_eval.specs.Teeing.{ran_by, spreads}
use Rattle.sh_eval.specs.Utilities.{Called, deals, given_to, has_none, inputs_in, notes, reads_standard, taken_in, words_without}

-- what is done to a state in which all lines are told: what is written, the status that is left, the utilities that are noted, and whether
-- the standard input is read
pub record Does : Type 0 where
  pub written : State → List ℕ
  pub status : State → ℕ
  pub ran : State → List Noted
  pub reads : Bool

-- all but what is written
abbrev pub takes_in : Does → State → State
takes_in does state = leaves (does.status state) (in_world (notes (does.ran state)) (taken_in does.reads state))

-- what is written goes to the output and to these files
abbrev pub takes : List Components → Does → Means
takes files does state = spreads files (does.written state) (takes_in does state)

-- each of these files has this text behind what it held
abbrev pub given_all : List Components → List ℕ → Files → Files
given_all paths text files = all_added paths (map (λ path. text) paths) files

-- what a run begins with is what descriptor 0 gives, where that is read
pub record Begins (reads : Bool) (first : First) (state : State) : Type 0 where
  pub text : reads ≡ true → begins_with first state.world.input ≡ to_read state
  pub own : reads ≡ true → is_shell_input first ≡ is_own_input state.session.streams.from

-- what is asked for, and whether the standard input is read for it, is what is done
pub record IsMeant (asks : Asks) (reads : Bool) (does : Does) (state : State) : Type 0 where
  pub same : reads ≡ does.reads
  pub output : asks.output state.world.input state.world.files ≡ does.written state
  pub status : asks.status state.world.input state.world.files ≡ does.status state
  pub noted : asks.noted ≡ does.ran state
  pub drawn : asks.reads ≡ (reads && is_own_input state.session.streams.from)
  -- each file that it writes gets what is written
  pub added : (files : Files) → all_added asks.paths (asks.texts state.world.input state.world.files) files ≡ given_all asks.paths (does.written state) files

-- in each state of this tree, whatever the run begins with
abbrev pub AreMeant : (First → Asks) → Bool → Does → TreeState → Type 0
AreMeant asks reads does tree =
    (first : First) (state : State) → tree.held ≡ Some state.world.files → tree.home ≡ state.world.home → Begins reads first state → IsMeant (asks first) reads does state

-- TASKS. tee runs with some of its files, or with none, and leaves this status
abbrev pub tee_asks : Inv → ℕ → List Components → First → Asks
tee_asks inv status files first = record (command_asks inv [] files first) { status = λ input held. status }

abbrev pub ended_with : ℕ → Ended → Ended
ended_with status (ended.Done its) = ended.Done status
ended_with status ended.Input = ended.Input
ended_with status ended.Output = ended.Output
ended_with status ended.Tree = ended.Tree
ended_with status ended.Memory = ended.Memory

-- what is asked for, where the run itself writes these files
abbrev pub asks_of : Task → List Components → First → Asks
asks_of (task.Utility inv operands) files first = command_asks inv.now operands.now [] first
asks_of (task.Tee inv status) files first = tee_asks inv.now status files first
asks_of (task.Pipeline members) files first = pipeline_asks members.now first

abbrev pub reads_head : List Member → Bool
reads_head [] = false
reads_head (first ∷ rest) = reads_stream first.operands.items

-- the standard input is read
abbrev pub reads_of : Task → Bool
reads_of (task.Utility inv operands) = reads_stream operands.now
reads_of (task.Tee inv status) = true
reads_of (task.Pipeline members) = reads_head members.now

-- it can be run, and write these files
pub record CanRunUtility (inv : Inv) (operands : List Operand) (files : List Components) (tree : TreeState) : Type 0 where
  pub fileless : files ≡ []
  pub built : is_built_of inv ≡ true
  pub named : AreNamed (operands_of inv) operands
  pub few : length operands + 1 < 2 ^ 32
  pub stand : IfSome tree.held (λ files. AllStand files operands)

pub record CanRunTee (inv : Inv) (files : List Components) (tree : TreeState) : Type 0 where
  pub tee : is_tee inv ≡ true
  pub there : IfSome tree.held (λ held. AreFilesAt held files)

pub record CanRunPipeline (members : List Member) (files : List Components) (tree : TreeState) : Type 0 where
  pub fileless : files ≡ []
  pub some : 1 ≤ length members
  pub most : length members ≤ MAX_STAGES
  pub ready : AllCanRun members
  pub teeless : files_teed members ≡ []
  pub stand : IfSome tree.held (λ files. AllNamesStand files members)

abbrev pub CanRun : Task → List Components → TreeState → Type 0
CanRun (task.Utility inv operands) files tree = CanRunUtility inv.now operands.now files tree
CanRun (task.Tee inv status) files tree = CanRunTee inv.now files tree
CanRun (task.Pipeline members) files tree = CanRunPipeline members.now files tree

-- WHAT IS DONE by one utility, by tee, and by those of a pipeline
abbrev pub inputs_of : List ℕ → Inv → State → List Input
inputs_of name asked state = inputs_in (given_to state (deals (command_of asked)) name (operands_of asked))

abbrev pub utility_does : List ℕ → Inv → Does
utility_does name asked =
    record {
      written = λ state. output_for (command_of asked) (inputs_of name asked state);
      status = λ state. status_of (command_of asked) (list_any (has_none state) (operands_of asked)) (selects_for (command_of asked) (inputs_of name asked state));
      ran = λ state. noted_over (command_of asked) (words_without (has_none state) (called_by asked)) (length (inputs_of name asked state));
      reads = reads_standard (operands_of asked);
    }

abbrev pub tee_does : Called → ℕ → Does
tee_does called status = record { written = to_read; status = λ state. status; ran = λ state. ran_by called; reads = true }

abbrev pub pipeline_does : List Called → Does
pipeline_does members =
    record {
      written = λ state. text_through pages state members (to_read state);
      status = λ state. status_through pages state members (to_read state);
      ran = λ state. flat_map (ran_of state) members;
      reads = reads_first members;
    }
