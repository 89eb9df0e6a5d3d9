-- The inputs of a utility, by what its operands name, for the functions that look them up.
use Rattle.std.specs.Prelude.{◌≡◌, ℕ, List, [], ◌∷◌, ◌++◌, Bool, true, false, map, Some, IfSome, if◌then◌else◌}
use Rattle.std.specs.List.{list_any}
use Rattle.ps_world.specs.TreeState.{TreeState}
use Rattle.ps_world.specs.declared.places.Place.{Place}
use Rattle.ps_world.specs.declared.places.Place.TheVariants as place
use Rattle.ut_args.specs.Inputs.{operands_of}
use Rattle.ut_args.specs.Invocations.{command_of, words_of}
use Rattle.ut_args.specs.declared.invocations.Inv.{Inv}
use Rattle.fl_segments.specs.Chains.{begins_with}
use Rattle.fl_segments.specs.Stages.{is_shell_input}
use Rattle.fl_segments.specs.declared.stages.First.{First}
use Rattle.fl_commands.specs.Inputs.{status_of}
use Rattle.fl_commands.specs.Operands.{AllStand, AreNamed, named}
pub use Rattle.fl_commands.specs.Operands.{is_stream_operand}
use Rattle.fl_commands.specs.declared.operands.Operand.{Operand}
use Rattle.fl_commands.specs.declared.operands.Operand.TheVariants as operand
use Rattle.fl_commands.specs.declared.runs.Ended.{Ended}
use Rattle.fl_commands.specs.declared.runs.Ended.TheVariants as ended
use Rattle.sh_eval.specs.declared.flows.Flow.TheVariants as flow
use Rattle.sh_eval.specs.declared.outcomes.How.{How}
use Rattle.sh_eval.specs.declared.outcomes.How.TheVariants as how
use Rattle.sh_eval.specs.declared.session.Session.{Session}
use Rattle.sh_eval.specs.declared.shell.Shell.{Shell}
use Rattle.sh_eval.specs.declared.streams.From.{From}
use Rattle.sh_eval.specs.declared.streams.From.TheVariants as from
use Rattle.sh_eval.specs.Lines.{diagnostic, no_such_file, is_a_directory}
use Rattle.sh_eval.specs.Shells.{with_status}
use Rattle.sh_eval.specs.States.{State, Means, on, leaves, reading}
use Rattle.sh_eval.specs.Table.{pages}
use Rattle.sh_eval.specs.Utilities.{Called, is_silent, takes_inputs}

-- the words that call a utility
abbrev pub called_by : Inv → Called
called_by inv = record { words = words_of inv; command = command_of inv }

-- the line of why an operand has no input
abbrev pub line_at : List ℕ → List ℕ → Place → List ℕ
line_at name text place.Missing = diagnostic name text no_such_file
line_at name text (place.Makeable path) = diagnostic name text no_such_file
line_at name text (place.Dir path) = diagnostic name text is_a_directory
line_at name text (place.File path) = []
line_at name text place.Null = []

abbrev pub line_of : List ℕ → List ℕ → Operand → List ℕ
line_of name text operand.Standard = []
line_of name text (operand.At place) = line_at name text place

abbrev pub lines_of : List ℕ → List (List ℕ) → List Operand → List ℕ
lines_of name [] operands = []
lines_of name (text ∷ texts) [] = []
lines_of name (text ∷ texts) (first ∷ rest) = line_of name text first ++ lines_of name texts rest

-- they are what these texts name, where a tree tells its files
abbrev pub AreNamedIn : TreeState → List (List ℕ) → List Operand → Type 0
AreNamedIn tree texts operands =
    (state : State) → tree.held ≡ Some state.world.files → tree.home ≡ state.world.home → operands ≡ map (named state.world.files state.world.home) texts

-- they are what these texts name in the tree, and what they name stands there
pub record IsLooked (tree : TreeState) (texts : List (List ℕ)) (operands : List Operand) : Type 0 where
  pub named : AreNamedIn tree texts operands
  pub stand : IfSome tree.held (λ files. AllStand files operands)
  pub are : AreNamed texts operands

-- an operand is the standard input, or there is none
abbrev pub reads_stream : List Operand → Bool
reads_stream [] = true
reads_stream (first ∷ rest) = list_any is_stream_operand (first ∷ rest)

-- what descriptor 0 gives, where the run's own input is this
abbrev pub text_from : From → List ℕ → List ℕ
text_from from.Standard input = input
text_from (from.Kept text) input = text

-- descriptor 0 reads the run's own input
abbrev pub is_own_input : From → Bool
is_own_input from.Standard = true
is_own_input (from.Kept text) = false

-- nothing is left of a text that descriptor 0 reads
abbrev pub taken_from : From → From
taken_from from.Standard = from.Standard
taken_from (from.Kept text) = from.Kept []

-- the stream of a utility is taken from descriptor 0, where it is read
pub record TakesStream (reads : Bool) (old new : Session) (first : First) : Type 0 where
  pub session : new ≡ (if reads then reading (taken_from old.streams.from) old else old)
  pub begins : reads ≡ true → (input : List ℕ) → begins_with first input ≡ text_from old.streams.from input
  pub own : reads ≡ true → is_shell_input first ≡ is_own_input old.streams.from

-- how a command goes on behind a utility that came out so, and the shell then
abbrev pub how_ended : Ended → How
how_ended (ended.Done status) = how.Gone flow.On
how_ended ended.Input = how.ReadFault
how_ended ended.Output = how.WriteFault
how_ended ended.Tree = how.TreeFault
how_ended ended.Memory = how.Memory

abbrev pub shell_ended : Ended → Shell → Shell
shell_ended (ended.Done status) shell = with_status status shell
shell_ended ended.Input shell = shell
shell_ended ended.Output shell = shell
shell_ended ended.Tree shell = shell
shell_ended ended.Memory shell = shell

-- the lines of an invocation's operands without an input, where it tells them
abbrev pub lines_by : List ℕ → Inv → List Operand → List ℕ
lines_by name inv operands = if is_silent (command_of inv) then [] else lines_of name (operands_of inv) operands

-- what a utility means behind the lines that were told: nothing but a status, or its output for what can be read
abbrev pub runs_behind : Bool → List ℕ → Inv → Means
runs_behind skips name inv state =
    if skips then on (leaves (status_of (command_of inv) true false) state) else takes_inputs pages name (called_by inv) state
