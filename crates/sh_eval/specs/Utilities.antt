-- The utilities of the table, as a shell runs them (XCU 2.9.1, and each utility's page): their operands are looked up, what can't be read
-- is told, and the output for what can be read is written. What a utility writes for its inputs is its own matter, and given here.
use Rattle.std.specs.Prelude.{ℕ, List, [], ◌∷◌, ◌++◌, Bool, true, false, ◌&&◌, ◌||◌, map, take, length, ◌-◌, if◌then◌else◌}
use Rattle.std.specs.List.{list_any, flat_map}
use Rattle.ps_world.specs.Files.{bytes_at}
use Rattle.ps_world.specs.declared.places.Place.{Place}
use Rattle.ps_world.specs.declared.places.Place.TheVariants as place
use Rattle.ut_args.specs.Inputs.{is_standard, operands_by}
pub use Rattle.ut_args.specs.Inputs.{deals}
use Rattle.ut_args.specs.declared.commands.Command.{Command}
use Rattle.ut_args.specs.declared.commands.Command.TheVariants as command
use Rattle.ut_streams.specs.Utilities.{Input}
use Rattle.fl_segments.specs.Noted.{Noted}
use Rattle.fl_commands.specs.Inputs.{noted_over, status_of}
use Rattle.fl_commands.specs.Operands.{lacks, named}
use Rattle.sh_eval.specs.States.{World, State, Means, on, in_world, leaves, puts, tells, to_read, reads_to}
use Rattle.sh_eval.specs.Lines.{diagnostic, no_such_file, is_a_directory}
use Rattle.sh_eval.specs.Redirections.{Use, named_by}

-- what an operand gives: an input, nothing, or a line of why there is none
pub data Given : Type 0 where
  input : Input → Given
  nothing : Given
  complaint : List ℕ → Given

-- the patterns of an invocation are read, or have their first fault: one that is bad usage, or a back-reference of this pattern
pub data Patterns : Type 0 where
  read : Patterns
  wrong : Patterns
  refers_back : List ℕ → Patterns

-- words that call a utility, and what they ask it to do
pub record Called : Type 0 where
  pub words : List (List ℕ)
  pub command : Command

-- what the page of each utility says: what becomes of its patterns, and for its inputs what it writes and whether it selects a line
pub record Pages : Type 0 where
  pub patterns : Command → Patterns
  pub output : Command → List Input → List ℕ
  pub selects : Command → List Input → Bool

-- nothing is told of an operand that has no input (XCU grep)
abbrev pub is_silent : Command → Bool
is_silent (command.Grep args) = args.silent
is_silent other = false

-- nothing at all is done where an operand has no input (own)
abbrev pub needs_all : Command → Bool
needs_all (command.Sort args) = true
needs_all (command.Paste args) = true
needs_all (command.Tail args) = true
needs_all (command.Uniq args) = true
needs_all other = false

-- the words with the empty text, which names nothing, in place of the operands that have no input. The operands are the last words
abbrev pub words_without : (List ℕ → Bool) → Called → List (List ℕ)
words_without is_lacking called =
    take (length called.words - length (operands_by called.command)) called.words
    ++ map (λ operand. if is_lacking operand then [] else operand) (operands_by called.command)

abbrev pub file_input : State → List ℕ → List ℕ → Place → Given
file_input state name operand place.Missing = complaint (diagnostic name operand no_such_file)
file_input state name operand (place.Makeable path) = complaint (diagnostic name operand no_such_file)
file_input state name operand (place.Dir path) = complaint (diagnostic name operand is_a_directory)
file_input state name operand (place.File path) = input (record { label = operand; text = bytes_at state.world.files path })
file_input state name operand place.Null = input (record { label = operand; text = [] })

-- the standard input, which the first `-` takes to its end: the next ones are empty, or none at all where its lines are dealt to all
abbrev pub standard_input : State → List ℕ → Given
standard_input state operand = input (record { label = operand; text = to_read state })

abbrev pub standard_again : Bool → List ℕ → Given
standard_again deals operand = if deals then nothing else input (record { label = operand; text = [] })

-- what the operands give, from the left
abbrev pub given_from : State → Bool → List ℕ → Bool → List (List ℕ) → List Given
given_from state deals name is_taken [] = []
given_from state deals name is_taken (operand ∷ operands) =
    if is_standard operand then (if is_taken then standard_again deals operand else standard_input state operand) ∷ given_from state deals name true operands
    else file_input state name operand (named_by state operand) ∷ given_from state deals name is_taken operands

abbrev pub given_to : State → Bool → List ℕ → List (List ℕ) → List Given
given_to state deals name [] = input (record { label = []; text = to_read state }) ∷ []
given_to state deals name (operand ∷ operands) = given_from state deals name false (operand ∷ operands)

abbrev pub inputs_in : List Given → List Input
inputs_in [] = []
inputs_in (input text ∷ rest) = text ∷ inputs_in rest
inputs_in (nothing ∷ rest) = inputs_in rest
inputs_in (complaint line ∷ rest) = inputs_in rest

abbrev pub complaints_in : List Given → List (List ℕ)
complaints_in [] = []
complaints_in (input text ∷ rest) = complaints_in rest
complaints_in (nothing ∷ rest) = complaints_in rest
complaints_in (complaint line ∷ rest) = line ∷ complaints_in rest

-- the standard input is read: there is no operand, or a `-` among them
abbrev pub reads_standard : List (List ℕ) → Bool
reads_standard [] = true
reads_standard (operand ∷ operands) = list_any is_standard (operand ∷ operands)

-- an operand has no input
abbrev pub has_none : State → List ℕ → Bool
has_none state operand = lacks (named state.world.files state.world.home operand)

-- what a command uses: its inputs
abbrev pub read_use : State → List ℕ → List Use
read_use state operand = if is_standard operand then [] else record { text = operand; place = named_by state operand; writes = false } ∷ []

-- these utilities have run
abbrev pub notes : List Noted → World → World
notes ran world = record world { ran = world.ran ++ ran }

-- the standard input is taken to its end, where it is read
abbrev pub taken_in : Bool → State → State
taken_in reads state = if reads then reads_to [] state else state

-- lines are told, if there is one
abbrev pub tells_some : List ℕ → State → State
tells_some [] state = state
tells_some (byte ∷ bytes) state = tells (byte ∷ bytes) state

-- those that tell of operands without an input
abbrev pub lines_told : Command → List Given → List ℕ
lines_told called given = if is_silent called then [] else flat_map (λ line. line) (complaints_in given)

module _ (pages : Pages) where
  abbrev pub uses_by_operands : Called → State → List Use
  uses_by_operands called state = flat_map (read_use state) (operands_by called.command)

  -- the inputs are taken, a status is left, and the output is written
  abbrev pub takes_inputs : List ℕ → Called → Means
  takes_inputs name called state =
      let operands = operands_by called.command in
      let inputs = inputs_in (given_to state (deals called.command) name operands) in
      let noted = notes (noted_over called.command (words_without (has_none state) called) (length inputs)) in
      let status = status_of called.command (list_any (has_none state) operands) (pages.selects called.command inputs) in
      on (puts (pages.output called.command inputs) (leaves status (in_world noted (taken_in (reads_standard operands) state))))

  -- what can't be read is told before
  abbrev pub writes_out : List ℕ → Called → Means
  writes_out name called state =
      takes_inputs name called (tells_some (lines_told called.command (given_to state (deals called.command) name (operands_by called.command))) state)

  -- some do nothing at all where an operand has no input, but to tell of it (own)
  abbrev pub does_nothing : List ℕ → Called → Means
  does_nothing name called state =
      let given = given_to state (deals called.command) name (operands_by called.command) in
      on (leaves (status_of called.command true false) (tells_some (lines_told called.command given) state))

  abbrev pub runs_utility : List ℕ → Called → Means
  runs_utility name called state =
      if needs_all called.command && list_any (has_none state) (operands_by called.command) then does_nothing name called state
      else writes_out name called state
