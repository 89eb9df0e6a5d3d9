-- The words of the command line (own): `run W SCRIPT ARG*`, `exec GRAPH`, `gen SEED LINES` and `trial SEED LINES W`.
use Rattle.std.specs.Prelude.{ℕ, ◌-◌, ◌^◌, String, List, [], ◌∷◌, Bool, true, false, ◌&&◌, Option, Some, None, if◌then◌else◌, nat_eq, nat_le, codes, map}
use Rattle.std.specs.Global.{Global}
use Rattle.std.specs.Option.{option_map, option_and_then}
use Rattle.std.specs.Str.{bytes_eq}
use Rattle.std.specs.String.{string_bytes}
use Rattle.ps_lines.specs.Numbers.{number_of}
use Rattle.pash.specs.declared.command.Command.{Command as ReadCommand}
use Rattle.pash.specs.declared.command.Command.TheVariants as read
use Rattle.pash.specs.declared.command.RunCommand.{RunCommand as ReadRun}
use Rattle.pash.specs.declared.command.Sample.{Sample}
use Rattle.pash.specs.declared.command.TheConstants.{MOST_LINES, MOST_WIDTH}

-- a command to run a script with these arguments, at a width
pub record RunCommand : Type 0 where
  pub width : ℕ
  pub script : List ℕ
  pub arguments : List (List ℕ)

pub data Command : Type 0 where
  -- runs a script
  run : RunCommand → Command
  -- runs the graph whose text stands in the file at this path
  exec : List ℕ → Command
  -- writes the text that a seed gives
  gen : Sample → Command
  -- runs the trial's script, as a script that has such a name, over this text
  trial : Sample → RunCommand → Command

-- the words' texts
abbrev pub texts : List (String Global) → List (List ℕ)
texts words = map string_bytes words

-- the text is longer than one byte, and begins with the digit zero
abbrev pub has_leading_zero : List ℕ → Bool
has_leading_zero [] = false
has_leading_zero (byte ∷ []) = false
has_leading_zero (byte ∷ next ∷ rest) = nat_eq byte 48

-- a number from one to another
abbrev pub as_within : ℕ → ℕ → ℕ → Option ℕ
as_within least most number = if nat_le least number && nat_le number most then Some number else None

-- such a number in decimal, without a sign or a leading zero
abbrev pub within_of : ℕ → ℕ → List ℕ → Option ℕ
within_of least most text = if has_leading_zero text then None else option_and_then (as_within least most) (number_of text)

abbrev pub width_of : List ℕ → Option ℕ
width_of text = within_of 1 MOST_WIDTH text

abbrev pub seed_of : List ℕ → Option ℕ
seed_of text = within_of 0 (2 ^ 32 - 1) text

abbrev pub lines_of : List ℕ → Option ℕ
lines_of text = within_of 1 MOST_LINES text

-- a text of so many lines from a seed
abbrev pub sample_from : Option ℕ → Option ℕ → Option Sample
sample_from None lines = None
sample_from (Some seed) None = None
sample_from (Some seed) (Some lines) = Some (record { seed = seed; lines = lines })

abbrev pub sample_of : List ℕ → List ℕ → Option Sample
sample_of seed lines = sample_from (seed_of seed) (lines_of lines)

abbrev pub trial_from : Option Sample → Option ℕ → Option Command
trial_from None width = None
trial_from (Some sample) None = None
trial_from (Some sample) (Some width) = Some (trial sample (record { width = width; script = codes "trial"; arguments = [] }))

-- what a command that was read says
abbrev pub as_run : ReadRun → RunCommand
as_run command = record { width = command.width; script = command.script.now; arguments = texts command.arguments.now }

abbrev pub as_command : ReadCommand → Command
as_command (read.Run command) = run (as_run command)
as_command (read.Exec graph) = exec graph.now
as_command (read.Gen sample) = gen sample
as_command (read.Trial sample command) = trial sample (as_run command)

-- what the words behind a command's name ask for
abbrev pub run_by : List (List ℕ) → Option Command
run_by [] = None
run_by (width ∷ []) = None
run_by (width ∷ script ∷ arguments) = option_map (λ number. run (record { width = number; script = script; arguments = arguments })) (width_of width)

abbrev pub exec_by : List (List ℕ) → Option Command
exec_by [] = None
exec_by (graph ∷ []) = Some (exec graph)
exec_by (graph ∷ other ∷ rest) = None

abbrev pub gen_by : List (List ℕ) → Option Command
gen_by [] = None
gen_by (seed ∷ []) = None
gen_by (seed ∷ lines ∷ []) = option_map gen (sample_of seed lines)
gen_by (seed ∷ lines ∷ other ∷ rest) = None

abbrev pub only_width_of : List (List ℕ) → Option ℕ
only_width_of [] = None
only_width_of (width ∷ []) = width_of width
only_width_of (width ∷ other ∷ rest) = None

abbrev pub trial_by : List (List ℕ) → Option Command
trial_by [] = None
trial_by (seed ∷ []) = None
trial_by (seed ∷ lines ∷ words) = trial_from (sample_of seed lines) (only_width_of words)

-- what the words ask for; None where they are no command
unfoldable pub command_of : List (List ℕ) → Option Command
command_of [] = None
command_of (name ∷ words) =
    if bytes_eq name (codes "run") then run_by words
    else if bytes_eq name (codes "exec") then exec_by words
    else if bytes_eq name (codes "gen") then gen_by words
    else if bytes_eq name (codes "trial") then trial_by words else None

-- the command reads the input
abbrev pub reads_input : Option Command → Bool
reads_input None = false
reads_input (Some (run command)) = true
reads_input (Some (exec graph)) = true
reads_input (Some (gen sample)) = false
reads_input (Some (trial sample command)) = false

-- it looks at files
abbrev pub uses_files : Option Command → Bool
uses_files None = false
uses_files (Some (run command)) = true
uses_files (Some (exec graph)) = true
uses_files (Some (gen sample)) = false
uses_files (Some (trial sample command)) = true
