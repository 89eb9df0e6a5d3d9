-- What the words of the command line come to before anything runs: an answer, a script with what it begins with, or a graph.
use Rattle.std.specs.Prelude.{◌≡◌, ℕ, List, Bool, true, false, Option, Some, None, Result, Ok, Err, codes}
use Rattle.ps_world.specs.Paths.{Components}
use Rattle.ps_world.specs.Files.{Files, bytes_at}
use Rattle.ps_world.specs.Places.{resolve}
use Rattle.ps_world.specs.TreeState.{TreeState}
use Rattle.ps_world.specs.declared.Place.{Place}
use Rattle.ps_world.specs.declared.Place.TheVariants as place
use Rattle.fl_graph.specs.declared.graphs.Graph.{Graph}
use Rattle.fl_text.specs.Readings.{reading}
use Rattle.fl_printed.specs.Checks.{CanRun, checked_over}
use Rattle.fl_printed.specs.declared.checks.Unfit.{Unfit}
use Rattle.sh_tree.specs.Trees.{ScriptTree}
use Rattle.sh_tree.specs.Views.{script_tree}
use Rattle.sh_parse.specs.Outcomes.{Outcome, Readings}
use Rattle.sh_parse.specs.Outcomes as parsed
use Rattle.sh_eval.specs.Shells.{started}
use Rattle.sh_eval.specs.declared.shell.Shell.{Shell}
use Rattle.pash.specs.Answers.{IsOfRun, IsOfScript, answer_of, refusal_of}
use Rattle.pash.specs.Samples.{sample_text}
use Rattle.pash.specs.Words.{Command, RunCommand, exec, gen, run, trial}
use Rattle.pash.specs.declared.command.Sample.{Sample}
use Rattle.pash.specs.declared.answers.Why.{Why}
use Rattle.pash.specs.declared.answers.Why.TheVariants as why
use Rattle.pash.specs.declared.starts.Setup.{Setup}
use Rattle.pash.specs.declared.starts.Start.{Start as ReadStart}
use Rattle.pash.specs.declared.starts.Start.TheVariants as read

pub data Start : Type 0 where
  -- nothing runs, and this is the answer
  answered : Why → Start
  -- this script runs, and begins so
  runs : ScriptTree → Setup → Start
  -- this graph runs
  executes : Graph → Start
  -- this text is written
  writes : List ℕ → Start
  -- this script runs so over this text
  tries : ScriptTree → Setup → List ℕ → Start

-- the path of the file that a place names, where it names one
abbrev pub file_of : Place → Option Components
file_of place.Missing = None
file_of (place.Makeable path) = None
file_of (place.Dir path) = None
file_of (place.File path) = Some path
file_of place.Null = None

-- the shell of a command's script: `$0` is the script's path as it was given, and `$1` and on are the arguments
abbrev pub shell_of : RunCommand → Shell
shell_of command = started command.script command.arguments

-- what it begins with
abbrev pub setup_of : RunCommand → Setup
setup_of command = record { shell = shell_of command; width = command.width }

-- a text that is a script runs, and any other is refused
abbrev pub start_of_outcome : Setup → Outcome → Start
start_of_outcome setup (parsed.script tree) = runs tree setup
start_of_outcome setup (parsed.refused cause) = answered (why.Refused (refusal_of cause))

-- a graph that can run does, and any other text is told why
abbrev pub start_of_checked : Result Graph Unfit → Start
start_of_checked (Ok graph) = executes graph
start_of_checked (Err cause) = answered (answer_of cause)

-- the text that a seed gives
abbrev pub text_of : Sample → List ℕ
text_of sample = sample_text sample.seed sample.lines

-- the script runs over this text, where one runs
abbrev pub over_text : List ℕ → Start → Start
over_text text (answered answer) = answered answer
over_text text (runs tree setup) = tries tree setup text
over_text text (executes graph) = executes graph
over_text text (writes other) = writes other
over_text text (tries tree setup other) = tries tree setup other

-- the trial's script: the three words that stand most often
abbrev pub trial_script : List ℕ
trial_script = codes "tr -cs a-z '\\n' | sort | uniq -c | sort -rn | head -n 3"

abbrev pub start_of_trial : Readings → Sample → RunCommand → Start
start_of_trial reads sample command = over_text (text_of sample) (start_of_outcome (setup_of command) (reads trial_script))

-- what comes of a path: what the text of the file comes to, where it names one
abbrev pub start_at : (List ℕ → Start) → Files → List ℕ → Option Components → Start
start_at start_by files given None = answered (why.NoScript given)
start_at start_by files given (Some path) = start_by (bytes_at files path)

-- as a script
abbrev pub start_of_script : Readings → RunCommand → List ℕ → Start
start_of_script reads command text = start_of_outcome (setup_of command) (reads text)

module _ (files : Files) (home : Components) where
  -- as the text of a graph
  abbrev pub start_of_graph : List ℕ → Start
  start_of_graph text = start_of_checked (checked_over files home (reading text))

  abbrev pub start_named : (List ℕ → Start) → List ℕ → Start
  start_named start_by given = start_at start_by files given (file_of (resolve files home given))

  abbrev pub start_of_run : Readings → RunCommand → Start
  start_of_run reads command = start_named (start_of_script reads command) command.script

  abbrev pub start_of_exec : List ℕ → Start
  start_of_exec graph = start_named start_of_graph graph

module _ (reads : Readings) (files : Files) (home : Components) where
  abbrev pub start_of : Option Command → Start
  start_of None = answered why.Usage
  start_of (Some (run command)) = start_of_run files home reads command
  start_of (Some (exec graph)) = start_of_exec files home graph
  start_of (Some (gen sample)) = writes (text_of sample)
  start_of (Some (trial sample command)) = start_of_trial reads sample command

-- nothing runs
abbrev pub IsAnswered : Start → Type 0
IsAnswered (answered answer) = Unit {0}
IsAnswered (runs tree setup) = ⊥
IsAnswered (executes graph) = ⊥
IsAnswered (writes text) = ⊥
IsAnswered (tries tree setup text) = ⊥

abbrev pub IsAnsweredBy : Readings → Components → Command → Option Files → Type 0
IsAnsweredBy reads home command None = ⊥
IsAnsweredBy reads home command (Some files) = IsAnswered (start_of reads files home (Some command))

-- nothing runs, by the words or by the files that are told
abbrev pub RunsNothing : Readings → TreeState → Option Command → Type 0
RunsNothing reads state None = Unit {0}
RunsNothing reads state (Some command) = IsAnsweredBy reads state.home command state.held

-- what was read says
abbrev pub as_start : ReadStart → Start
as_start (read.Answered answer) = answered answer
as_start (read.Script script setup) = runs (script_tree script) setup
as_start (read.Graph graph) = executes graph
as_start (read.Text sample) = writes (text_of sample)
as_start (read.Trial script setup sample) = tries (script_tree script) setup (text_of sample)

-- it reads the input
abbrev pub draws : ReadStart → Bool
draws (read.Answered answer) = false
draws (read.Script script setup) = true
draws (read.Graph graph) = true
draws (read.Text sample) = false
draws (read.Trial script setup sample) = false

-- it uses the tree
abbrev pub uses_tree : ReadStart → Bool
uses_tree (read.Answered answer) = false
uses_tree (read.Script script setup) = true
uses_tree (read.Graph graph) = true
uses_tree (read.Text sample) = false
uses_tree (read.Trial script setup sample) = true

-- it is so of the answer, where nothing runs
abbrev pub IfAnswered : ReadStart → (Why → Type 0) → Type 0
IfAnswered (read.Answered answer) Holds = Holds answer
IfAnswered (read.Script script setup) Holds = Unit {0}
IfAnswered (read.Graph graph) Holds = Unit {0}
IfAnswered (read.Text sample) Holds = Unit {0}
IfAnswered (read.Trial script setup sample) Holds = Unit {0}

-- a start ends with this answer: its own, or that of what it does
abbrev pub EndsWith : ReadStart → Why → Type 0
EndsWith (read.Answered own) answer = answer ≡ own
EndsWith (read.Script script setup) answer = IsOfRun answer
EndsWith (read.Graph graph) answer = IsOfRun answer
EndsWith (read.Text sample) answer = IsOfRun answer
EndsWith (read.Trial script setup sample) answer = IsOfRun answer

-- it comes of a script's text
abbrev pub IsOfText : ReadStart → Type 0
IsOfText (read.Answered answer) = Unit {0}
IsOfText (read.Script script setup) = Unit {0}
IsOfText (read.Graph graph) = ⊥
IsOfText (read.Text sample) = ⊥
IsOfText (read.Trial script setup sample) = ⊥

-- it comes of a command
abbrev pub IsOfCommand : ReadStart → Type 0
IsOfCommand (read.Answered answer) = IsOfScript answer
IsOfCommand (read.Script script setup) = Unit {0}
IsOfCommand (read.Graph graph) = Unit {0}
IsOfCommand (read.Text sample) = Unit {0}
IsOfCommand (read.Trial script setup sample) = Unit {0}

-- it can be done over this tree
abbrev pub IsReady : TreeState → ReadStart → Type 0
IsReady tree (read.Answered answer) = Unit {0}
IsReady tree (read.Script script setup) = Unit {0}
IsReady tree (read.Graph graph) = CanRun tree graph
IsReady tree (read.Text sample) = Unit {0}
IsReady tree (read.Trial script setup sample) = Unit {0}
