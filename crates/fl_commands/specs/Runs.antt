-- What comes of utilities that are run over their inputs (own).
use Rattle.std.specs.Prelude.{◌≡◌, ◌≤◌, ℕ, List, [], ◌++◌, ◌&&◌, map, Bool, false, Option, Some, if◌then◌else◌}
use Rattle.std.specs.List.{list_any}
use Rattle.std.specs.Option.{option_map}
use Rattle.ps_world.specs.Counts.{Rose}
use Rattle.ps_world.specs.Files.{Files, bytes_at}
use Rattle.ps_world.specs.Paths.{Components}
use Rattle.ps_world.specs.Told.{then_bytes, GrewByPrefix}
use Rattle.ps_world.specs.TreeState.{Balanced, TreeState}
use Rattle.ut_args.specs.Inputs.{operands_of}
use Rattle.ut_args.specs.Invocations.{command_of}
use Rattle.ut_args.specs.declared.invocations.Inv.{Inv}
use Rattle.ut_streams.specs.Utilities.{Input}
use Rattle.fl_graph.specs.Paths.{paths_written}
use Rattle.fl_graph.specs.declared.graphs.Graph.{Graph}
use Rattle.fl_classes.specs.Flow.{outcome}
use Rattle.fl_classes.specs.Sources.{source_texts}
use Rattle.fl_classes.specs.Used.{words_used}
use Rattle.fl_engines.specs.Logs.{Log, with_words}
use Rattle.fl_engines.specs.OwnEnds.{has_input, texts_for}
use Rattle.fl_segments.specs.Chains.{begins_with}
use Rattle.fl_segments.specs.Noted.{Noted, noted_as, used_at}
use Rattle.fl_segments.specs.Stages.{is_shell_input, is_stream}
use Rattle.fl_segments.specs.declared.stages.First.{First}
use Rattle.fl_commands.specs.Inner.Stages.{command_left, inputs_with, some_lacks, run_noted}
use Rattle.fl_commands.specs.Inputs.{output_for, selects_for, status_of, text_taken}
use Rattle.fl_commands.specs.Members.{files_teed, noted_of, output_through, reads_first, status_through, texts_through}
use Rattle.fl_commands.specs.Operands.{deals, ins_of}
use Rattle.fl_commands.specs.Writers.{AreFilled, ChangesOnly, all_added}
use Rattle.fl_commands.specs.declared.members.Member.{Member}
use Rattle.fl_commands.specs.declared.operands.Operand.{Operand}
use Rattle.fl_commands.specs.declared.runs.Ended.{Ended}
use Rattle.fl_commands.specs.declared.runs.Ended.TheVariants as ended

-- the counts of faults of the input, the output and the tree
pub record Counts : Type 0 where
  pub input : ℕ
  pub output : ℕ
  pub tree : ℕ

abbrev pub counts_of : ℕ → ℕ → ℕ → Counts
counts_of input output tree = record { input = input; output = output; tree = tree }

-- what holds where it has run to its end, of its status
abbrev pub IfDone : Ended → (ℕ → Type 0) → Type 0
IfDone (ended.Done status) holds = holds status
IfDone ended.Input holds = Unit {0}
IfDone ended.Output holds = Unit {0}
IfDone ended.Tree holds = Unit {0}
IfDone ended.Memory holds = Unit {0}

-- a fault comes where the count of its object rose, and an end where none did
abbrev pub HasCause : Ended → Counts → Counts → Type 0
HasCause (ended.Done status) old new = new ≡ old
HasCause ended.Input old new = Rose old.input new.input
HasCause ended.Output old new = Rose old.output new.output
HasCause ended.Tree old new = Rose old.tree new.tree
HasCause ended.Memory old new = Unit {0}

pub record NoFewer (old new : Counts) : Type 0 where
  pub input : old.input ≤ new.input
  pub output : old.output ≤ new.output
  pub tree : old.tree ≤ new.tree

-- what is asked for: what is written and the status that is left, for the text of the input and the files; whether the input is read; and the
-- utilities that are noted; the files that are written beside the output, and what each gets
pub record Asks : Type 0 where
  pub output : List ℕ → Files → List ℕ
  pub status : List ℕ → Files → ℕ
  pub reads : Bool
  pub noted : List Noted
  pub paths : List Components
  pub texts : List ℕ → Files → List (List ℕ)

-- what is left of the input
abbrev pub left_behind : Bool → Option (List ℕ) → Option (List ℕ)
left_behind reads left = if reads then option_map (λ _. []) left else left

-- what an engine tells with the words of these behind those that it has run, at its width
abbrev pub with_noted : List Noted → Log → Log
with_noted noted log = with_words (used_at log.width noted) log

-- what is asked for ran
pub record Runs (asks : Asks) (tree tree' : TreeState) (left left' taken taken' : Option (List ℕ)) (old new : Counts) (used used' : Option Log) (came : Ended) : Type 0 where
  -- where it has come to its end, its output is written, its status is left, the input is read to its end, and its utilities
  -- are noted
  pub output : (input : List ℕ) (files : Files) → tree.held ≡ Some files → left ≡ Some input → IfDone came (λ status. taken' ≡ then_bytes taken (asks.output input files))
  pub status : (input : List ℕ) (files : Files) → tree.held ≡ Some files → left ≡ Some input → IfDone came (λ status. status ≡ asks.status input files)
  pub read : IfDone came (λ status. left' ≡ left_behind asks.reads left)
  pub noted : IfDone came (λ status. used' ≡ option_map (with_noted asks.noted) used)
  -- then each file that it writes has its text behind what it held; whatever the input tells, it is a file
  pub added : (input : List ℕ) (files : Files) → tree.held ≡ Some files → left ≡ Some input → IfDone came (λ status. tree'.held ≡ Some (all_added asks.paths (asks.texts input files) files))
  pub filled : IfDone came (λ status. AreFilled asks.paths tree.held tree'.held)
  -- whatever comes, a front of its output is written, and no file but those that it writes is another
  pub part : (input : List ℕ) (files : Files) → tree.held ≡ Some files → left ≡ Some input → GrewByPrefix taken taken' (asks.output input files)
  pub held : asks.paths ≡ [] → tree'.held ≡ tree.held
  pub kept : ChangesOnly asks.paths tree.held tree'.held
  pub lent : Balanced tree tree'
  pub later : NoFewer old new
  pub cause : HasCause came old new

-- the run's own input is read: the stream begins with it, and an operand or the lack of one names the stream
abbrev pub reads_input : Bool → List Operand → First → Bool
reads_input deals operands from = is_shell_input from && list_any is_stream (ins_of deals operands)

-- the texts that an invocation reads, where the input has this text
abbrev pub inputs_at : Inv → List Operand → First → List ℕ → Files → List Input
inputs_at inv operands from input files = inputs_with (deals (command_of inv)) (operands_of inv) operands (begins_with from input) (bytes_at files)

-- an invocation with these operands ran, which writes these files
abbrev pub command_asks : Inv → List Operand → List Components → First → Asks
command_asks inv operands tees from = record {
  output = λ input files. output_for (command_left (command_of inv) operands) (inputs_at inv operands from input files);
  status = λ input files. status_of (command_of inv) (some_lacks operands) (selects_for (command_left (command_of inv) operands) (inputs_at inv operands from input files));
  reads = reads_input (deals (command_of inv)) operands from;
  noted = run_noted inv operands;
  paths = tees;
  texts = λ input files. map (λ path. text_taken (inputs_at inv operands from input files)) tees;
}

abbrev pub RunsCommand : Inv → List Operand → List Components → First → TreeState → TreeState → Option (List ℕ) → Option (List ℕ) → Option (List ℕ) → Option (List ℕ) → Counts → Counts
    → Option Log → Option Log → Ended → Type 0
RunsCommand inv operands tees from tree tree' left left' taken taken' old new used used' came = Runs (command_asks inv operands tees from) tree tree' left left' taken taken' old new used used' came

-- the members of a pipeline ran, each over the output of the one before
abbrev pub pipeline_asks : List Member → First → Asks
pipeline_asks members from = record {
  output = λ input files. output_through members (bytes_at files) (begins_with from input);
  status = λ input files. status_through members (bytes_at files) (begins_with from input);
  reads = is_shell_input from && reads_first members;
  noted = noted_of members;
  paths = files_teed members;
  texts = λ input files. texts_through members (bytes_at files) (begins_with from input);
}

abbrev pub RunsPipeline : List Member → First → TreeState → TreeState → Option (List ℕ) → Option (List ℕ) → Option (List ℕ) → Option (List ℕ) → Counts → Counts
    → Option Log → Option Log → Ended → Type 0
RunsPipeline members from tree tree' left left' taken taken' old new used used' came = Runs (pipeline_asks members from) tree tree' left left' taken taken' old new used used' came

-- a graph ran: what it leaves is written, for the texts of the input and of the files that its nodes read
abbrev pub graph_asks : Graph → Asks
graph_asks graph = record {
  output = λ input files. (outcome graph (source_texts graph.nodes input (bytes_at files))).output;
  status = λ input files. (outcome graph (source_texts graph.nodes input (bytes_at files))).status;
  reads = has_input graph.nodes;
  noted = map (λ words. noted_as words false) (words_used graph.nodes);
  paths = paths_written graph.nodes;
  texts = λ input files. texts_for (outcome graph (source_texts graph.nodes input (bytes_at files))).files;
}
