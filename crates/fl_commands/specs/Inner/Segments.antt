-- A segment of stages, whose files are there: what it is asked for, and its graph.
use Rattle.std.specs.Prelude.{◌≡◌, ℕ, List, [], ◌∷◌, true}
use Rattle.std.specs.List.{list_any}
use Rattle.ps_world.specs.Files.{Files, bytes_at}
use Rattle.ps_world.specs.Paths.{Components}
use Rattle.fl_graph.specs.Kinds.{is_input}
use Rattle.fl_graph.specs.Paths.{paths_read, paths_written}
use Rattle.fl_graph.specs.Valid.{Valid}
use Rattle.fl_graph.specs.declared.graphs.Graph.{Graph}
use Rattle.fl_classes.specs.Flow.{outcome}
use Rattle.fl_classes.specs.Kinds.{are_run}
use Rattle.fl_classes.specs.Sources.{source_texts}
use Rattle.fl_classes.specs.Used.{words_used}
use Rattle.fl_engines.specs.OwnEnds.{texts_for}
use Rattle.fl_segments.specs.Chains.{begins_with, chain_means}
use Rattle.fl_segments.specs.Groups.{marks_hold}
use Rattle.fl_segments.specs.Noted.{noted_in}
use Rattle.fl_segments.specs.Stages.{files_read, files_written, ins_of, reads_input, words_at}
use Rattle.fl_segments.specs.declared.stages.First.{First}
use Rattle.fl_segments.specs.declared.stages.Stage.{Stage}
use Rattle.fl_commands.specs.Readers.{AreThere}
use Rattle.fl_commands.specs.Runs.{Asks}

-- each file that the stages read is there
abbrev pub AllThere : Files → List Stage → Type 0
AllThere files [] = Unit {0}
AllThere files (stage ∷ stages) = AreThere files (ins_of stage) × AllThere files stages

-- what the stages are asked for, where the segment begins so
abbrev pub segment_asks : List Stage → First → Asks
segment_asks segment from = record {
  output = λ input files. (chain_means segment (begins_with from input) (bytes_at files)).output;
  status = λ input files. (chain_means segment (begins_with from input) (bytes_at files)).status;
  reads = reads_input segment from;
  noted = noted_in segment;
  paths = files_written segment;
  texts = λ input files. texts_for (chain_means segment (begins_with from input) (bytes_at files)).files;
}

-- their graph at a width
pub record IsGraphOf (width : ℕ) (segment : List Stage) (from : First) (graph : Graph) : Type 0 where
  pub valid : Valid graph.nodes graph.status
  pub kinds : are_run graph.nodes ≡ true
  pub reads : paths_read graph.nodes ≡ files_read segment
  pub writes : paths_written graph.nodes ≡ files_written segment
  pub input : list_any (λ cell. is_input cell.kind) graph.nodes ≡ reads_input segment from
  pub outcome_is : (input : List ℕ) (files : Components → List ℕ) → marks_hold files segment ≡ true → outcome graph (source_texts graph.nodes input files) ≡ chain_means segment (begins_with from input) files
  pub used : words_used graph.nodes ≡ words_at width segment
