-- Runs over a graph's own ends (own): the readers and writers are those of its nodes that read or write a file, in the order of the nodes. So
-- what comes of a run is said by lists, and no number of a node is in it.
use Rattle.std.specs.Prelude.{◌≡◌, ◌⊎◌, ◌≤◌, ℕ, List, [], ◌∷◌, Bool, true, false, map, slice_get, Option, Some}
use Rattle.std.specs.List.{list_any}
use Rattle.std.specs.Option.{option_map_or}
use Rattle.ps_world.specs.Counts.{Rose}
use Rattle.ps_world.specs.Paths.{Components}
use Rattle.ps_world.specs.Told.{then_bytes, GrewByPrefix}
use Rattle.ps_world.specs.declared.tree.Mode.{Mode}
use Rattle.fl_graph.specs.declared.graphs.Cell.{Cell}
use Rattle.fl_graph.specs.declared.graphs.Graph.{Graph}
use Rattle.fl_graph.specs.Kinds.{is_input, is_output}
use Rattle.fl_graph.specs.Paths.{paths_read}
use Rattle.fl_graph.specs.declared.kinds.NodeKind.{NodeKind}
use Rattle.fl_graph.specs.declared.kinds.NodeKind.TheVariants as kind
use Rattle.fl_graph.specs.declared.kinds.From.TheVariants as from
use Rattle.fl_graph.specs.declared.kinds.To.TheVariants as to
use Rattle.fl_classes.specs.Flow.{Outcome, outcome}
use Rattle.fl_classes.specs.Sources.{source_texts}
use Rattle.fl_core.specs.EndLists.{file_nodes, file_sources, numbers_of}
use Rattle.fl_net.specs.Ends.{IsReadOff}
use Rattle.fl_engines.specs.Engines.{then_used}
use Rattle.fl_engines.specs.Logs.{Log}
use Rattle.fl_core.specs.declared.end_lists.Ends.{Ends}
use Rattle.fl_core.specs.declared.end_lists.Ran.{Ran}
use Rattle.fl_core.specs.declared.end_lists.Ran.TheVariants as ran
use Rattle.fl_engines.specs.declared.own_ends.Came.{Came}
use Rattle.fl_engines.specs.declared.own_ends.Came.TheVariants as came

-- a node reads the standard input, and one writes the standard output
abbrev pub has_input : List (Cell NodeKind) → Bool
has_input cells = list_any (λ cell. is_input cell.kind) cells

abbrev pub has_output : List (Cell NodeKind) → Bool
has_output cells = list_any (λ cell. is_output cell.kind) cells

-- of each end in a list, in order
abbrev pub each_of : {End Told : Type 0} → (End → Told) → List (ℕ × End) → List Told
each_of tell entries = map (λ entry. tell entry.1) entries

-- what each has told has grown by these texts, each by its own
abbrev pub grown : List (Option (List ℕ)) → List (List ℕ) → List (Option (List ℕ))
grown [] texts = []
grown (told ∷ others) [] = told ∷ others
grown (told ∷ others) (text ∷ texts) = then_bytes told text ∷ grown others texts

-- the texts for files, without where they go
abbrev pub texts_for : List (Components × (Mode × List ℕ)) → List (List ℕ)
texts_for files = map (λ file. file.1.1) files

-- the counts of faults of all ends
pub record EndCounts : Type 0 where
  pub input : ℕ
  pub output : ℕ
  pub readers : List ℕ
  pub writers : List ℕ

-- one of these counts rose
pub record RoseAmong (old new : List ℕ) : Type 0 where
  pub place : ℕ
  pub before : ℕ
  pub now : ℕ
  pub was : slice_get old place ≡ Some before
  pub is : slice_get new place ≡ Some now
  pub rose : Rose before now

-- a fault comes where the count of an end of its kind rose. On threads another end may have failed too; elsewhere no count has changed
abbrev pub HasCause : Came → EndCounts → EndCounts → Type 0
HasCause (came.Done status) old new = new ≡ old
HasCause came.Input old new = Rose old.input new.input
HasCause came.Output old new = Rose old.output new.output
HasCause came.Reader old new = RoseAmong old.readers new.readers
HasCause came.Writer old new = RoseAmong old.writers new.writers
HasCause came.Memory old new = new ≡ old

-- what the fault of a node of this kind is; one without an end has none
abbrev pub came_by : NodeKind → Came
came_by (kind.Source from.Input) = came.Input
came_by (kind.Source (from.File path)) = came.Reader
came_by (kind.Sink to.Output) = came.Output
came_by (kind.Sink (to.File path mode)) = came.Writer
came_by (kind.TeeFile path mode) = came.Writer
came_by other = came.Memory

abbrev pub came_at : List (Cell NodeKind) → ℕ → Came
came_at cells node = option_map_or (λ cell. came_by cell.kind) (slice_get cells node) came.Memory

-- what holds where a run is done, of its status
abbrev pub IfCame : Came → (ℕ → Type 0) → Type 0
IfCame (came.Done status) holds = holds status
IfCame came.Input holds = Unit {0}
IfCame came.Output holds = Unit {0}
IfCame came.Reader holds = Unit {0}
IfCame came.Writer holds = Unit {0}
IfCame came.Memory holds = Unit {0}

module _ {R W I O : Type 0} where
  abbrev pub came_of : List (Cell NodeKind) → Ran R W I O → Came
  came_of cells (ran.Done status ends) = came.Done status
  came_of cells (ran.Fault node ends) = came_at cells node
  came_of cells (ran.Memory ends) = came.Memory

  -- the files' ends are those of these nodes
  pub record HasOwnEnds (cells : List (Cell NodeKind)) (ends : Ends R W I O) : Type 0 where
    pub readers : numbers_of ends.readers.items ≡ file_sources 0 cells
    pub writers : numbers_of ends.writers.items ≡ file_nodes 0 cells

  abbrev pub counts_by : (R → ℕ) → (W → ℕ) → (I → ℕ) → (O → ℕ) → Ends R W I O → EndCounts
  counts_by of_reader of_writer of_input of_output ends = record {
    input = of_input ends.input;
    output = of_output ends.out;
    readers = each_of of_reader ends.readers.items;
    writers = each_of of_writer ends.writers.items;
  }

  -- the input tells this text, if a node reads it, and each reader the text of its file
  pub record IsTold (of_reader : R → Option (List ℕ)) (of_input : I → Option (List ℕ)) (cells : List (Cell NodeKind)) (ends : Ends R W I O) (input : List ℕ) (files : Components → List ℕ) : Type 0 where
    pub from_input : has_input cells ≡ true → of_input ends.input ≡ Some input
    pub from_files : each_of of_reader ends.readers.items ≡ map (λ path. Some (files path)) (paths_read cells)

  -- the output and the files' writers have grown by what a graph leaves, and this is its status
  pub record HasLeft (of_writer : W → Option (List ℕ)) (of_output : O → Option (List ℕ)) (ends back : Ends R W I O) (left : Outcome) (code : ℕ) : Type 0 where
    pub output : of_output back.out ≡ then_bytes (of_output ends.out) left.output
    pub writers : each_of of_writer back.writers.items ≡ grown (each_of of_writer ends.writers.items) (texts_for left.files)
    pub status : code ≡ left.status

-- what it says of the ends that tell their texts and counts by these functions
module _ {R W I O : Type 0} (of_reader : R → Option (List ℕ)) (of_input : I → Option (List ℕ)) (of_writer : W → Option (List ℕ)) (of_output : O → Option (List ℕ))
    (reader_faults : R → ℕ) (writer_faults : W → ℕ) (input_faults : I → ℕ) (output_faults : O → ℕ) where
  -- the graph ran over its own ends, and these came back
  pub record RunsOwn (graph : Graph) (ends : Ends R W I O) (used used' : Option Log) (came : Came) (back : Ends R W I O) : Type 0 where
    pub leaves : (input : List ℕ) (files : Components → List ℕ) → IsTold of_reader of_input graph.nodes ends input files
        → IfCame came (HasLeft of_writer of_output ends back (outcome graph (source_texts graph.nodes input files)))
    pub part : (input : List ℕ) (files : Components → List ℕ) → IsTold of_reader of_input graph.nodes ends input files
        → GrewByPrefix (of_output ends.out) (of_output back.out) (outcome graph (source_texts graph.nodes input files)).output
    -- the input is read to its end where a node reads it, and is untouched where none does; so the output where none writes it
    pub read : has_input graph.nodes ≡ true → IfCame came (λ status. IsReadOff (of_input ends.input) (of_input back.input))
    pub input : has_input graph.nodes ≡ false → back.input ≡ ends.input
    pub out : has_output graph.nodes ≡ false → back.out ≡ ends.out
    pub readers : numbers_of back.readers.items ≡ numbers_of ends.readers.items
    pub writers : numbers_of back.writers.items ≡ numbers_of ends.writers.items
    pub cause : HasCause came (counts_by reader_faults writer_faults input_faults output_faults ends)
        (counts_by reader_faults writer_faults input_faults output_faults back)
    -- no count has fallen
    pub later_input : input_faults ends.input ≤ input_faults back.input
    pub later_output : output_faults ends.out ≤ output_faults back.out
    pub used_whole : IfCame came (λ status. used' ≡ then_used used graph)
    pub used_or_not : (used' ≡ used) ⊎ (used' ≡ then_used used graph)
