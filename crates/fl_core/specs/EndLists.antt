-- The ends of a graph's nodes, in lists (own): a node of a file has the first end with its number, and those of standard input and standard
-- output stand apart.
use Rattle.std.specs.Prelude.{◌≡◌, ◌<◌, ◌≤◌, ℕ, zero, suc, ◌+◌, ◌==◌, ◌||◌, List, [], ◌∷◌, Bool, true, false, if◌then◌else◌, map, slice_get, Option, Some, None, is_some}
use Rattle.std.specs.Option.{option_map, option_and_then}
use Rattle.ps_world.specs.Counts.{Rose}
use Rattle.ps_world.specs.Paths.{Components}
use Rattle.ps_world.specs.Told.{then_bytes}
use Rattle.ps_world.specs.declared.tree.Mode.{Mode}
use Rattle.fl_graph.specs.declared.graphs.Cell.{Cell}
use Rattle.fl_graph.specs.Kinds.{is_input, is_output}
use Rattle.fl_graph.specs.declared.kinds.NodeKind.{NodeKind}
use Rattle.fl_graph.specs.declared.kinds.NodeKind.TheVariants as kind
use Rattle.fl_graph.specs.declared.kinds.From.TheVariants as from
use Rattle.fl_graph.specs.declared.kinds.To.TheVariants as to
use Rattle.fl_classes.specs.Flow.{is_source}
use Rattle.fl_classes.specs.Kinds.{is_writer}
use Rattle.fl_core.specs.declared.end_lists.Ends.{Ends}
use Rattle.fl_core.specs.declared.end_lists.Ran.{Ran}
use Rattle.fl_core.specs.declared.end_lists.Ran.TheVariants as ran

-- the place of the first with this number
abbrev pub place_of : List ℕ → ℕ → Option ℕ
place_of [] number = None
place_of (other ∷ numbers) number = if other == number then Some zero else option_map suc (place_of numbers number)

module _ {End : Type 0} where
  abbrev pub numbers_of : List (ℕ × End) → List ℕ
  numbers_of entries = map (λ entry. entry.0) entries

  -- the end at a place
  abbrev pub end_in : List (ℕ × End) → ℕ → Option End
  end_in entries place = option_map (λ entry. entry.1) (slice_get entries place)

  -- the first with this number
  abbrev pub end_of : List (ℕ × End) → ℕ → Option End
  end_of entries number = option_and_then (end_in entries) (place_of (numbers_of entries) number)

-- the nodes that read a file, and those that write one
abbrev pub reads_file : NodeKind → Bool
reads_file (kind.Source (from.File path)) = true
reads_file other = false

abbrev pub writes_file : NodeKind → Bool
writes_file (kind.Sink (to.File path mode)) = true
writes_file (kind.TeeFile path mode) = true
writes_file other = false

-- the numbers of the nodes of such kinds, counted on from this number
abbrev pub numbers_where : (NodeKind → Bool) → ℕ → List (Cell NodeKind) → List ℕ
numbers_where test number [] = []
numbers_where test number (cell ∷ cells) = if test cell.kind then number ∷ numbers_where test (number + 1) cells else numbers_where test (number + 1) cells

-- those that write a file, or those that read one
abbrev pub has_file : Bool → NodeKind → Bool
has_file true = writes_file
has_file false = reads_file

abbrev pub file_sources : ℕ → List (Cell NodeKind) → List ℕ
file_sources number cells = numbers_where reads_file number cells

abbrev pub file_nodes : ℕ → List (Cell NodeKind) → List ℕ
file_nodes number cells = numbers_where writes_file number cells

-- the ends of these nodes have grown by the texts of these files, each by its own
abbrev pub GrewByFiles : (ℕ → Option (List ℕ)) → (ℕ → Option (List ℕ)) → List ℕ → List (Components × (Mode × List ℕ)) → Type 0
GrewByFiles old new [] [] = Unit {0}
GrewByFiles old new [] (file ∷ files) = ⊥
GrewByFiles old new (node ∷ nodes) [] = ⊥
GrewByFiles old new (node ∷ nodes) (file ∷ files) = (new node ≡ then_bytes (old node) file.1.1) × GrewByFiles old new nodes files

-- an end that a node reads or writes
pub data NodeEnd (R W I O : Type 0) : Type 0 where
  Reader : R → NodeEnd R W I O
  Writer : W → NodeEnd R W I O
  Input : I → NodeEnd R W I O
  Output : O → NodeEnd R W I O

module _ {R W I O : Type 0} where
  -- the end of a node with this kind and number
  abbrev pub own_end : NodeKind → ℕ → Ends R W I O → Option (NodeEnd R W I O)
  own_end (kind.Source from.Input) node ends = Some (Input ends.input)
  own_end (kind.Source (from.File path)) node ends = option_map Reader (end_of ends.readers.items node)
  own_end (kind.Sink to.Output) node ends = Some (Output ends.out)
  own_end (kind.Sink (to.File path mode)) node ends = option_map Writer (end_of ends.writers.items node)
  own_end (kind.TeeFile path mode) node ends = option_map Writer (end_of ends.writers.items node)
  own_end other node ends = None

  -- the end of each node, by its number
  abbrev pub end_at : List (Cell NodeKind) → Ends R W I O → ℕ → Option (NodeEnd R W I O)
  end_at cells ends node = option_and_then (λ cell. own_end cell.kind node ends) (slice_get cells node)

  -- each node that reads or writes has an end
  abbrev pub HasItsEnds : List (Cell NodeKind) → Ends R W I O → Type 0
  HasItsEnds cells ends = (node : ℕ) (cell : Cell NodeKind) → slice_get cells node ≡ Some cell → (is_source cell.kind || is_writer cell.kind) ≡ true
      → is_some (own_end cell.kind node ends) ≡ true

  -- the bytes still to come at an end, where it tells them
  abbrev pub left_by : (R → Option (List ℕ)) → (I → Option (List ℕ)) → Option (NodeEnd R W I O) → Option (List ℕ)
  left_by of_reader of_input None = None
  left_by of_reader of_input (Some (Reader reader)) = of_reader reader
  left_by of_reader of_input (Some (Writer writer)) = None
  left_by of_reader of_input (Some (Input input)) = of_input input
  left_by of_reader of_input (Some (Output out)) = None

  -- the bytes that an end has taken, where it tells them
  abbrev pub taken_by : (W → Option (List ℕ)) → (O → Option (List ℕ)) → Option (NodeEnd R W I O) → Option (List ℕ)
  taken_by of_writer of_output None = None
  taken_by of_writer of_output (Some (Reader reader)) = None
  taken_by of_writer of_output (Some (Writer writer)) = of_writer writer
  taken_by of_writer of_output (Some (Input input)) = None
  taken_by of_writer of_output (Some (Output out)) = of_output out

  -- how many of an end's calls have failed: none where there is no end
  abbrev pub faults_by : (R → ℕ) → (W → ℕ) → (I → ℕ) → (O → ℕ) → Option (NodeEnd R W I O) → ℕ
  faults_by of_reader of_writer of_input of_output None = 0
  faults_by of_reader of_writer of_input of_output (Some (Reader reader)) = of_reader reader
  faults_by of_reader of_writer of_input of_output (Some (Writer writer)) = of_writer writer
  faults_by of_reader of_writer of_input of_output (Some (Input input)) = of_input input
  faults_by of_reader of_writer of_input of_output (Some (Output out)) = of_output out

  -- likewise of each node's end
  abbrev pub left_at : (R → Option (List ℕ)) → (I → Option (List ℕ)) → List (Cell NodeKind) → Ends R W I O → ℕ → Option (List ℕ)
  left_at of_reader of_input cells ends node = left_by of_reader of_input (end_at cells ends node)

  abbrev pub taken_at : (W → Option (List ℕ)) → (O → Option (List ℕ)) → List (Cell NodeKind) → Ends R W I O → ℕ → Option (List ℕ)
  taken_at of_writer of_output cells ends node = taken_by of_writer of_output (end_at cells ends node)

  abbrev pub faults_at : (R → ℕ) → (W → ℕ) → (I → ℕ) → (O → ℕ) → List (Cell NodeKind) → Ends R W I O → ℕ → ℕ
  faults_at of_reader of_writer of_input of_output cells ends node = faults_by of_reader of_writer of_input of_output (end_at cells ends node)

  -- what a run gives back
  abbrev pub given_back : Ran R W I O → Ends R W I O
  given_back (ran.Done status ends) = ends
  given_back (ran.Fault node ends) = ends
  given_back (ran.Memory ends) = ends

  -- what holds where it is done, of its status
  abbrev pub IfDone : Ran R W I O → (ℕ → Type 0) → Type 0
  IfDone (ran.Done status ends) holds = holds status
  IfDone (ran.Fault node ends) holds = Unit {0}
  IfDone (ran.Memory ends) holds = Unit {0}

  -- it tells the fault of this node
  abbrev pub IsFaultOf : Ran R W I O → ℕ → Type 0
  IsFaultOf (ran.Done status ends) node = ⊥
  IsFaultOf (ran.Fault failed ends) node = failed ≡ node
  IsFaultOf (ran.Memory ends) node = ⊥

  -- what it says of the counts of the nodes' ends: where a node's fault is told, its count rose, and it is the lowest whose count did, since on threads
  -- several ends may fail in one run; elsewhere no count has changed
  pub record Blames (before now : ℕ → ℕ) (result : Ran R W I O) : Type 0 where
    pub fault : (node : ℕ) → IsFaultOf result node → Rose (before node) (now node)
    pub lowest : (node : ℕ) → IsFaultOf result node → (other : ℕ) → other < node → now other ≡ before other
    pub calm : ((node : ℕ) → IsFaultOf result node → ⊥) → (node : ℕ) → now node ≡ before node
    pub later : (node : ℕ) → before node ≤ now node

  -- the same ends are there, in their order, and those that no node has are as they were
  pub record KeepsOthers (cells : List (Cell NodeKind)) (old new : Ends R W I O) : Type 0 where
    pub readers : numbers_of new.readers.items ≡ numbers_of old.readers.items
    pub writers : numbers_of new.writers.items ≡ numbers_of old.writers.items
    pub reader : (place : ℕ) → ((node : ℕ) (cell : Cell NodeKind) → slice_get cells node ≡ Some cell → reads_file cell.kind ≡ true → place_of (numbers_of old.readers.items) node ≡ Some place → ⊥)
        → end_in new.readers.items place ≡ end_in old.readers.items place
    pub writer : (place : ℕ) → ((node : ℕ) (cell : Cell NodeKind) → slice_get cells node ≡ Some cell → writes_file cell.kind ≡ true → place_of (numbers_of old.writers.items) node ≡ Some place → ⊥)
        → end_in new.writers.items place ≡ end_in old.writers.items place
    pub input : ((node : ℕ) (cell : Cell NodeKind) → slice_get cells node ≡ Some cell → is_input cell.kind ≡ false) → new.input ≡ old.input
    pub out : ((node : ℕ) (cell : Cell NodeKind) → slice_get cells node ≡ Some cell → is_output cell.kind ≡ false) → new.out ≡ old.out
