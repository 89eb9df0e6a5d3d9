-- Graphs that are run as they are, over the files of a tree (own).
use Rattle.std.specs.Prelude.{◌≡◌, ℕ, List, [], ◌∷◌, Bool, true, false, Option, Some, None, IfSome, is_none, nat_eq}
use Rattle.std.specs.Cmp.Lexicographic.{pointwise}
use Rattle.std.specs.FinMap as map
use Rattle.std.specs.List.{list_all}
use Rattle.std.specs.Option.{option_or}
use Rattle.ps_world.specs.Files.{Bytes, Files, NoWriterOut, begun, bytes_at}
use Rattle.ps_world.specs.Paths.{Components, spelled}
use Rattle.ps_world.specs.Places.{resolve}
use Rattle.ps_world.specs.Told.{then_bytes, GrewByPrefix}
use Rattle.ps_world.specs.TreeState.{Balanced, TreeState}
use Rattle.ps_world.specs.declared.places.Place.{Place}
use Rattle.ps_world.specs.declared.places.Place.TheVariants as place
use Rattle.ps_world.specs.declared.tree.Mode.{Mode}
use Rattle.ut_args.specs.declared.invocations.Inv.{Inv}
use Rattle.ut_args.specs.declared.invocations.Inv.TheVariants as inv
use Rattle.ut_grep.specs.Faults.{first_faulty}
use Rattle.fl_graph.specs.Paths.{path_read, path_written, paths_written}
use Rattle.fl_graph.specs.declared.graphs.Cell.{Cell}
use Rattle.fl_graph.specs.declared.graphs.Graph.{Graph}
use Rattle.fl_graph.specs.declared.kinds.NodeKind.{NodeKind}
use Rattle.fl_graph.specs.declared.kinds.NodeKind.TheVariants as kind
use Rattle.fl_graph.specs.declared.kinds.To.TheVariants as to
use Rattle.fl_classes.specs.Flow.{Outcome, outcome}
use Rattle.fl_classes.specs.Sources.{source_texts}
use Rattle.fl_engines.specs.Engines.{then_used}
use Rattle.fl_engines.specs.Logs.{Log}
use Rattle.fl_engines.specs.OwnEnds.{has_input, texts_for}
use Rattle.fl_commands.specs.Runs.{Counts, HasCause, IfDone, NoFewer, left_behind}
use Rattle.fl_commands.specs.Writers.{ChangesOnly, all_added}
use Rattle.fl_commands.specs.declared.runs.Ended.{Ended}

-- all patterns of a grep are read
abbrev pub has_patterns : Inv → Bool
has_patterns (inv.Grep grep) = is_none (first_faulty grep.args.syntax grep.args.patterns)
has_patterns other = true

-- those of a node which makes a stream of them: a map, or a whole
abbrev pub reads_patterns : NodeKind → Bool
reads_patterns (kind.Map inv) = has_patterns inv
reads_patterns (kind.Whole inv) = has_patterns inv
reads_patterns other = true

abbrev pub read_all_patterns : List (Cell NodeKind) → Bool
read_all_patterns cells = list_all (λ cell. reads_patterns cell.kind) cells

-- what the path's text names is the file at this path
abbrev pub is_file : Components → Place → Bool
is_file path place.Missing = false
is_file path (place.Makeable other) = false
is_file path (place.Dir other) = false
is_file path (place.File other) = pointwise (pointwise nat_eq) other path
is_file path place.Null = false

-- it is, or one can be made there: the name is free, in a directory
abbrev pub is_target : Components → Place → Bool
is_target path place.Missing = false
is_target path (place.Makeable other) = pointwise (pointwise nat_eq) other path
is_target path (place.Dir other) = false
is_target path (place.File other) = pointwise (pointwise nat_eq) other path
is_target path place.Null = false

abbrev pub unless : Bool → Components → Option Components
unless true path = None
unless false path = Some path

module _ (files : Files) (home : Components) where
  abbrev pub lacking_by : Option Components → Option Components → Option Components
  lacking_by (Some path) written = unless (is_file path (resolve files home (spelled path))) path
  lacking_by None (Some path) = unless (is_target path (resolve files home (spelled path))) path
  lacking_by None None = None

  -- the path of a node's file, where it can't be read or written
  abbrev pub lacking : NodeKind → Option Components
  lacking kind = lacking_by (path_read kind) (path_written kind)

  -- the first of them, in the order of the nodes
  abbrev pub first_lacking : List (Cell NodeKind) → Option Components
  first_lacking [] = None
  first_lacking (cell ∷ cells) = option_or (lacking cell.kind) (first_lacking cells)

-- the file that a node writes, and how
abbrev pub target : NodeKind → Option (Components × Mode)
target (kind.TeeFile path mode) = Some (path, mode)
target (kind.Sink (to.File path mode)) = Some (path, mode)
target other = None

-- a file is begun: anew, or behind the bytes that it has
abbrev pub begun_at : Components → Mode → Files → Files
begun_at path mode files = map.insert files path (Bytes (begun files path mode))

abbrev pub begun_for : Option (Components × Mode) → Files → Files
begun_for None files = files
begun_for (Some aim) files = begun_at aim.0 aim.1 files

-- those that the nodes write, in their order
abbrev pub files_begun : List (Cell NodeKind) → Files → Files
files_begun [] files = files
files_begun (cell ∷ cells) files = files_begun cells (begun_for (target cell.kind) files)

-- what a graph leaves where the input has this text and the files are these
abbrev pub outcome_over : Graph → List ℕ → Files → Outcome
outcome_over graph input files = outcome graph (source_texts graph.nodes input (bytes_at files))

-- the files then: each that is written holds its text, alone or behind what it held, and all else is as it was
abbrev pub files_left : Graph → List ℕ → Files → Files
files_left graph input files = all_added (paths_written graph.nodes) (texts_for (outcome_over graph input files).files) (files_begun graph.nodes files)

-- a graph ran over the files of a tree, and the input
pub record Executes (graph : Graph) (tree tree' : TreeState) (left left' taken taken' : Option (List ℕ)) (old new : Counts) (used used' : Option Log) (came : Ended) : Type 0 where
  -- where it has come to its end, it leaves its outcome, and the words of its utilities are noted
  pub output : (input : List ℕ) (files : Files) → tree.held ≡ Some files → left ≡ Some input → IfDone came (λ status. taken' ≡ then_bytes taken (outcome_over graph input files).output)
  pub status : (input : List ℕ) (files : Files) → tree.held ≡ Some files → left ≡ Some input → IfDone came (λ status. status ≡ (outcome_over graph input files).status)
  pub held : (input : List ℕ) (files : Files) → tree.held ≡ Some files → left ≡ Some input → IfDone came (λ status. tree'.held ≡ Some (files_left graph input files))
  pub read : IfDone came (λ status. left' ≡ left_behind (has_input graph.nodes) left)
  pub noted : IfDone came (λ status. used' ≡ then_used used graph)
  pub whole : IfDone came (λ status. IfSome tree'.held NoWriterOut)
  -- whatever comes, a front of its output is written, and no file but those that it writes is another
  pub kept : ChangesOnly (paths_written graph.nodes) tree.held tree'.held
  pub part : (input : List ℕ) (files : Files) → tree.held ≡ Some files → left ≡ Some input → GrewByPrefix taken taken' (outcome_over graph input files).output
  pub lent : Balanced tree tree'
  pub later : NoFewer old new
  pub cause : HasCause came old new
