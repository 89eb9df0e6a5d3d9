-- The flow of a graph (own): each edge has its text by the equation of the node that gives it, taken in the order of the nodes; and what
-- the graph leaves. No machine and no piece is in it.
use Rattle.std.specs.Prelude.{◌≡◌, ℕ, ◌+◌, length, map, List, [], ◌∷◌, ◌++◌, Bool, true, false, if◌then◌else◌, get_or, replicate}
use Rattle.std.specs.List.{concat, flat_map, list_any}
use Rattle.ps_lines.specs.Lines.{closing}
use Rattle.ps_world.specs.Paths.{Components}
use Rattle.ps_world.specs.declared.tree.Mode.{Mode}
use Rattle.fl_graph.specs.Net.{after, run}
use Rattle.fl_graph.specs.declared.graphs.Cell.{Cell}
use Rattle.fl_graph.specs.declared.graphs.Graph.{Graph}
use Rattle.fl_graph.specs.declared.graphs.StatusRule.{StatusRule}
use Rattle.fl_graph.specs.declared.graphs.StatusRule.TheVariants as status
use Rattle.fl_graph.specs.declared.kinds.NodeKind.{NodeKind}
use Rattle.fl_graph.specs.declared.kinds.NodeKind.TheVariants as kind
use Rattle.fl_graph.specs.declared.kinds.To.TheVariants as to
use Rattle.fl_classes.specs.Utilities.{output_of, selects_of}
use Rattle.fl_classes.specs.Aggregates.{map_of, aggregate_of, finish_of}
use Rattle.fl_classes.specs.Parts.{parts_of}

-- what a node does, and the number of sources before it
abbrev pub Placed : Type 0
Placed = ℕ × NodeKind

abbrev pub is_source : NodeKind → Bool
is_source (kind.Source source) = true
is_source other = false

abbrev pub placed_from : ℕ → List (Cell NodeKind) → List (Cell Placed)
placed_from sources [] = []
placed_from sources (cell ∷ others) =
    record { kind = (sources, cell.kind); ins = cell.ins; outs = cell.outs; stage = cell.stage }
    ∷ placed_from (if is_source cell.kind then sources + 1 else sources) others

abbrev pub placed : List (Cell NodeKind) → List (Cell Placed)
placed nodes = placed_from 0 nodes

-- the one text, of a node with one in
abbrev pub only : List (List ℕ) → List ℕ
only [] = []
only (text ∷ others) = text

-- the texts joined, each but the last closed
abbrev pub joined_lines : List (List ℕ) → List ℕ
joined_lines [] = []
joined_lines (text ∷ []) = text
joined_lines (text ∷ next ∷ others) = closing text ++ joined_lines (next ∷ others)

-- the texts of a node's outs, so many, from those of its ins and of the sources
abbrev pub texts_given : List (List ℕ) → ℕ → NodeKind → ℕ → List (List ℕ) → List (List ℕ)
texts_given sources number (kind.Source source) outs ins = get_or sources number [] ∷ []
texts_given sources number (kind.Text text) outs ins = text ∷ []
texts_given sources number kind.Split outs ins = parts_of (only ins) outs
texts_given sources number (kind.Map inv) outs ins = map_of inv (only ins) ∷ []
texts_given sources number (kind.Whole inv) outs ins = output_of inv ins ∷ []
texts_given sources number (kind.Cat close) outs ins = (if close then joined_lines ins else concat ins) ∷ []
texts_given sources number (kind.Agg inv) outs ins = aggregate_of inv ins ∷ []
texts_given sources number (kind.Finish inv) outs ins = finish_of inv (only ins) ∷ []
texts_given sources number (kind.TeeFile path mode) outs ins = replicate outs (only ins)
texts_given sources number kind.Drain outs ins = []
texts_given sources number (kind.Sink sink) outs ins = []

abbrev pub equation : List (List ℕ) → Placed → ℕ → List (List ℕ) → List (List ℕ)
equation sources node outs ins = texts_given sources node.0 node.1 outs ins

-- no edge has a text yet
abbrev pub no_texts : ℕ → List ℕ
no_texts edge = []

-- the text of each edge, from the texts of the sources in the order of the nodes
abbrev pub flow : List (Cell NodeKind) → List (List ℕ) → ℕ → List ℕ
flow nodes sources = after (equation sources) (placed nodes) no_texts

-- a text that a graph writes: to the output, or to a file
pub data Write : Type 0 where
  ToOutput : List ℕ → Write
  ToFile : Components → Mode → List ℕ → Write

abbrev pub writes_of : NodeKind → List (List ℕ) → List Write
writes_of (kind.Sink to.Output) ins = ToOutput (only ins) ∷ []
writes_of (kind.Sink (to.File path mode)) ins = ToFile path mode (only ins) ∷ []
writes_of (kind.TeeFile path mode) ins = ToFile path mode (only ins) ∷ []
writes_of other ins = []

-- all that the graph writes, in the order of the nodes
abbrev pub writes : List (Cell NodeKind) → List (List ℕ) → List Write
writes nodes sources = run (equation sources) (λ node ins. writes_of node.1 ins) (placed nodes) no_texts

abbrev pub to_output : Write → List ℕ
to_output (ToOutput text) = text
to_output (ToFile path mode text) = []

abbrev pub to_file : Write → List (Components × (Mode × List ℕ))
to_file (ToOutput text) = []
to_file (ToFile path mode text) = (path, (mode, text)) ∷ []

-- a map or a whole that selects something in its ins
abbrev pub selects : NodeKind → List (List ℕ) → Bool
selects (kind.Map inv) ins = selects_of inv (only ins ∷ [])
selects (kind.Whole inv) ins = selects_of inv ins
selects other ins = false

-- of each node, whether it selects something
abbrev pub selections : List (Cell NodeKind) → List (List ℕ) → List Bool
selections nodes sources = run (equation sources) (λ node ins. selects node.1 ins ∷ []) (placed nodes) no_texts

abbrev pub status_by : StatusRule → List Bool → ℕ
status_by (status.Fixed code) selected = code
status_by (status.Selected nodes some none) selected = if list_any (λ node. get_or selected node false) nodes then some else none

-- what a graph leaves: the text at the output, the text for each file in the order of the nodes, and the status
pub record Outcome : Type 0 where
  pub output : List ℕ
  pub files : List (Components × (Mode × List ℕ))
  pub status : ℕ

abbrev pub outcome : Graph → List (List ℕ) → Outcome
outcome graph sources =
    record {
      output = flat_map to_output (writes graph.nodes sources);
      files = flat_map to_file (writes graph.nodes sources);
      status = status_by graph.status (selections graph.nodes sources);
    }

-- the texts meet each node's equation
abbrev pub Solves : List (List ℕ) → List (Cell Placed) → (ℕ → List ℕ) → Type 0
Solves sources [] texts = Unit {0}
Solves sources (cell ∷ others) texts =
    (map texts cell.outs ≡ equation sources cell.kind (length cell.outs) (map texts cell.ins)) × Solves sources others texts
