-- What the sources of a graph read (own): the text of the input, and those of files, in the order of the nodes.
use Rattle.std.specs.Prelude.{ℕ, List, Option, Some, None}
use Rattle.std.specs.List.{filter_map}
use Rattle.ps_world.specs.Paths.{Components}
use Rattle.fl_graph.specs.declared.graphs.Cell.{Cell}
use Rattle.fl_graph.specs.declared.kinds.NodeKind.{NodeKind}
use Rattle.fl_graph.specs.declared.kinds.NodeKind.TheVariants as kind
use Rattle.fl_graph.specs.declared.kinds.From.TheVariants as from

-- the text that a node reads, where the input has this text and each file the one by its path
abbrev pub text_read : List ℕ → (Components → List ℕ) → NodeKind → Option (List ℕ)
text_read input files (kind.Source from.Input) = Some input
text_read input files (kind.Source (from.File path)) = Some (files path)
text_read input files other = None

abbrev pub source_texts : List (Cell NodeKind) → List ℕ → (Components → List ℕ) → List (List ℕ)
source_texts cells input files = filter_map (λ cell. text_read input files cell.kind) cells
