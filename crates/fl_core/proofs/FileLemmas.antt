-- What a graph leaves in files: each file's text is what its node's end has grown by.
use Rattle.std.proofs.Common.{◌≡◌, ℕ, suc, ◌+◌, List, [], ◌∷◌, ◌++◌, true, if◌then◌else◌, map, slice_get, Option, Some, refl, sym, subst, arith}
use Rattle.std.specs.List.{flat_map}
use Rattle.ps_world.specs.Told.{then_bytes}
use Rattle.fl_graph.specs.declared.graphs.Cell.{Cell}
use Rattle.fl_graph.specs.Valid.{Valid}
use Rattle.fl_graph.specs.declared.graphs.Graph.{Graph}
use Rattle.fl_graph.specs.declared.kinds.NodeKind.{NodeKind}
use Rattle.fl_graph.specs.declared.kinds.NodeKind.TheVariants as kind
use Rattle.fl_graph.specs.declared.kinds.To.TheVariants as to
use Rattle.fl_classes.specs.Flow.{Write, flow, only, outcome, to_file, writes_of}
use Rattle.fl_core.specs.EndLists.{file_nodes, writes_file, GrewByFiles}
use Rattle.fl_classes.specs.Kinds.{is_writer}
use Rattle.fl_net.proofs.LawLemmas.{writes_of_the_flow}

module _ (old new : ℕ → Option (List ℕ)) where
  -- a node and those behind it
  node_grew : (it : NodeKind) (number : ℕ) (ins : List (List ℕ)) (nodes : List ℕ) (others : List Write)
      → (is_writer it ≡ true → new number ≡ then_bytes (old number) (only ins)) → GrewByFiles old new nodes (flat_map to_file others)
      → GrewByFiles old new (if writes_file it then number ∷ nodes else nodes) (flat_map to_file (writes_of it ins ++ others))
  node_grew (kind.Sink (to.File path mode)) number ins nodes others grew rest = (grew refl, rest)
  node_grew (kind.Sink to.Output) number ins nodes others grew rest = rest
  node_grew (kind.TeeFile path mode) number ins nodes others grew rest = (grew refl, rest)
  node_grew other number ins nodes others grew rest = rest

  module _ (values : ℕ → List ℕ) where
    abbrev told : Cell NodeKind → List Write
    told cell = writes_of cell.kind (map values cell.ins)

    nodes_grew : (number : ℕ) (cells : List (Cell NodeKind))
        → ((node : ℕ) (cell : Cell NodeKind) → slice_get cells node ≡ Some cell → is_writer cell.kind ≡ true → new (number + node) ≡ then_bytes (old (number + node)) (only (map values cell.ins)))
        → GrewByFiles old new (file_nodes number cells) (flat_map to_file (flat_map told cells))
    nodes_grew number [] grew = tt
    nodes_grew number (first ∷ cells) grew =
        let here : number + 0 ≡ number = omega arith in
        node_grew first.kind number (map values first.ins) (file_nodes (number + 1) cells) (flat_map told cells)
        (λ writes. subst (λ (it : ℕ). new it ≡ then_bytes (old it) (only (map values first.ins))) here (grew 0 first refl writes))
        (nodes_grew (number + 1) cells
        (λ node cell at writes.
        let next : number + suc node ≡ (number + 1) + node = omega arith in
        subst (λ (it : ℕ). new it ≡ then_bytes (old it) (only (map values cell.ins))) next (grew (suc node) cell at writes)))

-- each writer of a graph has grown by its file's text
pub files_grew : (graph : Graph) → Valid graph.nodes graph.status → (sources : List (List ℕ)) (old new : ℕ → Option (List ℕ))
    → ((node : ℕ) (cell : Cell NodeKind) → slice_get graph.nodes node ≡ Some cell → is_writer cell.kind ≡ true
    → new node ≡ then_bytes (old node) (only (map (flow graph.nodes sources) cell.ins)))
    → GrewByFiles old new (file_nodes 0 graph.nodes) (outcome graph sources).files
files_grew graph valid sources old new grew =
    subst (λ (list : List Write). GrewByFiles old new (file_nodes 0 graph.nodes) (flat_map to_file list)) (sym (writes_of_the_flow graph.nodes graph.status valid sources))
    (nodes_grew old new (flow graph.nodes sources) 0 graph.nodes
    (λ node cell at writes. let here : node ≡ 0 + node = omega arith in
    subst (λ (it : ℕ). new it ≡ then_bytes (old it) (only (map (flow graph.nodes sources) cell.ins))) here (grew node cell at writes)))
