-- How many pieces the steps of a network have moved, and how many they move at most (own).
use Rattle.std.specs.Prelude.{ℕ, ◌+◌, ◌*◌, List, [], ◌∷◌, if◌then◌else◌, length, map, get_or}
use Rattle.std.specs.List.{flat_map, range_with_len, sum_by}
use Rattle.fl_graph.specs.Net.{gives}
use Rattle.fl_graph.specs.declared.graphs.Cell.{Cell}
use Rattle.fl_graph.specs.declared.kinds.NodeKind.{NodeKind}
use Rattle.fl_graph.specs.declared.pieces.Piece.{Piece}
use Rattle.fl_classes.specs.Flow.{Placed, placed, flow, is_source, only}
use Rattle.fl_classes.specs.Kinds.{is_writer}
use Rattle.fl_net.specs.Runs.{Plan}

-- what the steps of a node have moved, where so much was taken from each edge and put on it: what it took from its ins, and what it put on its outs
abbrev pub moves_at : Plan → (ℕ → List Piece) → (ℕ → List Piece) → ℕ → ℕ
moves_at plan took put node = sum_by (λ edge. length (took edge)) (plan.ins node) + sum_by (λ edge. length (put edge)) (plan.outs node)

-- and what the steps of so many nodes have
abbrev pub moves_of : Plan → ℕ → (ℕ → List Piece) → (ℕ → List Piece) → ℕ
moves_of plan nodes took put = sum_by (moves_at plan took put) (range_with_len 0 nodes)

-- the most pieces in which a text comes: one for each byte, and its end
abbrev pub most_pieces : List ℕ → ℕ
most_pieces text = length text + 1

-- the text that a source takes from outside, or that a node which writes gives there; other nodes have none
abbrev pub outer_texts : (ℕ → List ℕ) → List (List ℕ) → Cell Placed → List (List ℕ)
outer_texts texts sources cell =
    if is_source cell.kind.1 then get_or sources cell.kind.0 [] ∷ [] else if is_writer cell.kind.1 then only (map texts cell.ins) ∷ [] else []

-- what was put on an edge, and what was taken from it
abbrev pub moves_over : (ℕ → List Piece) → (ℕ → List Piece) → ℕ → ℕ
moves_over took put edge = length (put edge) + length (took edge)

-- the edges of a graph
abbrev pub edges_of : List (Cell NodeKind) → List ℕ
edges_of cells = range_with_len 0 (length (gives cells))

-- the most pieces that can be moved over them: each is put by one step and taken by another
abbrev pub most_over_edges : List (Cell NodeKind) → List (List ℕ) → ℕ
most_over_edges cells sources = 2 * sum_by (λ edge. most_pieces (flow cells sources edge)) (edges_of cells)

-- and with those on an edge from outside, which are taken, and on one to the outside, which are put
abbrev pub most_moves : List (Cell NodeKind) → List (List ℕ) → ℕ
most_moves cells sources =
    most_over_edges cells sources
    + sum_by most_pieces (flat_map (outer_texts (flow cells sources) sources) (placed cells))
