-- A tree of aggregates in place of one (own). An Agg of more than two inputs is halved, with the greater half left, until each has two. A half
-- of one input is that input; a larger half is an Agg made by the same rule. The nodes of the left half, those of the right half and the Agg
-- that joins them stand in this order. The edges are then numbered anew.
use Rattle.std.specs.Prelude.{ℕ, ◌+◌, List, [], ◌∷◌, ◌++◌, nat_lt, if◌then◌else◌, length, slice_get, Option, Some, None}
use Rattle.std.specs.Option.{option_and_then, option_map}
use Rattle.ut_args.specs.declared.invocations.Inv.{Inv}
use Rattle.fl_graph.specs.Net.{gives}
use Rattle.fl_graph.specs.declared.graphs.Cell.{Cell}
use Rattle.fl_graph.specs.declared.graphs.Graph.{Graph}
use Rattle.fl_graph.specs.declared.kinds.NodeKind.{NodeKind}
use Rattle.fl_graph.specs.declared.kinds.NodeKind.TheVariants as kind
use Rattle.fl_rewrites.specs.Replacing.{exchanged}
use Rattle.fl_segments.specs.Inner.Steps.{Tree, Leaf, Join, joins_of, tree_over}
use Rattle.fl_combine.specs.Aggregating.{agg_cell}

-- the edge that a tree gives, where the edges of its own have the numbers from this one on
abbrev pub root : Tree → ℕ → ℕ
root (Leaf edge) next = edge
root (Join left right) next = next

-- its nodes, the last of which has these outs, and where its other edges have the numbers from this one on
abbrev pub tree_cells : Inv → ℕ → Tree → List ℕ → ℕ → List (Cell NodeKind)
tree_cells inv stage (Leaf edge) outs next = []
tree_cells inv stage (Join left right) outs next =
    tree_cells inv stage left (next ∷ []) (next + 1)
    ++ (tree_cells inv stage right ((next + joins_of left) ∷ []) (next + joins_of left + 1)
    ++ agg_cell inv (root left next ∷ root right (next + joins_of left) ∷ []) outs stage ∷ [])

-- the nodes in place of an aggregate of more than two, where the own edges have the numbers from this one on; one function for each choice
abbrev pub tree_for : ℕ → Cell NodeKind → NodeKind → Option (List (Cell NodeKind))
tree_for next cell (kind.Agg inv) = if nat_lt 2 (length cell.ins) then Some (tree_cells inv cell.stage (tree_over cell.ins) cell.outs next) else None
tree_for next cell other = None

abbrev pub tree_at : List (Cell NodeKind) → ℕ → Option (List (Cell NodeKind))
tree_at cells node = option_and_then (λ cell. tree_for (length (gives cells)) cell cell.kind) (slice_get cells node)

-- the graph with a tree of aggregates in the place of the one with this number, where it joins more than two
abbrev pub fanned : ℕ → Graph → Option Graph
fanned node graph = option_map (exchanged node graph) (tree_at graph.nodes node)
