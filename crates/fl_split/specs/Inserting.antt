-- A split before a node (own). A Split of an edge's text and a Cat that joins its parts again stand directly before the node that takes the
-- edge, in its stage, and the node takes the Cat's out in place of the edge. The edges are then numbered anew, and the status names the nodes
-- that it named.
use Rattle.std.specs.Prelude.{ℕ, ◌+◌, List, [], ◌∷◌, Bool, true, false, ◌&&◌, ◌==◌, nat_le, nat_lt, if◌then◌else◌, length, map, slice_get, Option, Some, None}
use Rattle.std.specs.List.{range_with_len}
use Rattle.std.specs.Option.{option_map, option_map_or}
use Rattle.fl_graph.specs.Net.{gives}
use Rattle.fl_graph.specs.declared.graphs.Cell.{Cell}
use Rattle.fl_graph.specs.declared.graphs.Graph.{Graph}
use Rattle.fl_graph.specs.declared.graphs.StatusRule.{StatusRule}
use Rattle.fl_graph.specs.declared.graphs.StatusRule.TheVariants as status
use Rattle.fl_graph.specs.declared.kinds.NodeKind.{NodeKind}
use Rattle.fl_graph.specs.declared.kinds.NodeKind.TheVariants as kind
use Rattle.fl_rewrites.specs.Numbering.{numbered}
use Rattle.fl_rewrites.specs.Places.{replaced, taker_of}
use Rattle.fl_split.specs.declared.inserting.TheConstants.{MAX_PARTS}

-- a split has so many parts
abbrev pub may_have_parts : ℕ → Bool
may_have_parts parts = nat_le 1 parts && nat_le parts MAX_PARTS

-- a node of this kind may take parts that are joined in place of their whole: all but those that join maps
abbrev pub may_take_parts : NodeKind → Bool
may_take_parts (kind.Agg inv) = false
may_take_parts (kind.Finish inv) = false
may_take_parts other = true

-- the edge, or the new one in place of the old
abbrev pub turned : ℕ → ℕ → ℕ → ℕ
turned old new edge = if edge == old then new else edge

abbrev pub split_cell : ℕ → ℕ → ℕ → ℕ → Cell NodeKind
split_cell next edge parts stage = record { kind = kind.Split; ins = edge ∷ []; outs = range_with_len next parts; stage = stage }

abbrev pub join_cell : ℕ → ℕ → ℕ → Cell NodeKind
join_cell next parts stage = record { kind = kind.Cat false; ins = range_with_len next parts; outs = (next + parts) ∷ []; stage = stage }

abbrev pub turned_cell : ℕ → ℕ → Cell NodeKind → Cell NodeKind
turned_cell old new cell = record { kind = cell.kind; ins = map (turned old new) cell.ins; outs = cell.outs; stage = cell.stage }

-- the nodes in place of the one that takes the edge, where `next` is the first number that no edge has
abbrev pub split_cells : ℕ → ℕ → ℕ → Cell NodeKind → List (Cell NodeKind)
split_cells next edge parts taker =
    split_cell next edge parts taker.stage ∷ join_cell next parts taker.stage ∷ turned_cell edge (next + parts) taker ∷ []

-- nodes from this number on have numbers that are higher by two
abbrev pub moved : ℕ → ℕ → ℕ
moved place node = if nat_lt node place then node else node + 2

abbrev pub moved_status : ℕ → StatusRule → StatusRule
moved_status place (status.Fixed code) = status.Fixed code
moved_status place (status.Selected nodes some none) = status.Selected (map (moved place) nodes) some none

-- the graph with a split of the edge before the node with this number
abbrev pub split_graph : ℕ → ℕ → Graph → ℕ → Graph
split_graph edge parts graph place =
    record {
      nodes = numbered (replaced (split_cells (length (gives graph.nodes)) edge parts) place graph.nodes);
      status = moved_status place graph.status;
    }

-- the node with this number may take parts
abbrev pub may_be_split : List (Cell NodeKind) → ℕ → Bool
may_be_split cells place = option_map_or (λ cell. may_take_parts cell.kind) (slice_get cells place) false

-- before which node a split of the edge may stand; one function for each choice
abbrev pub site_at : List (Cell NodeKind) → Option ℕ → Option ℕ
site_at cells None = None
site_at cells (Some place) = if may_be_split cells place then Some place else None

abbrev pub site_of : ℕ → ℕ → List (Cell NodeKind) → Option ℕ
site_of edge parts cells = if may_have_parts parts then site_at cells (taker_of edge cells) else None

-- the graph with a split of the edge in so many parts, where there may be one
abbrev pub with_split : ℕ → ℕ → Graph → Option Graph
with_split edge parts graph = option_map (split_graph edge parts graph) (site_of edge parts graph.nodes)
