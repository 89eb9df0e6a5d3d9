-- A Whole behind a Cat (own): it reads one input, which a Cat that doesn't close gives. Where its command goes by parts, each input of the Cat
-- may have a map of its own.
use Rattle.std.specs.Prelude.{ℕ, ◌+◌, List, [], ◌∷◌, if◌then◌else◌, slice_get, Option, Some, None}
use Rattle.std.specs.Option.{option_and_then}
use Rattle.ut_args.specs.declared.invocations.Inv.{Inv}
use Rattle.fl_graph.specs.declared.graphs.Cell.{Cell}
use Rattle.fl_graph.specs.declared.graphs.Graph.{Graph}
use Rattle.fl_graph.specs.declared.kinds.NodeKind.{NodeKind}
use Rattle.fl_graph.specs.declared.kinds.NodeKind.TheVariants as kind
use Rattle.fl_rewrites.specs.Known.{joins_plainly}
use Rattle.fl_rewrites.specs.Places.{giver_of}
use Rattle.fl_rewrites.specs.Replacing.{with_nodes, in_order}
use Rattle.fl_rewrites.specs.declared.joined.Unjoined.{Unjoined}

-- the number of the Cat and its ins; the invocation of the Whole, its outs and its stage
pub record Joined : Type 0 where
  pub cat : ℕ
  pub parts : List ℕ
  pub inv : Inv
  pub outs : List ℕ
  pub stage : ℕ

-- one function for each choice
abbrev pub joined_by : Cell NodeKind → Inv → ℕ → Cell NodeKind → Option Joined
joined_by whole inv place cat =
    if joins_plainly cat.kind then Some (record { cat = place; parts = cat.ins; inv = inv; outs = whole.outs; stage = whole.stage }) else None

abbrev pub joined_behind : List (Cell NodeKind) → Cell NodeKind → Inv → ℕ → Option Joined
joined_behind cells whole inv place = option_and_then (joined_by whole inv place) (slice_get cells place)

abbrev pub joined_whole : List (Cell NodeKind) → Cell NodeKind → NodeKind → List ℕ → Option Joined
joined_whole cells whole (kind.Whole inv) (edge ∷ []) = option_and_then (joined_behind cells whole inv) (giver_of edge cells)
joined_whole cells whole other ins = None

abbrev pub joined_node : List (Cell NodeKind) → Cell NodeKind → Option Joined
joined_node cells node = joined_whole cells node node.kind node.ins

-- the Whole with this number, where it stands behind a Cat
abbrev pub joined_at : List (Cell NodeKind) → ℕ → Option Joined
joined_at cells node = option_and_then (joined_node cells) (slice_get cells node)

-- a map for each edge, the first of which gives this number
abbrev pub map_cells : Inv → ℕ → ℕ → List ℕ → List (Cell NodeKind)
map_cells inv stage next [] = []
map_cells inv stage next (edge ∷ edges) =
    record { kind = kind.Map inv; ins = edge ∷ []; outs = next ∷ []; stage = stage } ∷ map_cells inv stage (next + 1) edges

-- the graph in which these nodes are in the place of the Whole with this number, and the Cat has gone
abbrev pub unjoined : Graph → ℕ → Unjoined → Graph
unjoined graph node new = in_order (with_nodes new.cat [] 0 (with_nodes node new.nodes new.named graph))
