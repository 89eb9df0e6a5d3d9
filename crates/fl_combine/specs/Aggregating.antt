-- Maps and an aggregate in place of a whole (own). A Whole whose one input is joined by a Cat that doesn't close becomes one Map for each input
-- of the Cat, in order, an Agg over the Maps, and a Finish where the command has one; the Cat before goes. It may where the class of the
-- command is P and the Cat's inputs, two or more, are known to be a cut list. The edges are then numbered anew, and the status names the Maps
-- in place of the Whole.
use Rattle.std.specs.Prelude.{ℕ, ◌+◌, List, [], ◌∷◌, ◌++◌, Bool, true, false, ◌&&◌, nat_le, if◌then◌else◌, length, Option, Some, None}
use Rattle.std.specs.List.{range_with_len}
use Rattle.std.specs.Option.{option_and_then, option_map}
use Rattle.ut_args.specs.Classes.{class_of}
use Rattle.ut_args.specs.declared.invocations.Inv.{Inv}
use Rattle.fl_graph.specs.Kinds.{has_aggregator}
use Rattle.fl_graph.specs.Net.{gives}
use Rattle.fl_graph.specs.declared.graphs.Cell.{Cell}
use Rattle.fl_graph.specs.declared.graphs.Graph.{Graph}
use Rattle.fl_graph.specs.declared.kinds.NodeKind.{NodeKind}
use Rattle.fl_graph.specs.declared.kinds.NodeKind.TheVariants as kind
use Rattle.fl_rewrites.specs.Joined.{Joined, joined_at, map_cells, unjoined}
use Rattle.fl_rewrites.specs.Known.{is_known}
use Rattle.fl_rewrites.specs.declared.joined.Unjoined.{Unjoined}
use Rattle.fl_segments.specs.Stages.{has_finish}

abbrev pub agg_cell : Inv → List ℕ → List ℕ → ℕ → Cell NodeKind
agg_cell inv ins outs stage = record { kind = kind.Agg inv; ins = ins; outs = outs; stage = stage }

abbrev pub finish_cell : Inv → List ℕ → List ℕ → ℕ → Cell NodeKind
finish_cell inv ins outs stage = record { kind = kind.Finish inv; ins = ins; outs = outs; stage = stage }

-- the nodes behind so many maps, which give the numbers from this one on: the aggregate, and the finish where there is one
abbrev pub behind_maps : Bool → Inv → ℕ → ℕ → ℕ → List ℕ → List (Cell NodeKind)
behind_maps false inv stage next count outs = agg_cell inv (range_with_len next count) outs stage ∷ []
behind_maps true inv stage next count outs =
    agg_cell inv (range_with_len next count) ((next + count) ∷ []) stage ∷ finish_cell inv ((next + count) ∷ []) outs stage ∷ []

abbrev pub aggregate_cells : ℕ → Joined → List (Cell NodeKind)
aggregate_cells next at =
    map_cells at.inv at.stage next at.parts ++ behind_maps (has_finish at.inv) at.inv at.stage next (length at.parts) at.outs

-- whether the maps of these parts may be aggregated: where the parts are known to be a cut list
abbrev pub may_aggregate : Inv → List ℕ → Bool → Bool
may_aggregate inv parts known = has_aggregator (class_of inv) && (nat_le 2 (length parts) && known)

-- what comes in the place of the Whole with this number, where it may; one function for each choice
abbrev pub aggregate_of_parts : List (Cell NodeKind) → Joined → Option Unjoined
aggregate_of_parts cells at =
    if may_aggregate at.inv at.parts (is_known cells at.parts) then Some (record { cat = at.cat; named = length at.parts; nodes = aggregate_cells (length (gives cells)) at }) else None

abbrev pub aggregate_at : List (Cell NodeKind) → ℕ → Option Unjoined
aggregate_at cells node = option_and_then (aggregate_of_parts cells) (joined_at cells node)

-- the graph in which the maps of the parts and their aggregate stand for the Whole with this number, where they may
abbrev pub aggregated : ℕ → Graph → Option Graph
aggregated node graph = option_map (unjoined graph node) (aggregate_at graph.nodes node)
