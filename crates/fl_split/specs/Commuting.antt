-- A map for each part in place of a whole (own). A Whole whose one input is joined by a Cat that doesn't close becomes one Map for each input
-- of the Cat, in order, and a Cat that doesn't close over the Maps; the Cat before goes. It may where the class of the command is S, and for
-- S(Lines) where the Cat's inputs are known to be a cut list. The edges are then numbered anew, and the status names the Maps in place of the
-- Whole.
use Rattle.std.specs.Prelude.{ℕ, List, [], ◌∷◌, ◌++◌, Bool, true, false, if◌then◌else◌, length, Option, Some, None}
use Rattle.std.specs.List.{range_with_len}
use Rattle.std.specs.Option.{option_and_then, option_map}
use Rattle.ut_args.specs.Classes.{class_of}
use Rattle.ut_args.specs.declared.classes.Class.{Class}
use Rattle.ut_args.specs.declared.classes.Class.TheVariants as class
use Rattle.ut_args.specs.declared.classes.Seam.TheVariants as seam
use Rattle.fl_graph.specs.Net.{gives}
use Rattle.fl_graph.specs.declared.graphs.Cell.{Cell}
use Rattle.fl_graph.specs.declared.graphs.Graph.{Graph}
use Rattle.fl_graph.specs.declared.kinds.NodeKind.{NodeKind}
use Rattle.fl_graph.specs.declared.kinds.NodeKind.TheVariants as kind
use Rattle.fl_rewrites.specs.Joined.{Joined, joined_at, map_cells, unjoined}
use Rattle.fl_rewrites.specs.Known.{is_known}
use Rattle.fl_rewrites.specs.declared.joined.Unjoined.{Unjoined}

-- the maps of a command of this class, joined, are that of the whole, where its parts are known to be a cut list or not
abbrev pub may_spread : Class → Bool → Bool
may_spread (class.S seam.Bytes) known = true
may_spread (class.S seam.Lines) known = known
may_spread class.P known = false
may_spread class.N known = false
may_spread class.E known = false

-- the maps, the first of which gives this number, and the Cat that joins them
abbrev pub spread_cells : ℕ → Joined → List (Cell NodeKind)
spread_cells next at =
    map_cells at.inv at.stage next at.parts
    ++ record { kind = kind.Cat false; ins = range_with_len next (length at.parts); outs = at.outs; stage = at.stage } ∷ []

-- what comes in the place of the Whole with this number, where it may; one function for each choice
abbrev pub spread_of : List (Cell NodeKind) → Joined → Option Unjoined
spread_of cells at =
    if may_spread (class_of at.inv) (is_known cells at.parts) then Some (record { cat = at.cat; named = length at.parts; nodes = spread_cells (length (gives cells)) at }) else None

abbrev pub spread_at : List (Cell NodeKind) → ℕ → Option Unjoined
spread_at cells node = option_and_then (spread_of cells) (joined_at cells node)

-- the graph in which the maps of the parts stand for the Whole with this number, where they may
abbrev pub commuted : ℕ → Graph → Option Graph
commuted node graph = option_map (unjoined graph node) (spread_at graph.nodes node)
