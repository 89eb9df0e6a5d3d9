-- Groups of files in place of a Cat (own). A Cat that doesn't close over files becomes so many groups, each a Cat that doesn't close over some of
-- the files, and a Cat that doesn't close over the groups. Group i, from 0, has the files from i * files / groups, rounded down. It may where
-- all files before the last group are marked closed. The edges are then numbered anew.
use Rattle.std.specs.Prelude.{◌≡◌, ℕ, zero, suc, ◌+◌, ◌-◌, ◌*◌, ◌/◌, List, [], ◌∷◌, ◌++◌, Bool, true, false, ◌&&◌, ◌||◌, not, ◌==◌, nat_le, if◌then◌else◌, length, map, take, slice_get, Option, Some, None}
use Rattle.std.specs.List.{list_all, range_with_len}
use Rattle.std.specs.Option.{option_and_then, option_map, option_map_or}
use Rattle.ps_lines.specs.Lines.{is_closed}
use Rattle.fl_graph.specs.Net.{gives}
use Rattle.fl_graph.specs.declared.graphs.Cell.{Cell}
use Rattle.fl_graph.specs.declared.graphs.Graph.{Graph}
use Rattle.fl_graph.specs.declared.kinds.NodeKind.{NodeKind}
use Rattle.fl_graph.specs.declared.kinds.NodeKind.TheVariants as kind
use Rattle.fl_classes.specs.Flow.{flow}
use Rattle.fl_classes.specs.Parts.{slice}
use Rattle.fl_rewrites.specs.Known.{are_files, joins_plainly}
use Rattle.fl_rewrites.specs.Replacing.{exchanged}

-- where a group begins, in so many groups of so many files
abbrev pub group_start : ℕ → ℕ → ℕ → ℕ
group_start groups files group = group * files / groups

-- so many groups, from the one with this number
abbrev pub groups_from : ℕ → List ℕ → ℕ → ℕ → List (List ℕ)
groups_from groups files group zero = []
groups_from groups files group (suc left) =
    slice files (group_start groups (length files) group) (group_start groups (length files) (group + 1)) ∷ groups_from groups files (group + 1) left

abbrev pub groups_of : ℕ → List ℕ → List (List ℕ)
groups_of groups files = groups_from groups files 0 groups

abbrev pub join_cell : List ℕ → List ℕ → ℕ → Cell NodeKind
join_cell ins outs stage = record { kind = kind.Cat false; ins = ins; outs = outs; stage = stage }

-- a Cat of each group, the first of which gives this number
abbrev pub group_cells : ℕ → ℕ → List (List ℕ) → List (Cell NodeKind)
group_cells stage next [] = []
group_cells stage next (group ∷ groups) = join_cell group (next ∷ []) stage ∷ group_cells stage (next + 1) groups

-- these, and the Cat that joins them
abbrev pub grouped_cells : ℕ → ℕ → Cell NodeKind → List (Cell NodeKind)
grouped_cells groups next cell =
    group_cells cell.stage next (groups_of groups cell.ins) ++ join_cell (range_with_len next groups) cell.outs cell.stage ∷ []

-- so many files, each marked closed or not, may be in so many groups: each has one, and all files before the last group are marked
abbrev pub may_have_groups : ℕ → ℕ → List Bool → Bool
may_have_groups groups files closed =
    (length closed == files) && (nat_le 1 groups && (nat_le groups files && list_all (λ it. it) (take (group_start groups files (groups - 1)) closed)))

abbrev pub may_group : List (Cell NodeKind) → List Bool → ℕ → Cell NodeKind → Bool
may_group cells closed groups cell =
    joins_plainly cell.kind && (may_have_groups groups (length cell.ins) closed && are_files cells cell.ins)

-- what comes in the place of the Cat with this number, where it may; one function for each choice
abbrev pub groups_by : List (Cell NodeKind) → List Bool → ℕ → Cell NodeKind → Option (List (Cell NodeKind))
groups_by cells closed groups cell = if may_group cells closed groups cell then Some (grouped_cells groups (length (gives cells)) cell) else None

abbrev pub groups_at : List (Cell NodeKind) → List Bool → ℕ → ℕ → Option (List (Cell NodeKind))
groups_at cells closed groups node = option_and_then (groups_by cells closed groups) (slice_get cells node)

-- the graph with groups of its files in the place of the Cat with this number, where there may be so many
abbrev pub grouped : ℕ → List Bool → ℕ → Graph → Option Graph
grouped node closed groups graph = option_map (exchanged node graph) (groups_at graph.nodes closed groups node)

-- the texts that are marked closed are
abbrev pub are_closed : List Bool → List (List ℕ) → Bool
are_closed [] texts = true
are_closed (marked ∷ closed) [] = true
are_closed (marked ∷ closed) (text ∷ texts) = (not marked || is_closed text) && are_closed closed texts

-- the ins of the node with this number
abbrev pub ins_at : List (Cell NodeKind) → ℕ → List ℕ
ins_at cells node = option_map_or (λ cell. cell.ins) (slice_get cells node) []

-- so are the files that come to it
abbrev pub AreClosed : List Bool → ℕ → Graph → List (List ℕ) → Type 0
AreClosed closed node graph sources = are_closed closed (map (flow graph.nodes sources) (ins_at graph.nodes node)) ≡ true
