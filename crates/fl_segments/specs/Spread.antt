-- How a segment is spread at a width (own): how many maps and wholes each stage has, and the groups of a cat that leads. The code makes them stage by stage.
use Rattle.std.specs.Prelude.{◌≡◌, ℕ, ◌+◌, ◌-◌, ◌<◌, List, [], ◌∷◌, Bool, true, false, ◌&&◌, ◌==◌, if◌then◌else◌, length, slice_get, Some}
use Rattle.std.specs.List.{count_by, list_all, range_with_len}
use Rattle.ut_args.specs.Classes.{class_of}
use Rattle.fl_graph.specs.Kinds.{has_aggregator}
use Rattle.fl_graph.specs.declared.graphs.Cell.{Cell}
use Rattle.fl_graph.specs.declared.kinds.NodeKind.{NodeKind}
use Rattle.fl_graph.specs.declared.kinds.NodeKind.TheVariants as kind
use Rattle.fl_classes.specs.Used.{is_cat}
use Rattle.fl_segments.specs.Groups.{group_start, is_grouped}
use Rattle.fl_segments.specs.Stages.{has_finish, is_spread}
use Rattle.fl_segments.specs.declared.stages.Does.{Does}
use Rattle.fl_segments.specs.declared.stages.Does.TheVariants as does
use Rattle.fl_segments.specs.declared.stages.Stage.{Stage}

abbrev pub is_map : NodeKind → Bool
is_map (kind.Map inv) = true
is_map other = false

abbrev pub is_whole : NodeKind → Bool
is_whole (kind.Whole inv) = true
is_whole other = false

abbrev pub is_aggregate : NodeKind → Bool
is_aggregate (kind.Agg inv) = true
is_aggregate other = false

abbrev pub is_finish : NodeKind → Bool
is_finish (kind.Finish inv) = true
is_finish other = false

abbrev pub is_unsplit : NodeKind → Bool
is_unsplit kind.Split = false
is_unsplit other = true

-- how many nodes of the stage with this number are such
abbrev pub count_at : ℕ → (NodeKind → Bool) → List (Cell NodeKind) → ℕ
count_at number test nodes = count_by (λ cell. (cell.stage == number) && test cell.kind) nodes

-- how many maps and wholes a stage has, which is the segment's first or isn't: a cat that leads the segment has none
abbrev pub maps_of : ℕ → Bool → Does → ℕ
maps_of width leads does.Skip = 0
maps_of width leads (does.Util inv) = if is_cat inv && leads then 0 else if is_spread width inv then width else 0

abbrev pub wholes_of : ℕ → Bool → Does → ℕ
wholes_of width leads does.Skip = 0
wholes_of width leads (does.Util inv) = if is_cat inv && leads then 0 else if is_spread width inv then 0 else 1

-- those of a utility that is spread are aggregated two by two, and finished where its output isn't the map of the whole
abbrev pub aggregates_of : ℕ → Bool → Does → ℕ
aggregates_of width leads does.Skip = 0
aggregates_of width leads (does.Util inv) =
    if is_cat inv && leads then 0 else if is_spread width inv then (if has_aggregator (class_of inv) then width - 1 else 0) else 0

abbrev pub finishes_of : ℕ → Bool → Does → ℕ
finishes_of width leads does.Skip = 0
finishes_of width leads (does.Util inv) =
    if is_cat inv && leads then 0 else if is_spread width inv then (if has_aggregator (class_of inv) then (if has_finish inv then 1 else 0) else 0) else 0

pub record HasItsMaps (width number : ℕ) (stage : Stage) (nodes : List (Cell NodeKind)) : Type 0 where
  pub maps : count_at number is_map nodes ≡ maps_of width (number == 0) stage.does
  pub wholes : count_at number is_whole nodes ≡ wholes_of width (number == 0) stage.does
  pub aggregates : count_at number is_aggregate nodes ≡ aggregates_of width (number == 0) stage.does
  pub finishes : count_at number is_finish nodes ≡ finishes_of width (number == 0) stage.does

-- a group of a cat that leads: a Cat over the edges of its files, which are given before
abbrev pub group_cell : ℕ → ℕ → ℕ → Cell NodeKind
group_cell groups files group =
    record {
      kind = kind.Cat false;
      ins = range_with_len (group_start groups files group) (group_start groups files (group + 1) - group_start groups files group);
      outs = (files + group) ∷ [];
      stage = 0;
    }

-- where the files of the first stage go in groups, as many as the width, these stand behind the files
abbrev pub HasItsGroups : ℕ → List Stage → List (Cell NodeKind) → Type 0
HasItsGroups width [] nodes = Unit {0}
HasItsGroups width (stage ∷ stages) nodes =
    is_grouped width true stage.does stage.ins ≡ true
    → (group : ℕ) → group < width → slice_get nodes (length stage.ins + group) ≡ Some (group_cell width (length stage.ins) group)

pub record IsSpread (width : ℕ) (segment : List Stage) (nodes : List (Cell NodeKind)) : Type 0 where
  -- each stage has its maps or its whole
  pub stages : (number : ℕ) (stage : Stage) → slice_get segment number ≡ Some stage → HasItsMaps width number stage nodes
  pub groups : HasItsGroups width segment nodes
  -- nothing is split where there is one part
  pub unsplit : width ≡ 1 → list_all (λ cell. is_unsplit cell.kind) nodes ≡ true
