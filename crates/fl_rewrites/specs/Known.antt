-- Edges whose texts are known to be cut at ends of lines, in order (own): all outs of one split, or groups, each of them maybe through maps
-- that keep closed texts closed. A group is what a Cat that doesn't close gives, over files alone.
use Rattle.std.specs.Prelude.{ℕ, List, [], ◌∷◌, Bool, true, false, not, ◌&&◌, ◌||◌, nat_eq, if◌then◌else◌, map}
use Rattle.std.specs.List.{flat_map, list_all, list_any}
use Rattle.std.specs.Cmp.Lexicographic.{pointwise}
use Rattle.ut_args.specs.Classes.{keeps_closed_of}
use Rattle.fl_graph.specs.Net.{has}
use Rattle.fl_graph.specs.declared.graphs.Cell.{Cell}
use Rattle.fl_graph.specs.declared.kinds.NodeKind.{NodeKind}
use Rattle.fl_graph.specs.declared.kinds.NodeKind.TheVariants as kind
use Rattle.fl_rewrites.specs.Suits.{is_file}

-- a map that keeps closed texts closed
abbrev pub keeps_ends : NodeKind → Bool
keeps_ends (kind.Map inv) = keeps_closed_of inv
keeps_ends other = false

abbrev pub first_in : List ℕ → ℕ → ℕ
first_in [] edge = edge
first_in (first ∷ ins) edge = first

-- where each edge comes from through such maps, behind this node and behind all
abbrev pub root_behind : Cell NodeKind → (ℕ → ℕ) → ℕ → ℕ
root_behind cell roots edge = if keeps_ends cell.kind && has edge cell.outs then roots (first_in cell.ins edge) else roots edge

abbrev pub roots_behind : List (Cell NodeKind) → (ℕ → ℕ) → ℕ → ℕ
roots_behind [] roots = roots
roots_behind (cell ∷ cells) roots = roots_behind cells (root_behind cell roots)

abbrev pub root_of : List (Cell NodeKind) → ℕ → ℕ
root_of cells edge = roots_behind cells (λ it. it) edge

abbrev pub is_split : NodeKind → Bool
is_split kind.Split = true
is_split other = false

-- a Cat that doesn't close
abbrev pub joins_plainly : NodeKind → Bool
joins_plainly (kind.Cat close) = not close
joins_plainly other = false

-- the edges are all outs of this node, a split, in order
abbrev pub splits_into : List ℕ → Cell NodeKind → Bool
splits_into edges cell = is_split cell.kind && pointwise nat_eq cell.outs edges

-- the edges at which files are read
abbrev pub files_given : List (Cell NodeKind) → List ℕ
files_given cells = flat_map (λ cell. if is_file cell.kind then cell.outs else []) cells

-- files are read at all of these edges
abbrev pub are_files : List (Cell NodeKind) → List ℕ → Bool
are_files cells edges = list_all (λ edge. has edge (files_given cells)) edges

-- a Cat that doesn't close, over files alone: edges at which files are read, by this test
abbrev pub is_group : (ℕ → Bool) → Cell NodeKind → Bool
is_group reads_file cell = joins_plainly cell.kind && list_all reads_file cell.ins

abbrev pub groups_by : (ℕ → Bool) → List (Cell NodeKind) → List ℕ
groups_by reads_file cells = flat_map (λ cell. if is_group reads_file cell then cell.outs else []) cells

-- the edges that carry groups
abbrev pub groups_given : List (Cell NodeKind) → List ℕ
groups_given cells = groups_by (λ edge. has edge (files_given cells)) cells

-- edges that are all outs of one split, in order, or that all carry groups
abbrev pub are_parts : List (Cell NodeKind) → List ℕ → Bool
are_parts cells edges = list_any (splits_into edges) cells || list_all (λ edge. has edge (groups_given cells)) edges

-- the edges' texts are known to be a cut list
abbrev pub is_known : List (Cell NodeKind) → List ℕ → Bool
is_known cells edges = are_parts cells (map (root_of cells) edges)
