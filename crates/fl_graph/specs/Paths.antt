-- The files that a graph reads and writes (own).
use Rattle.std.specs.Prelude.{◌≡◌, List, [], ◌∷◌, ◌++◌, Bool, true, false, not, ◌&&◌, nat_eq, Option, Some, None}
use Rattle.std.specs.List.{list_any, filter_map}
use Rattle.std.specs.Cmp.Lexicographic.{pointwise}
use Rattle.ps_world.specs.Paths.{Components}
use Rattle.ps_world.specs.Places.{is_null_path}
use Rattle.fl_graph.specs.declared.graphs.Cell.{Cell}
use Rattle.fl_graph.specs.declared.kinds.NodeKind.{NodeKind}
use Rattle.fl_graph.specs.declared.kinds.NodeKind.TheVariants as kind
use Rattle.fl_graph.specs.declared.kinds.From.TheVariants as from
use Rattle.fl_graph.specs.declared.kinds.To.TheVariants as to

-- the path of the file that a node reads, and of that which it writes
abbrev pub path_read : NodeKind → Option Components
path_read (kind.Source (from.File path)) = Some path
path_read other = None

abbrev pub path_written : NodeKind → Option Components
path_written (kind.TeeFile path mode) = Some path
path_written (kind.Sink (to.File path mode)) = Some path
path_written other = None

-- all of them, in the order of the nodes
abbrev pub paths_read : List (Cell NodeKind) → List Components
paths_read cells = filter_map (λ cell. path_read cell.kind) cells

abbrev pub paths_written : List (Cell NodeKind) → List Components
paths_written cells = filter_map (λ cell. path_written cell.kind) cells

-- the path is among these
abbrev pub is_among : List Components → Components → Bool
is_among paths path = list_any (λ other. pointwise (pointwise nat_eq) other path) paths

-- no path stands twice among these
abbrev pub are_distinct : List Components → Bool
are_distinct [] = true
are_distinct (path ∷ paths) = not (is_among paths path) && are_distinct paths

-- no file is both read and written, none is written twice, and none is the null device
pub record ArePathsApart (read written : List Components) : Type 0 where
  pub apart : list_any (is_among read) written ≡ false
  pub once : are_distinct written ≡ true
  pub files : list_any is_null_path (read ++ written) ≡ false
