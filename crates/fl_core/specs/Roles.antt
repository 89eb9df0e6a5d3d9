-- Which end each node has (own), with the place of a file's end in its list.
use Rattle.std.specs.Prelude.{◌≡◌, ℕ, ◌==◌, List, Bool, true, false, not, ◌||◌, if◌then◌else◌, length, get_or, Option, Some, None, is_some}
use Rattle.std.specs.List.{list_any}
use Rattle.std.specs.Option.{option_map, option_map_or}
use Rattle.fl_graph.specs.declared.graphs.Cell.{Cell}
use Rattle.fl_graph.specs.declared.kinds.NodeKind.{NodeKind}
use Rattle.fl_graph.specs.declared.kinds.NodeKind.TheVariants as kind
use Rattle.fl_graph.specs.declared.kinds.From.TheVariants as from
use Rattle.fl_graph.specs.declared.kinds.To.TheVariants as to
use Rattle.fl_classes.specs.Flow.{is_source}
use Rattle.fl_classes.specs.Kinds.{is_writer}
use Rattle.fl_core.specs.EndLists.{place_of, numbers_of, end_in, own_end, NodeEnd, Reader, Writer, Input, Output}
use Rattle.fl_net.specs.Starts.{NodesHave}
use Rattle.fl_core.specs.declared.end_lists.Ends.{Ends}
use Rattle.fl_core.specs.declared.roles.Role.{Role}
use Rattle.fl_core.specs.declared.roles.Role.TheVariants as role

-- the role of a node with this kind and number, where the readers and the writers have these numbers
abbrev pub role_of : NodeKind → ℕ → List ℕ → List ℕ → Role
role_of (kind.Source from.Input) node readers writers = role.Input
role_of (kind.Source (from.File path)) node readers writers = option_map_or role.Reader (place_of readers node) role.Nothing
role_of (kind.Sink to.Output) node readers writers = role.Output
role_of (kind.Sink (to.File path mode)) node readers writers = option_map_or role.Writer (place_of writers node) role.Nothing
role_of (kind.TeeFile path mode) node readers writers = option_map_or role.Writer (place_of writers node) role.Nothing
role_of other node readers writers = role.Nothing

abbrev pub role_at : List Role → ℕ → Role
role_at roles node = get_or roles node role.Nothing

-- no two nodes have one end
abbrev pub AreApart : List Role → Type 0
AreApart roles = (node other : ℕ) → role_at roles node ≡ role_at roles other → (role_at roles node ≡ role.Nothing → ⊥) → node ≡ other

-- the two are one role, and one that has an end
abbrev pub is_same : Role → Role → Bool
is_same role.Input role.Input = true
is_same role.Output role.Output = true
is_same (role.Reader place) (role.Reader other) = place == other
is_same (role.Writer place) (role.Writer other) = place == other
is_same one other = false

abbrev pub is_used : List Role → Role → Bool
is_used roles one = list_any (is_same one) roles

module _ {R W I O : Type 0} where
  -- the end of a node with this role
  abbrev pub end_by : Role → Ends R W I O → Option (NodeEnd R W I O)
  end_by role.Nothing ends = None
  end_by role.Input ends = Some (Input ends.input)
  end_by role.Output ends = Some (Output ends.out)
  end_by (role.Reader place) ends = option_map Reader (end_in ends.readers.items place)
  end_by (role.Writer place) ends = option_map Writer (end_in ends.writers.items place)

  -- the node has an end, or neither reads nor writes
  abbrev pub needs_no_more : NodeKind → ℕ → Ends R W I O → Bool
  needs_no_more it node ends = not (is_source it || is_writer it) || is_some (own_end it node ends)

  -- it is read, and it is written
  abbrev pub is_read : Option (NodeEnd R W I O) → Bool
  is_read None = false
  is_read (Some (Reader reader)) = true
  is_read (Some (Writer writer)) = false
  is_read (Some (Input input)) = true
  is_read (Some (Output out)) = false

  abbrev pub is_written : Option (NodeEnd R W I O) → Bool
  is_written None = false
  is_written (Some (Reader reader)) = false
  is_written (Some (Writer writer)) = true
  is_written (Some (Input input)) = false
  is_written (Some (Output out)) = true

  -- each node has its role
  pub record HasRoles (cells : List (Cell NodeKind)) (ends : Ends R W I O) (roles : List Role) : Type 0 where
    pub all : length roles ≡ length cells
    pub each : NodesHave (λ node cell one. one ≡ role_of cell.kind node (numbers_of ends.readers.items) (numbers_of ends.writers.items)) cells roles

-- what no call changes
pub record Kept (R W I O : Type 0) : Type 0 where
  pub roles : List Role
  pub readers : List ℕ
  pub writers : List ℕ
  -- the ends that no node has
  pub idle : Role → Option (NodeEnd R W I O)

abbrev pub kept : {R W I O : Type 0} → List Role → Ends R W I O → Kept R W I O
kept roles ends = record {
  roles = roles;
  readers = numbers_of ends.readers.items;
  writers = numbers_of ends.writers.items;
  idle = λ one. if is_used roles one then None else end_by one ends;
}
