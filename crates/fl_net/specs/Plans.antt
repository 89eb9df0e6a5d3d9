-- The plan of a graph (own): the edges with which each node runs, and how its machine begins.
use Rattle.std.specs.Prelude.{◌≡◌, ℕ, ◌+◌, List, [], ◌∷◌, Bool, true, false, ◌==◌, if◌then◌else◌, length, slice_get, get_or, Option, Some, None}
use Rattle.std.specs.List.{list_any}
use Rattle.fl_graph.specs.Net.{gives}
use Rattle.fl_graph.specs.declared.graphs.Cell.{Cell}
use Rattle.fl_graph.specs.declared.kinds.NodeKind.{NodeKind}
use Rattle.fl_classes.specs.Flow.{Placed, placed, is_source}
use Rattle.fl_classes.specs.Nodes.{Begins}
use Rattle.fl_classes.specs.Kinds.{is_writer, run_kind, run_ins, run_outs}
use Rattle.fl_graph.specs.Machines.{State}
use Rattle.fl_graph.specs.declared.pieces.Piece.{Piece}
use Rattle.fl_net.specs.Runs.{Plan}
use Rattle.fl_net.specs.Steps.{room_on, waiting_on}
use Rattle.fl_net.specs.declared.nets.Ports.{Ports}

-- the edge from outside to a source, or to the outside from a node that writes: numbered behind the graph's edges
abbrev pub outer_edge : List (Cell NodeKind) → ℕ → ℕ
outer_edge cells node = length (gives cells) + node

abbrev pub edges_in : List (Cell NodeKind) → ℕ → Cell NodeKind → List ℕ
edges_in cells node cell = if is_source cell.kind then outer_edge cells node ∷ [] else cell.ins

abbrev pub edges_out : List (Cell NodeKind) → ℕ → Cell NodeKind → List ℕ
edges_out cells node cell = if is_writer cell.kind then outer_edge cells node ∷ cell.outs else cell.outs

-- the edge is the only one in the list
abbrev pub is_sole : ℕ → List ℕ → Bool
is_sole edge [] = false
is_sole edge (other ∷ []) = other == edge
is_sole edge (other ∷ next ∷ others) = false

-- how many pieces may wait on an edge of these nodes: so many where it leads into a node of one in, and else there is no bound
abbrev pub room_of : List (Cell NodeKind) → Option ℕ → ℕ → Option ℕ
room_of cells cap edge = if list_any (λ cell. is_sole edge cell.ins) cells then cap else None

-- a network of these nodes has this room on its edges
abbrev pub HasRooms : List (Cell NodeKind) → Option ℕ → List (Option ℕ) → Type 0
HasRooms cells cap rooms = (edge : ℕ) → room_on rooms edge ≡ room_of cells cap edge

-- the plan is that of these nodes
pub record IsPlanOf (cells : List (Cell NodeKind)) (plan : Plan) : Type 0 where
  pub ins : (node : ℕ) (cell : Cell NodeKind) → slice_get cells node ≡ Some cell → plan.ins node ≡ edges_in cells node cell
  pub outs : (node : ℕ) (cell : Cell NodeKind) → slice_get cells node ≡ Some cell → plan.outs node ≡ edges_out cells node cell
  pub reads : (node : ℕ) (cell : Cell NodeKind) → slice_get cells node ≡ Some cell → plan.reads node ≡ is_source cell.kind
  pub writes : (node : ℕ) (cell : Cell NodeKind) → slice_get cells node ≡ Some cell → plan.writes node ≡ is_writer cell.kind
  -- no other node has an edge
  pub no_ins : (node : ℕ) → slice_get cells node ≡ None → plan.ins node ≡ []
  pub no_outs : (node : ℕ) → slice_get cells node ≡ None → plan.outs node ≡ []
  pub no_reads : (node : ℕ) → slice_get cells node ≡ None → plan.reads node ≡ false
  pub no_writes : (node : ℕ) → slice_get cells node ≡ None → plan.writes node ≡ false
  pub begins : (node : ℕ) (cell : Cell NodeKind) → slice_get cells node ≡ Some cell
      → Begins (run_kind cell.kind) (run_ins cell.kind (length cell.ins)) (run_outs cell.kind (length cell.outs)) (plan.starts node)

-- the ends of the sources tell these texts, in the order of the nodes
abbrev pub AreTold : List (List ℕ) → List (Cell NodeKind) → (ℕ → Option (List ℕ)) → Type 0
AreTold sources cells left =
    (node : ℕ) (cell : Cell Placed) → slice_get (placed cells) node ≡ Some cell → is_source cell.kind.1 ≡ true → left node ≡ Some (get_or sources cell.kind.0 [])

-- a network is that of these nodes, at its beginning: nothing waits, and each machine stands at its own
pub record IsNetOf {Machine : Type 0} (state : Machine → State) (cells : List (Cell NodeKind)) (ports : List Ports) (machines : List Machine) (wires : List (List Piece)) : Type 0 where
  pub all_ports : length ports ≡ length cells
  pub all_machines : length machines ≡ length cells
  -- a wire for each edge, and one for each node that may have an edge to the outside
  pub all_wires : length wires ≡ length (gives cells) + length cells
  pub none_waits : (edge : ℕ) → waiting_on wires edge ≡ []
  pub ins : (node : ℕ) (cell : Cell NodeKind) (own : Ports) → slice_get cells node ≡ Some cell → slice_get ports node ≡ Some own → own.ins.items ≡ edges_in cells node cell
  pub outs : (node : ℕ) (cell : Cell NodeKind) (own : Ports) → slice_get cells node ≡ Some cell → slice_get ports node ≡ Some own → own.outs.items ≡ edges_out cells node cell
  pub reads : (node : ℕ) (cell : Cell NodeKind) (own : Ports) → slice_get cells node ≡ Some cell → slice_get ports node ≡ Some own → own.reads ≡ is_source cell.kind
  pub writes : (node : ℕ) (cell : Cell NodeKind) (own : Ports) → slice_get cells node ≡ Some cell → slice_get ports node ≡ Some own → own.writes ≡ is_writer cell.kind
  pub begins : (node : ℕ) (cell : Cell NodeKind) (machine : Machine) → slice_get cells node ≡ Some cell → slice_get machines node ≡ Some machine
      → Begins (run_kind cell.kind) (run_ins cell.kind (length cell.ins)) (run_outs cell.kind (length cell.outs)) (state machine)
