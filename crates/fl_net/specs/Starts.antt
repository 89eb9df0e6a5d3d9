-- What a graph's nodes have in its network, before anything has moved (own): their ports, and machines at their beginning.
use Rattle.std.specs.Prelude.{◌≡◌, ℕ, List, length, slice_get, Some}
use Rattle.fl_graph.specs.declared.graphs.Cell.{Cell}
use Rattle.fl_graph.specs.Machines.{State}
use Rattle.fl_graph.specs.declared.kinds.NodeKind.{NodeKind}
use Rattle.fl_classes.specs.Flow.{is_source}
use Rattle.fl_classes.specs.Nodes.{Begins}
use Rattle.fl_classes.specs.Kinds.{is_writer, run_kind, run_ins, run_outs}
use Rattle.fl_net.specs.Plans.{edges_in, edges_out}
use Rattle.fl_net.specs.declared.nets.Ports.{Ports}

-- the ports are those of this node
pub record HasPorts (cells : List (Cell NodeKind)) (node : ℕ) (cell : Cell NodeKind) (own : Ports) : Type 0 where
  pub ins : own.ins.items ≡ edges_in cells node cell
  pub outs : own.outs.items ≡ edges_out cells node cell
  pub reads : own.reads ≡ is_source cell.kind
  pub writes : own.writes ≡ is_writer cell.kind

-- the machine of this node stands at its beginning
abbrev pub BeginsAs : State → Cell NodeKind → Type 0
BeginsAs state cell =
    Begins (run_kind cell.kind) (run_ins cell.kind (length cell.ins)) (run_outs cell.kind (length cell.outs)) state

-- each has what its node is to have
abbrev pub NodesHave : {Own : Type 0} → (ℕ → Cell NodeKind → Own → Type 0) → List (Cell NodeKind) → List Own → Type 0
NodesHave {Own} has cells owns = (node : ℕ) (cell : Cell NodeKind) (own : Own) → slice_get cells node ≡ Some cell → slice_get owns node ≡ Some own → has node cell own
