-- What the calls on a network say of its nodes, what they leave as it is, and how a run over texts goes on behind them (own).
use Rattle.std.specs.Prelude.{◌≡◌, ℕ, suc, List, Bool, if◌then◌else◌, length, slice_get, Some}
use Rattle.fl_graph.specs.Machines.{State}
use Rattle.fl_graph.specs.declared.graphs.Cell.{Cell}
use Rattle.fl_graph.specs.declared.kinds.NodeKind.{NodeKind}
use Rattle.fl_net.specs.Inputs.{RunsOver}
use Rattle.fl_net.specs.Steps.{progress_at}
use Rattle.fl_net.specs.declared.nets.Net.{Net}
use Rattle.fl_net.specs.declared.nets.Ports.{Ports}
use Rattle.fl_net.specs.declared.steps.Progress.{Progress}

-- what holds of the machine and the ports of a node
abbrev pub OfNode : {Machine : Type 0} → Net Machine → ℕ → (Machine → Ports → Type 0) → Type 0
OfNode {Machine} net node holds =
    (machine : Machine) (own : Ports) → slice_get net.machines.items node ≡ Some machine → slice_get net.ports.items node ≡ Some own → holds machine own

-- what comes of its next step, unless memory is refused
abbrev pub next_progress : {Machine : Type 0} → (Machine → State) → Net Machine → Machine → Ports → Progress
next_progress state net machine own = progress_at (state machine).act own.ins.items own.outs.items net.rooms.items net.wires.items

-- the network has the same ports and rooms, and as many machines and wires
pub record KeepsWiring {Machine : Type 0} (old new : Net Machine) : Type 0 where
  pub ports : new.ports ≡ old.ports
  pub machines : length new.machines.items ≡ length old.machines.items
  pub wires : length new.wires.items ≡ length old.wires.items
  pub rooms : new.rooms ≡ old.rooms

-- a move more, where one was made
abbrev pub one_more_if : Bool → ℕ → ℕ
one_more_if moved moves = if moved then suc moves else moves

-- whatever run over texts the network has come through goes on: of its moves and of the nodes that may have failed this becomes
abbrev pub RunsOn : {Machine : Type 0} → (Machine → State) → Net Machine → Net Machine → (ℕ → ℕ) → ((ℕ → Bool) → ℕ → Bool) → Type 0
RunsOn state old new moved fails =
    (cells : List (Cell NodeKind)) (inputs : ℕ → List ℕ) (moves : ℕ) (failed : ℕ → Bool)
    → RunsOver state cells inputs moves failed old.ports.items old.machines.items old.wires.items
    → RunsOver state cells inputs (moved moves) (fails failed) new.ports.items new.machines.items new.wires.items
