-- The machines of a graph's nodes, made node by node.
use Rattle.std.specs.Prelude.{ℕ}
use Rattle.fl_graph.specs.declared.graphs.Cell.{Cell}
use Rattle.fl_graph.specs.Machines.{State}
use Rattle.fl_graph.specs.declared.kinds.NodeKind.{NodeKind}
use Rattle.fl_net.specs.Starts.{BeginsAs}
use Rattle.fl_core.specs.declared.machines.NodeMachine.{NodeMachine}
use Rattle.fl_core.specs.contracts.machines.NodeMachineMachine.TheImpl as machine

-- what a node's machine is to its callers
abbrev pub state_of : NodeMachine → State
state_of = machine.ghosts.state

abbrev pub begins_here : ℕ → Cell NodeKind → NodeMachine → Type 0
begins_here node cell it = BeginsAs (state_of it) cell
