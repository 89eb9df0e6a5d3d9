use Rattle.std.proofs.Common.{◌≡◌, length}
use Rattle.fl_net.specs.Starts.{NodesHave}
use Rattle.fl_core.proofs.MachineLemmas.{begins_here}
use Rattle.fl_core.proofs.graph_nets.machines_of.Given as goal

abbrev pub invariant-loop-node : goal.invariant-loop-node
invariant-loop-node l = (length l.machines.items ≡ l.node) × NodesHave begins_here l.nodes l.machines.items
