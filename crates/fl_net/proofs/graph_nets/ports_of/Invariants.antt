use Rattle.std.proofs.Common.{◌≡◌, length}
use Rattle.fl_net.specs.Starts.{HasPorts, NodesHave}
use Rattle.fl_net.proofs.graph_nets.ports_of.Given as goal

abbrev pub invariant-loop-node : goal.invariant-loop-node
invariant-loop-node l = (length l.ports.items ≡ l.node) × NodesHave (HasPorts l.nodes) l.nodes l.ports.items
