use Rattle.std.proofs.Common.{rules}
use Rattle.fl_net.specs.Starts.{HasPorts}
use Rattle.fl_net.proofs.GraphNetLemmas.{has_ports, nodes_more}
use Rattle.fl_net.proofs.graph_nets.ports_of.Goals as goal

pub loop-node-preserved : goal.loop-node-preserved
loop-node-preserved c =
    nodes_more (HasPorts c.args.nodes.now) c.args.nodes.now c.loop-node.ports.items _ c.in_ok-ports_of_node.field-0 c.loop-node.node c.index-nodes-node.result (search rules) (search rules) (search rules)
    c.loop-node.invariant (has_ports c.args.nodes.now c.loop-node.node c.index-nodes-node.result c.args.edges c.in_ok-ports_of_node.field-0 c.requires.counted (search rules) (search rules) (search rules) (search rules))
