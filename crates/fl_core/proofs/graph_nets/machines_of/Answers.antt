use Rattle.std.proofs.Common.{rules}
use Rattle.fl_graph.specs.Kinds.{has_its_ports, reads_one_input, runs_what_is_built}
use Rattle.fl_classes.specs.Kinds.{is_run}
use Rattle.fl_net.proofs.GraphNetLemmas.{node_holds, nodes_more}
use Rattle.fl_core.proofs.MachineLemmas.{begins_here}
use Rattle.fl_core.proofs.graph_nets.machines_of.Goals as goal

pub machine_of-requires-clause-ports : goal.machine_of-requires-clause-ports
machine_of-requires-clause-ports c = node_holds has_its_ports c.args.nodes.now c.loop-node.node c.index-nodes-node.result c.requires.ports (search rules) (search rules)

pub machine_of-requires-clause-inputs : goal.machine_of-requires-clause-inputs
machine_of-requires-clause-inputs c = node_holds (λ cell. reads_one_input cell.kind) c.args.nodes.now c.loop-node.node c.index-nodes-node.result c.requires.inputs (search rules) (search rules)

pub machine_of-requires-clause-built : goal.machine_of-requires-clause-built
machine_of-requires-clause-built c = node_holds (λ cell. runs_what_is_built cell.kind) c.args.nodes.now c.loop-node.node c.index-nodes-node.result c.requires.built (search rules) (search rules)

pub machine_of-requires-clause-kind : goal.machine_of-requires-clause-kind
machine_of-requires-clause-kind c = node_holds (λ cell. is_run cell.kind) c.args.nodes.now c.loop-node.node c.index-nodes-node.result c.requires.kinds (search rules) (search rules)

pub loop-node-preserved : goal.loop-node-preserved
loop-node-preserved c = nodes_more begins_here c.args.nodes.now c.loop-node.machines.items _ c.in_ok-machine_of.field-0 c.loop-node.node c.index-nodes-node.result (search rules) (search rules) (search rules) c.loop-node.invariant (search rules)
