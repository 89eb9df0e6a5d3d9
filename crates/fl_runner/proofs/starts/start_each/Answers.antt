use Rattle.std.proofs.Common.{◌≡◌, length, rules}
use Rattle.std.specs.Vec.Iter.{into_iter_items}
use Rattle.std.proofs.lemmas.List.{nil_from_length}
use Rattle.fl_graph.specs.Kinds.{has_its_ports, reads_one_input, runs_what_is_built}
use Rattle.fl_classes.specs.Kinds.{is_run}
use Rattle.fl_core.specs.contracts.machines.NodeMachineMachine.TheImpl as machine
use Rattle.fl_net.proofs.GraphNetLemmas.{node_holds}
use Rattle.fl_runner.proofs.StartLemmas.{begun-all, begun-next, begun-within}
use Rattle.fl_runner.proofs.starts.start_each.Goals as goal

pub loop-halves-preserved : goal.loop-halves-preserved
loop-halves-preserved c =
    begun-next machine.ghosts.state c.args.nodes.now c.loop-halves.node c.loop-halves.starts.items _ c.in-Some.halves _ _ c.index-nodes-node.result c.in_ok-machine.machine c.in-Some.ensures.steps.0
    (begun-within machine.ghosts.state c.args.nodes.now c.loop-halves.node c.loop-halves.starts.items _ _ _ c.in-Some.ensures.steps.0 c.loop-halves.invariant) (search rules) (search rules)
    c.in_ok-machine.ensures c.loop-halves.invariant

pub machine_of-requires-clause-ports : goal.machine_of-requires-clause-ports
machine_of-requires-clause-ports c = node_holds has_its_ports c.args.nodes.now c.loop-halves.node c.index-nodes-node.result c.requires.ports (begun-within machine.ghosts.state c.args.nodes.now c.loop-halves.node c.loop-halves.starts.items _ _ _ c.in-Some.ensures.steps.0 c.loop-halves.invariant) (search rules)

pub machine_of-requires-clause-inputs : goal.machine_of-requires-clause-inputs
machine_of-requires-clause-inputs c = node_holds (λ cell. reads_one_input cell.kind) c.args.nodes.now c.loop-halves.node c.index-nodes-node.result c.requires.inputs (begun-within machine.ghosts.state c.args.nodes.now c.loop-halves.node c.loop-halves.starts.items _ _ _ c.in-Some.ensures.steps.0 c.loop-halves.invariant) (search rules)

pub machine_of-requires-clause-built : goal.machine_of-requires-clause-built
machine_of-requires-clause-built c = node_holds (λ cell. runs_what_is_built cell.kind) c.args.nodes.now c.loop-halves.node c.index-nodes-node.result c.requires.built (begun-within machine.ghosts.state c.args.nodes.now c.loop-halves.node c.loop-halves.starts.items _ _ _ c.in-Some.ensures.steps.0 c.loop-halves.invariant) (search rules)

pub machine_of-requires-clause-kind : goal.machine_of-requires-clause-kind
machine_of-requires-clause-kind c = node_holds (λ cell. is_run cell.kind) c.args.nodes.now c.loop-halves.node c.index-nodes-node.result c.requires.kinds (begun-within machine.ghosts.state c.args.nodes.now c.loop-halves.node c.loop-halves.starts.items _ _ _ c.in-Some.ensures.steps.0 c.loop-halves.invariant) (search rules)

pub returns : goal.returns
returns c =
    let none : length (into_iter_items c.loop-halves.halves-iterator) ≡ 0 = search rules in
    begun-all machine.ghosts.state c.args.nodes.now c.loop-halves.node c.loop-halves.starts.items (into_iter_items c.loop-halves.halves-iterator)
    (nil_from_length (into_iter_items c.loop-halves.halves-iterator) none) c.loop-halves.invariant
