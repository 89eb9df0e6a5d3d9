use Rattle.fl_net.proofs.GraphNetLemmas.{net_is_of}
use Rattle.fl_net.proofs.RoomLemmas.{nodes_rooms}
use Rattle.fl_net.proofs.nets.Net.of_graph.Goals as goal

pub returns-clause-net : goal.returns-clause-net
returns-clause-net g c =
    net_is_of _ c.args.graph.now.nodes c.as_slice-nodes.result.now c.in_ok-edges.edges c.in_ok-count.count c.in_ok-ports.ports.items c.args.machines.items c.in_ok-wires.wires.items
    c.as_slice-nodes.ensures c.in_ok-edges.ensures c.in_ok-count.ensures.sum c.in_ok-ports.ensures.all c.in_ok-ports.ensures.each c.requires.all c.requires.each
    c.in_ok-wires.ensures.all c.in_ok-wires.ensures.none

pub returns-clause-rooms : goal.returns-clause-rooms
returns-clause-rooms g c =
    nodes_rooms c.args.graph.now.nodes c.as_slice-nodes.result.now c.args.graph.now.status c.requires.valid c.args.cap c.in_ok-rooms.rooms.items c.in_ok-edges.edges
    c.as_slice-nodes.ensures c.in_ok-edges.ensures c.in_ok-rooms.ensures.all c.in_ok-rooms.ensures.each
