use Rattle.std.proofs.Common.{rules}
use Rattle.fl_net.specs.Inputs.{input_of}
use Rattle.fl_net.proofs.NetLemmas.{written_back}
use Rattle.fl_net.proofs.RunLemmas.{begins_over, runs_over}
use Rattle.fl_net.proofs.nets.Net.new.Goals as goal

pub returns-clause-runs : goal.returns-clause-runs
returns-clause-runs g c =
    runs_over _ c.args.graph.now.nodes c.args.graph.now.status c.requires.valid (input_of c.args.inputs.items) c.in_ok-net.net.ports.items c.in_ok-net.net.machines.items _
    (begins_over _ c.args.graph.now.nodes c.as_slice-nodes.result.now (input_of c.args.inputs.items) c.in_ok-net.net.ports.items c.in_ok-net.net.machines.items
    c.in_ok-net.net.wires.items _ c.load.new.wires
    c.in_ok-net.ensures.net c.as_slice-nodes.ensures (search rules) (search rules)
    (written_back c.in_ok-net.net.wires.items c.load.new.wires c.in_ok-net.net.wires.len (search rules) (search rules)))
