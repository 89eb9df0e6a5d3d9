use Rattle.std.proofs.Common.{◌≡◌, length}
use Rattle.fl_net.specs.Inputs.{input_of}
use Rattle.fl_net.proofs.LoadLemmas.{LoadedTo}
use Rattle.fl_net.proofs.inputs.load.Given as goal

abbrev pub invariant-loop-node : goal.invariant-loop-node
invariant-loop-node l = (length l.wires ≡ length l.fn.wires) × LoadedTo l.nodes (input_of l.inputs) l.node l.wires
