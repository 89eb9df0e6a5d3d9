use Rattle.std.proofs.Common.{◌≡◌, length}
use Rattle.fl_net.specs.Inputs.{CanStep}
use Rattle.fl_core.proofs.MachineLemmas.{state_of}
use Rattle.fl_tests.proofs.nets.step_each.Given as goal

abbrev pub invariant-loop-node : goal.invariant-loop-node
invariant-loop-node l = (length l.net.machines.items ≡ length l.fn.net.machines.items) × CanStep state_of l.net.ports.items l.net.machines.items l.net.wires.items
