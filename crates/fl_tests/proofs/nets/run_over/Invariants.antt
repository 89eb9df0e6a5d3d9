use Rattle.std.proofs.Common.{◌<◌, ◌^◌, length}
use Rattle.fl_net.specs.Inputs.{CanStep}
use Rattle.fl_core.proofs.MachineLemmas.{state_of}
use Rattle.fl_tests.proofs.nets.run_over.Given as goal

abbrev pub invariant-loop : goal.invariant-loop
invariant-loop l = (length l.net.machines.items < 2 ^ 32) × CanStep state_of l.net.ports.items l.net.machines.items l.net.wires.items
