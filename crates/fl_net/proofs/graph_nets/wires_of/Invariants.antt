use Rattle.std.proofs.Common.{◌≡◌, ℕ, [], length}
use Rattle.fl_net.specs.Steps.{waiting_on}
use Rattle.fl_net.proofs.graph_nets.wires_of.Given as goal

abbrev pub invariant-loop : goal.invariant-loop
invariant-loop l = (length l.wires.items ≡ l.counter) × ((edge : ℕ) → waiting_on l.wires.items edge ≡ [])
