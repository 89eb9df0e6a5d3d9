use Rattle.std.proofs.Common.{◌≡◌, ℕ, None, length}
use Rattle.fl_net.specs.Steps.{room_on}
use Rattle.fl_net.proofs.graph_nets.unbounded.Given as goal

abbrev pub invariant-loop : goal.invariant-loop
invariant-loop l = (length l.rooms.items ≡ l.counter) × ((edge : ℕ) → room_on l.rooms.items edge ≡ None)
