use Rattle.std.proofs.Common.{◌≡◌, ℕ, ◌<◌, true, false, length}
use Rattle.fl_net.specs.Points.{point, Advances}
use Rattle.fl_net.specs.Stuck.{IsStuck, IsStuckAt}
use Rattle.fl_net.proofs.nets.Net.sweep.Given as goal

abbrev pub invariant-loop-node : goal.invariant-loop-node
invariant-loop-node g l =
    Advances g.M.Machine.state
    (point g.E.NodeEnds.left g.E.NodeEnds.taken g.E.NodeEnds.reads g.E.NodeEnds.writes g.E.NodeEnds.faults l.fn.self l.fn.ends)
    (point g.E.NodeEnds.left g.E.NodeEnds.taken g.E.NodeEnds.reads g.E.NodeEnds.writes g.E.NodeEnds.faults l.self l.ends)
    × (length l.buffer ≡ length l.fn.buffer)
    × (g.E.NodeEnds.borrows l.ends ≡ g.E.NodeEnds.borrows l.fn.ends)
    × (l.self.rooms ≡ l.fn.self.rooms)
    × (l.moved ≡ false → (l.self.machines.items ≡ l.fn.self.machines.items) × (l.self.wires.items ≡ l.fn.self.wires.items) × (l.ends ≡ l.fn.ends)
    × ((number : ℕ) → number < l.node → IsStuckAt g.M.Machine.state l.fn.self.ports.items l.fn.self.machines.items l.fn.self.rooms.items l.fn.self.wires.items number))
    × (l.moved ≡ true → IsStuck g.M.Machine.state l.fn.self.ports.items l.fn.self.machines.items l.fn.self.rooms.items l.fn.self.wires.items → ⊥)
