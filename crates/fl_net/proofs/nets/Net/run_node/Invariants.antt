use Rattle.std.proofs.Common.{◌≡◌, length}
use Rattle.fl_net.specs.Points.{point, Advances}
use Rattle.fl_net.proofs.nets.Net.run_node.Given as goal

abbrev pub invariant-loop : goal.invariant-loop
invariant-loop g l =
    Advances g.M.Machine.state
    (point g.E.NodeEnds.left g.E.NodeEnds.taken g.E.NodeEnds.reads g.E.NodeEnds.writes g.E.NodeEnds.faults l.fn.self l.fn.ends)
    (point g.E.NodeEnds.left g.E.NodeEnds.taken g.E.NodeEnds.reads g.E.NodeEnds.writes g.E.NodeEnds.faults l.self l.ends)
    × (length l.buffer ≡ length l.fn.buffer)
    × (g.E.NodeEnds.borrows l.ends ≡ g.E.NodeEnds.borrows l.fn.ends)
    × (l.self.rooms ≡ l.fn.self.rooms)
