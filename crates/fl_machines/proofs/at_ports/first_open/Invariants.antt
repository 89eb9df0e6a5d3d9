use Rattle.std.proofs.Common.{◌≡◌, ◌+◌, length}
use Rattle.fl_machines.specs.AtPorts.{first_open}
use Rattle.fl_machines.proofs.at_ports.first_open.Given as goal

abbrev pub invariant-loop-left : goal.invariant-loop-left
invariant-loop-left l = (first_open 0 l.opens ≡ first_open l.at l.left) × (l.at + length l.left ≡ length l.opens)

abbrev pub decreases-loop-left : goal.decreases-loop-left
decreases-loop-left l = length l.left
