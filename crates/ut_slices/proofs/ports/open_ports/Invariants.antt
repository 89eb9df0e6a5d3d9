use Rattle.std.proofs.Common.{◌≡◌, ◌+◌, length}
use Rattle.ut_slices.proofs.PortLemmas.{AreFresh}
use Rattle.ut_slices.proofs.ports.open_ports.Given as goal

abbrev pub invariant-loop-left : goal.invariant-loop-left
invariant-loop-left l = AreFresh l.ports.items × (length l.ports.items + l.left ≡ l.count)

abbrev pub decreases-loop-left : goal.decreases-loop-left
decreases-loop-left l = l.left
