use Rattle.std.proofs.Common.{◌+◌, ◌-◌, length}
use Rattle.sh_pattern.specs.Closings.{Knows}
use Rattle.sh_pattern.proofs.closings.closings.Given as goal

abbrev pub invariant-loop-closes : goal.invariant-loop-closes
invariant-loop-closes l = Knows l.closes.items l.text

abbrev pub decreases-loop-closes : goal.decreases-loop-closes
decreases-loop-closes l = length l.text + 1 - length l.closes.items
