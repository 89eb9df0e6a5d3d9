use Rattle.std.proofs.Common.{◌≡◌, length}
use Rattle.sh_eval.specs.Redirections.{first_busy}
use Rattle.sh_eval.proofs.busy.first_busy.Given as goal

-- the first of the uses that are left is the first of all
abbrev pub invariant-loop-left : goal.invariant-loop-left
invariant-loop-left l = first_busy l.fn.held l.fn.uses ≡ first_busy l.fn.held l.left

abbrev pub decreases-loop-left : goal.decreases-loop-left
decreases-loop-left l = length l.left
