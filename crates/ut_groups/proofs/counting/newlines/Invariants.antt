use Rattle.std.proofs.Common.{◌≡◌, ◌+◌, length}
use Rattle.ut_groups.specs.Counting.{newlines as newlines_def}
use Rattle.ut_groups.proofs.counting.newlines.Given as goal

abbrev pub invariant-loop-rest : goal.invariant-loop-rest
invariant-loop-rest l = l.count + newlines_def l.rest ≡ newlines_def l.text

abbrev pub decreases-loop-rest : goal.decreases-loop-rest
decreases-loop-rest l = length l.rest
