use Rattle.std.proofs.Common.{◌≡◌, true, length}
use Rattle.ps_lines.specs.Lines.{is_closed}
use Rattle.pash_bench.proofs.streams.CountingLineStream.whole_lines.Given as goal

abbrev pub invariant-loop-cut : goal.invariant-loop-cut
invariant-loop-cut l = is_closed l.left ≡ true

abbrev pub decreases-loop-cut : goal.decreases-loop-cut
decreases-loop-cut l = length l.left
