use Rattle.std.proofs.Common.{◌≡◌, ◌++◌, length}
use Rattle.ps_fakes.specs.Trees.{entries_of, rows_of}
use Rattle.ps_fakes.proofs.rows.copy_rows.Given as goal

abbrev pub invariant-loop-left : goal.invariant-loop-left
invariant-loop-left l = rows_of l.initial.left ≡ entries_of l.entries.items ++ rows_of l.left

abbrev pub decreases-loop-left : goal.decreases-loop-left
decreases-loop-left l = length l.left
