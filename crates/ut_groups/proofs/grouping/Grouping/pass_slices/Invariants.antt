use Rattle.std.proofs.Common.{◌++◌, length}
use Rattle.ps_lines.specs.Lines.{lines}
use Rattle.ut_groups.specs.Inner.Open.{due_behind, group_at}
use Rattle.ut_groups.proofs.RunLemmas.{Pending}
use Rattle.ut_groups.proofs.grouping.Grouping.pass_slices.Given as goal

abbrev pub invariant-loop-run : goal.invariant-loop-run
invariant-loop-run l =
    Pending l.fn.self (λ more. due_behind l.fn.self (group_at l.initial.group) (lines l.initial.left ++ more)) l.initial.out.items
    (group_at l.group) l.unwritten l.left l.out.items

abbrev pub decreases-loop-run : goal.decreases-loop-run
decreases-loop-run l = length l.left
