use Rattle.std.proofs.Common.{◌≡◌, ◌++◌, true, length}
use Rattle.ps_lines.specs.Lines.{is_closed, lines}
use Rattle.ut_streams.specs.Streams.{Wrote}
use Rattle.ut_groups.specs.Inner.Open.{due_behind, group_at}
use Rattle.ut_groups.proofs.grouping.Grouping.pass_each.Given as goal

abbrev pub invariant-loop-line : goal.invariant-loop-line
invariant-loop-line l =
    Wrote (λ more. due_behind l.self (group_at l.initial.group) (lines l.initial.left ++ more)) (λ more. due_behind l.self (group_at l.group) (lines l.left ++ more))
    l.initial.out.items l.out.items true × (is_closed l.left ≡ true)

abbrev pub decreases-loop-line : goal.decreases-loop-line
decreases-loop-line l = length l.left
