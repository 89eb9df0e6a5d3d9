use Rattle.std.proofs.Common.{◌≡◌, ◌++◌, true, length}
use Rattle.ps_lines.specs.Lines.{is_closed, lines}
use Rattle.ut_streams.specs.Streams.{Wrote}
use Rattle.ut_groups.specs.Inner.Open.{due_behind, group_at}
use Rattle.ut_groups.specs.Inner.Runs.{BeginsOther}
use Rattle.ut_groups.proofs.grouping.Grouping.pass_runs.Given as goal

abbrev pub invariant-loop-run : goal.invariant-loop-run
invariant-loop-run l =
    Wrote (λ more. due_behind l.self (group_at l.initial.group) (lines l.initial.left ++ more)) (λ more. due_behind l.self (group_at l.group)
    (lines l.left ++ more))
    l.initial.out.items l.out.items true × (is_closed l.left ≡ true) × BeginsOther l.self.skip l.group.first.now l.left

abbrev pub decreases-loop-run : goal.decreases-loop-run
decreases-loop-run l = length l.left
