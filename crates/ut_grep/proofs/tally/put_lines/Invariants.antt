use Rattle.std.proofs.Common.{◌≡◌, ℕ, ◌++◌, Bool, List, true, length}
use Rattle.ps_lines.specs.Lines.{is_closed, lines}
use Rattle.ut_streams.specs.Streams.{Wrote}
use Rattle.ut_grep.specs.Output.{AllAre, selected_from}
use Rattle.ut_grep.proofs.tally.put_lines.Given as goal

abbrev pub invariant-loop-line : goal.invariant-loop-line
invariant-loop-line l =
    (is_closed l.left ≡ true)
    × ((test : List ℕ → Bool) → AllAre test true (lines l.initial.left) → AllAre test true (lines l.left)
    × Wrote (λ more. selected_from test l.head l.initial.number (lines l.initial.left ++ more)) (λ more. selected_from test l.head l.number (lines l.left ++ more)) l.initial.out.items l.out.items true)

abbrev pub decreases-loop-line : goal.decreases-loop-line
decreases-loop-line l = length l.left
