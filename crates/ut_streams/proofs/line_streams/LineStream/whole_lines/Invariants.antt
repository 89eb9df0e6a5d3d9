use Rattle.std.proofs.Common.{◌≡◌, ℕ, ◌++◌, List, true, length}
use Rattle.ps_lines.specs.Lines.{is_closed, lines}
use Rattle.ut_streams.specs.Streams.{Wrote}
use Rattle.ut_streams.proofs.line_streams.LineStream.whole_lines.Given as goal

abbrev pub invariant-loop-line : goal.invariant-loop-line
invariant-loop-line g l =
    Wrote (λ more. g.Self.LineStream.line_due l.initial.self (lines l.initial.left ++ more)) (λ more. g.Self.LineStream.line_due l.self (lines l.left ++ more))
    l.initial.out.items l.out.items true
    × ((more : List (List ℕ)) → g.Self.LineStream.line_selects l.self (lines l.left ++ more) ≡ g.Self.LineStream.line_selects l.initial.self (lines l.initial.left ++ more))
    × (is_closed l.left ≡ true)
    × ((other : List ℕ) → g.Self.LineStream.line_test l.self other ≡ g.Self.LineStream.line_test l.initial.self other)

abbrev pub decreases-loop-line : goal.decreases-loop-line
decreases-loop-line g l = length l.left
