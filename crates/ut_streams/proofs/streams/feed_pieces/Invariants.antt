use Rattle.std.proofs.Common.{◌≡◌, ℕ, ◌++◌, List, true, false, length}
use Rattle.std.specs.List.{concat}
use Rattle.ps_lines.specs.Texts.{texts_of}
use Rattle.ut_streams.specs.Streams.{Wrote}
use Rattle.ut_streams.proofs.streams.feed_pieces.Given as goal

abbrev pub invariant-loop-left : goal.invariant-loop-left
invariant-loop-left g l =
    Wrote (λ more. g.S.Stream.due l.initial.stream (concat (texts_of l.initial.left) ++ more)) (λ more. g.S.Stream.due l.stream (concat (texts_of l.left) ++ more))
    l.initial.out.items l.out.items true
    × ((more : List ℕ) → g.S.Stream.selects l.stream (concat (texts_of l.left) ++ more) ≡ g.S.Stream.selects l.initial.stream (concat (texts_of l.initial.left) ++ more))
    × (g.S.Stream.spent l.stream ≡ false)

abbrev pub decreases-loop-left : goal.decreases-loop-left
decreases-loop-left g l = length l.left
