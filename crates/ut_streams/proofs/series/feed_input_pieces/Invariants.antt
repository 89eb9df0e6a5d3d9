use Rattle.std.proofs.Common.{◌≡◌, ℕ, ◌∷◌, ◌++◌, List, true, false, length}
use Rattle.std.specs.List.{concat}
use Rattle.ps_lines.specs.Texts.{texts_of}
use Rattle.ut_streams.specs.Streams.{Wrote}
use Rattle.ut_streams.proofs.series.feed_input_pieces.Given as goal

abbrev pub invariant-loop-left : goal.invariant-loop-left
invariant-loop-left g l =
    ((others : List (List ℕ)) → Wrote (λ more. g.S.Series.due l.initial.series ((concat (texts_of l.initial.left) ++ more) ∷ others))
    (λ more. g.S.Series.due l.series ((concat (texts_of l.left) ++ more) ∷ others)) l.initial.out.items l.out.items true)
    × ((more : List ℕ) (others : List (List ℕ)) → g.S.Series.selects l.series ((concat (texts_of l.left) ++ more) ∷ others)
    ≡ g.S.Series.selects l.initial.series ((concat (texts_of l.initial.left) ++ more) ∷ others))
    × (g.S.Series.spent l.series ≡ false)

abbrev pub decreases-loop-left : goal.decreases-loop-left
decreases-loop-left g l = length l.left
