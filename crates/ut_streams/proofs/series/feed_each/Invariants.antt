use Rattle.std.proofs.Common.{◌≡◌, ℕ, ◌++◌, List, true, false, length}
use Rattle.ut_streams.specs.Streams.{whole_texts, Wrote}
use Rattle.ut_streams.proofs.series.feed_each.Given as goal

abbrev pub invariant-loop-left : goal.invariant-loop-left
invariant-loop-left g l =
    Wrote (λ more. g.S.Series.due l.initial.series (whole_texts l.initial.left ++ more)) (λ more. g.S.Series.due l.series (whole_texts l.left ++ more))
    l.initial.out.items l.out.items true
    × ((more : List (List ℕ)) → g.S.Series.selects l.series (whole_texts l.left ++ more) ≡ g.S.Series.selects l.initial.series (whole_texts l.initial.left ++ more))
    × (g.S.Series.spent l.series ≡ false)

abbrev pub decreases-loop-left : goal.decreases-loop-left
decreases-loop-left g l = length l.left
