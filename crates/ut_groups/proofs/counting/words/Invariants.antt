use Rattle.std.proofs.Common.{◌≡◌, ◌+◌, length}
use Rattle.ut_groups.specs.Counting.{words_behind}
use Rattle.ut_groups.proofs.counting.words.Given as goal

abbrev pub invariant-loop-rest : goal.invariant-loop-rest
invariant-loop-rest l = l.count + words_behind l.last l.rest ≡ words_behind l.before l.text

abbrev pub decreases-loop-rest : goal.decreases-loop-rest
decreases-loop-rest l = length l.rest
