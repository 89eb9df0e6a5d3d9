use Rattle.std.proofs.Common.{length}
use Rattle.sh_parse.proofs.Behinds.{Walked}
use Rattle.sh_parse.proofs.texts.items_of.Given as goal

abbrev pub invariant-loop-last : goal.invariant-loop-last
invariant-loop-last l = Walked l.fn.text l.fn.marks l.rest l.behind

abbrev pub decreases-loop-last : goal.decreases-loop-last
decreases-loop-last l = length l.rest
