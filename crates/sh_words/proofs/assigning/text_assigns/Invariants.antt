-- What the rest of the text assigns is what the text assigns.
use Rattle.std.proofs.Common.{◌≡◌, length}
use Rattle.sh_words.specs.Assigning.{text_assigns}
use Rattle.sh_words.proofs.assigning.text_assigns.Given as goal

abbrev pub invariant-loop-first : goal.invariant-loop-first
invariant-loop-first l = text_assigns l.initial.rest ≡ text_assigns l.rest

abbrev pub decreases-loop-first : goal.decreases-loop-first
decreases-loop-first l = length l.rest
