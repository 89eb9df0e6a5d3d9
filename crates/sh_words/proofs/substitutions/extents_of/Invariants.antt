-- What is read of the construct that goes on is read of those in which it stands.
use Rattle.std.proofs.Common.{◌+◌, ◌*◌, length, reverse, vec_len}
use Rattle.sh_words.proofs.ExtentLemmas.{Holds}
use Rattle.sh_words.proofs.substitutions.extents_of.Given as goal

abbrev pub invariant-loop-next : goal.invariant-loop-next
invariant-loop-next l = Holds (reverse l.«open».items) l.part l.rest

abbrev pub decreases-loop-next : goal.decreases-loop-next
decreases-loop-next l = 2 * length l.rest + vec_len l.«open»
