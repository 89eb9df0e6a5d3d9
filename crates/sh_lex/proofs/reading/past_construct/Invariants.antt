-- What is open goes on behind the construct that is being read, and all that is read is the first construct's.
use Rattle.std.proofs.Common.{◌+◌, ◌*◌, length, vec_len}
use Rattle.sh_lex.specs.Reads.{Outcome, Reads}
use Rattle.sh_lex.proofs.Stacks.{AllGoOn}
use Rattle.sh_lex.proofs.reading.past_construct.Given as goal

abbrev pub invariant-loop-next : goal.invariant-loop-next
invariant-loop-next l =
    (inner end : Outcome) → Reads l.part l.rest inner → AllGoOn l.«open».items inner end → Reads l.fn.construct l.fn.text end

abbrev pub decreases-loop-next : goal.decreases-loop-next
decreases-loop-next l = 2 * length l.rest + vec_len l.«open»
