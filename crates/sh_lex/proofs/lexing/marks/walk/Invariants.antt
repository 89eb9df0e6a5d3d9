-- The marks so far stand before those of what is open, and what is open goes on behind the construct that is being read.
use Rattle.std.proofs.Common.{◌+◌, ◌*◌, length, map, vec_len}
use Rattle.sh_lex.specs.Lexes.{one_word}
use Rattle.sh_lex.specs.Reads.{Outcome, Reads}
use Rattle.sh_lex.proofs.Markings.{Ahead, outer_part}
use Rattle.sh_lex.proofs.Stacks.{AllGoOn}
use Rattle.sh_lex.proofs.lexing.marks.walk.Given as goal

abbrev pub invariant-loop-more : goal.invariant-loop-more
invariant-loop-more l = record {
  marked : Ahead l.fn.total one_word l.fn.text l.marks.items l.part l.rest l.«open».items;
  reads : (inner end : Outcome) → Reads l.part l.rest inner → AllGoOn (map outer_part l.«open».items) inner end
      → Reads one_word l.fn.text end;
}

abbrev pub decreases-loop-more : goal.decreases-loop-more
decreases-loop-more l = 2 * length l.rest + vec_len l.«open»
