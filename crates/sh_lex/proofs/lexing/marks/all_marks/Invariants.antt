-- The marks so far stand before those of what is left, and what is refused there is refused.
use Rattle.std.proofs.Common.{List, ◌++◌, Err, length}
use Rattle.sh_lex.specs.Lexes.{Tokens}
use Rattle.sh_lex.specs.Marks.{Marks}
use Rattle.sh_lex.specs.declared.parts.Fault.{Fault}
use Rattle.sh_lex.specs.declared.lexing.marks.Mark.{Mark}
use Rattle.sh_lex.proofs.lexing.marks.all_marks.Given as goal

abbrev pub invariant-loop-marks : goal.invariant-loop-marks
invariant-loop-marks l = record {
  before : (more : List Mark) → Marks (length l.fn.text) l.rest more → Marks (length l.fn.text) l.fn.text (l.marks.items ++ more);
  refused : (fault : Fault) → Tokens (length l.fn.text) l.rest (Err fault) → Tokens (length l.fn.text) l.fn.text (Err fault);
}

abbrev pub decreases-loop-marks : goal.decreases-loop-marks
decreases-loop-marks l = length l.rest
