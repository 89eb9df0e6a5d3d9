use Rattle.std.proofs.Common.{sym, subst, arith}
use Rattle.sh_lex.specs.Lexes.{HasRefusal}
use Rattle.sh_lex.proofs.Scripts.{has_refusal}
use Rattle.sh_lex.proofs.Marked.{has_marks}
use Rattle.sh_lex.proofs.lexing.marks.read_marks.Goals as goal

pub returns-in-Ok-clause-marks : goal.returns-in-Ok-clause-marks
returns-in-Ok-clause-marks c = has_marks c.args.text.now c.in-Ok.marks.items (omega arith) c.in-Ok.ensures.marks

pub returns-in-Ok-told-clause-refusal : goal.returns-in-Ok-told-clause-refusal
returns-in-Ok-told-clause-refusal c =
    subst (λ refusal. HasRefusal c.args.text.now refusal) (sym c.in-Ok-told.ensures)
    (has_refusal c.args.text.now c.in-Err-Refused.fault (omega arith)
    (rw c.in-Err-Refused.field-0-is at c.in-Err-Refused.ensures.refused))
