use Rattle.std.proofs.Common.{sym, subst, arith}
use Rattle.sh_lex.specs.Lexes.{HasRefusal}
use Rattle.sh_lex.proofs.Scripts.{has_tokens, has_refusal}
use Rattle.sh_lex.proofs.lexing.lex.Goals as goal

pub returns-in-Ok-clause-tokens : goal.returns-in-Ok-clause-tokens
returns-in-Ok-clause-tokens c = has_tokens c.args.text.now c.in-Ok.tokens.items (omega arith) c.in-Ok.ensures.tokens

pub returns-in-Ok-told-clause-refusal : goal.returns-in-Ok-told-clause-refusal
returns-in-Ok-told-clause-refusal c =
    subst (λ refusal. HasRefusal c.args.text.now refusal) (sym c.in-Ok-told.ensures)
    (has_refusal c.args.text.now c.in-Err-Refused.fault (omega arith)
    (rw c.in-Err-Refused.field-0-is at c.in-Err-Refused.ensures.refused))
