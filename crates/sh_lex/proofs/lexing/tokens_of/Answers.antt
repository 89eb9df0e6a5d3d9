use Rattle.std.proofs.Common.{[], Ok, length, refl, subst}
use Rattle.std.proofs.lemmas.List.{append-nil}
use Rattle.sh_lex.specs.Lexes.{Tokens}
use Rattle.sh_lex.proofs.Scripts.{stops_behind}
use Rattle.sh_lex.proofs.lexing.tokens_of.Goals as goal

pub returns-in-Ok-End-clause-tokens : goal.returns-in-Ok-End-clause-tokens
returns-in-Ok-End-clause-tokens c =
    let l = c.loop-tokens in
    subst (λ tokens. Tokens (length c.args.text.now) c.args.text.now (Ok tokens)) (append-nil l.tokens.items)
    (l.invariant (length c.args.text.now) (Ok []) refl ((rw c.in-Ok-End.field-0-is at c.in-Ok-End.ensures.advances) (length c.args.text.now)))

pub returns-in-Err-clause-refused : goal.returns-in-Err-clause-refused
returns-in-Err-clause-refused c =
    let l = c.loop-tokens in
    stops_behind (length c.args.text.now) c.args.text.now l.rest.now l.tokens.items c.in-Err.stop
    (λ end more. l.invariant (length c.args.text.now) end refl more) (c.in-Err.ensures.refused (length c.args.text.now))
