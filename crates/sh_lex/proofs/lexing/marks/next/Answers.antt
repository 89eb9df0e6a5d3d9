use Rattle.std.proofs.Common.{sym}
use Rattle.sh_lex.specs.Lexes.{refused_token}
use Rattle.sh_lex.specs.Marks.{no_mark}
use Rattle.sh_lex.proofs.Scripts.{stops_in_word}
use Rattle.sh_lex.proofs.Marked.{gap_leads, open_leads, close_leads, token_leads, word_leads}
use Rattle.sh_lex.proofs.lexing.marks.next.Goals as goal

pub returns-in-Nothing-clause-leads : goal.returns-in-Nothing-clause-leads
returns-in-Nothing-clause-leads c = no_mark (sym c.in-Nothing.ensures.found)

pub returns-in-Gap-clause-leads : goal.returns-in-Gap-clause-leads
returns-in-Gap-clause-leads c = gap_leads c.args.text.now c.in-Gap.rest.now c.in-Gap.ensures.found

pub returns-in-Open-clause-leads : goal.returns-in-Open-clause-leads
returns-in-Open-clause-leads c =
    open_leads c.args.text.now c.in-Open.rest.now c.token-mark.result c.in-Open.ensures.found c.token-mark.ensures

pub returns-in-Close-clause-leads : goal.returns-in-Close-clause-leads
returns-in-Close-clause-leads c =
    close_leads c.args.text.now c.in-Close.rest.now c.token-mark-in-Close.result c.in-Close.ensures.found c.token-mark-in-Close.ensures

pub returns-in-Token-clause-leads : goal.returns-in-Token-clause-leads
returns-in-Token-clause-leads c =
    token_leads c.args.text.now c.in-Token.rest.now c.in-Token.kind c.token-mark-in-Token.result c.in-Token.ensures.found
    c.token-mark-in-Token.ensures

pub returns-in-Ok-clause-leads : goal.returns-in-Ok-clause-leads
returns-in-Ok-clause-leads c =
    word_leads c.args.text.now c.in-Ok.rest.now c.in-Ok.inside.items c.in-Word.ensures.found c.in-Ok.ensures.marked

pub returns-in-Err-clause-refused : goal.returns-in-Err-clause-refused
returns-in-Err-clause-refused c =
    stops_in_word c.args.text.now c.in-Err.stop (sym c.in-Word.ensures.found) c.in-Err.ensures.refused c.args.total

pub returns-in-Offence-clause-refused : goal.returns-in-Offence-clause-refused
returns-in-Offence-clause-refused c = refused_token (sym c.in-Offence.ensures.found)
