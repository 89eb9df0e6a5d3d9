use Rattle.std.proofs.Common.{sym}
use Rattle.sh_lex.specs.Acts.{gap, open_parenthesis, close_parenthesis, token, word}
use Rattle.sh_lex.specs.Lexes.{no_token, skips, opens, closes, takes, takes_word, refused_token}
use Rattle.sh_lex.proofs.Readings.{word-shorter}
use Rattle.sh_lex.proofs.Scripts.{less_at, stops_in_word}
use Rattle.sh_lex.proofs.lexing.next_token.Goals as goal

pub returns-in-Nothing-clause-advances : goal.returns-in-Nothing-clause-advances
returns-in-Nothing-clause-advances c = λ total. no_token (sym c.in-Nothing.ensures.found)

pub returns-in-Gap-clause-advances : goal.returns-in-Gap-clause-advances
returns-in-Gap-clause-advances c =
    (less_at c.args.text.now (gap c.in-Gap.rest.now) c.in-Gap.ensures.found, λ total end more. skips (sym c.in-Gap.ensures.found) more)

pub returns-in-Open-clause-advances : goal.returns-in-Open-clause-advances
returns-in-Open-clause-advances c = (
  less_at c.args.text.now (open_parenthesis c.in-Open.rest.now) c.in-Open.ensures.found,
  λ total end more. opens (sym c.in-Open.ensures.found) more,
)

pub returns-in-Close-clause-advances : goal.returns-in-Close-clause-advances
returns-in-Close-clause-advances c = (
  less_at c.args.text.now (close_parenthesis c.in-Close.rest.now) c.in-Close.ensures.found,
  λ total end more. closes (sym c.in-Close.ensures.found) more,
)

pub returns-in-Token-clause-advances : goal.returns-in-Token-clause-advances
returns-in-Token-clause-advances c = (
  less_at c.args.text.now (token c.in-Token.kind c.in-Token.rest.now) c.in-Token.ensures.found,
  λ total end more. takes (sym c.in-Token.ensures.found) more,
)

pub returns-in-Ok-clause-advances : goal.returns-in-Ok-clause-advances
returns-in-Ok-clause-advances c = (
  word-shorter c.args.text.now c.in-Ok.rest.now (less_at c.args.text.now word c.in-Word.ensures.found) c.in-Ok.ensures.past,
  λ total end more. takes_word (sym c.in-Word.ensures.found) c.in-Ok.ensures.past more,
)

pub returns-in-Err-clause-refused : goal.returns-in-Err-clause-refused
returns-in-Err-clause-refused c = stops_in_word c.args.text.now c.in-Err.stop (sym c.in-Word.ensures.found) c.in-Err.ensures.refused

pub returns-in-Offence-clause-refused : goal.returns-in-Offence-clause-refused
returns-in-Offence-clause-refused c = λ total. refused_token (sym c.in-Offence.ensures.found)
