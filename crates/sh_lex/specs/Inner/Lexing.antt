-- The code's own words: what one call of it has found at a place, and why it stopped.
use Rattle.std.specs.Prelude.{ℕ, ◌<◌, List, [], length}
use Rattle.std.specs.declared.result.Result.{Result}
use Rattle.std.specs.declared.result.Result.TheVariants.{Ok, Err}
use Rattle.sh_lex.specs.Acts.{Found, nothing, gap, open_parenthesis, close_parenthesis, token, word, offence}
use Rattle.sh_lex.specs.Lexes.{Tokens, token_between, after_token}
use Rattle.sh_lex.specs.declared.acts.Lexeme.{Lexeme}
use Rattle.sh_lex.specs.declared.acts.Lexeme.TheVariants as lexeme
use Rattle.sh_lex.specs.declared.lexing.Next.{Next}
use Rattle.sh_lex.specs.declared.lexing.Next.TheVariants as next
use Rattle.sh_lex.specs.declared.reading.ScanStop.{ScanStop}
use Rattle.sh_lex.specs.declared.reading.ScanStop.TheVariants as stop
use Rattle.sh_lex.specs.declared.parts.Fault.{Fault}
use Rattle.sh_lex.specs.declared.tokens.Token.{Token}

-- what the code has found
abbrev pub found_of : Lexeme → Found
found_of lexeme.Nothing = nothing
found_of (lexeme.Gap rest) = gap rest.now
found_of (lexeme.Open rest) = open_parenthesis rest.now
found_of (lexeme.Close rest) = close_parenthesis rest.now
found_of (lexeme.Token kind rest) = token kind rest.now
found_of lexeme.Word = word
found_of (lexeme.Offence fault) = offence fault

-- what begins at the text, and so how its tokens follow from those of what is left
abbrev pub Advances : List ℕ → Next → Type 0
Advances text next.End = (total : ℕ) → Tokens total text (Ok [])
Advances text (next.Gap rest) =
    (length rest.now < length text)
    × ((total : ℕ) (end : Result (List Token) Fault) → Tokens total rest.now end → Tokens total text end)
Advances text (next.Token kind rest) =
    (length rest.now < length text)
    × ((total : ℕ) (end : Result (List Token) Fault) → Tokens total rest.now end
    → Tokens total text (after_token (token_between total kind text rest.now) end))

-- why the scan stopped: for want of memory, which is free, or for this refusal
abbrev pub StopsAt : ℕ → List ℕ → ScanStop → Type 0
StopsAt total text (stop.Refused fault) = Tokens total text (Err fault)
StopsAt total text stop.Memory = Unit {0}
