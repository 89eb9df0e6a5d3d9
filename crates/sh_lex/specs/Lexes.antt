-- The tokens of a text (XCU 2.3), or its refusal. The code is one scan with a stack of open constructs.
use Rattle.std.specs.Prelude.{◌≡◌, ℕ, false, ◌-◌, ◌<◌, ◌≤◌, ◌⊎◌, List, [], ◌∷◌, length, drop, codes}
use Rattle.std.specs.declared.result.Result.{Result}
use Rattle.std.specs.declared.result.Result.TheVariants.{Ok, Err}
use Rattle.std.specs.declared.option.Option.TheVariants.{None}
use Rattle.std.specs.Char.{is_ascii_digit}
use Rattle.sh_lex.specs.Texts.{unspliced, run}
use Rattle.sh_lex.specs.Acts.{nothing, gap, open_parenthesis, close_parenthesis, token, word, offence}
use Rattle.sh_lex.specs.Operators.{lexeme}
use Rattle.sh_lex.specs.Reads.{Reads, past, refused}
use Rattle.sh_lex.specs.declared.lexing.TheConstants.{MAX_SCRIPT}
use Rattle.sh_lex.specs.declared.tokens.Token.{Token}
use Rattle.sh_lex.specs.declared.tokens.TokenKind.{TokenKind}
use Rattle.sh_lex.specs.declared.tokens.TokenKind.TheVariants as kind
use Rattle.sh_lex.specs.declared.tokens.Op.TheVariants as op
use Rattle.sh_lex.specs.declared.refusals.Static.{Static}
use Rattle.sh_lex.specs.declared.refusals.LexRefusal.{LexRefusal}
use Rattle.sh_lex.specs.declared.refusals.LexRefusal.TheVariants as lex
use Rattle.sh_lex.specs.declared.refusals.Static.TheVariants as static
use Rattle.sh_lex.specs.declared.parts.Construct.{Construct}
use Rattle.sh_lex.specs.declared.parts.Construct.TheVariants as part
use Rattle.sh_lex.specs.declared.parts.Spot.TheVariants as spot
use Rattle.sh_lex.specs.declared.parts.Fault.{Fault}
use Rattle.sh_lex.specs.declared.parts.Fault.TheVariants as fault
use Rattle.sh_lex.specs.declared.parts.Spelling.{Spelling}
use Rattle.sh_lex.specs.declared.parts.Spelling.TheVariants as spelling

-- the word of one token, where no level is open
abbrev pub one_word : Construct
one_word = part.Commands (record { levels = 0; in_braces = false }) None spot.Begin

-- the token from the first byte of `before`, backslash-newlines left out, up to `behind`, in a text of `total` bytes
abbrev pub token_between : ℕ → TokenKind → List ℕ → List ℕ → Token
token_between total kind before behind =
    record { kind = kind; from = total - length (unspliced before); to = total - length behind }

-- the result with one more token in front
abbrev pub after_token : Token → Result (List Token) Fault → Result (List Token) Fault
after_token first (Ok tokens) = Ok (first ∷ tokens)
after_token first (Err fault) = Err fault

-- the tokens of what is left of a text of `total` bytes, each the longest that begins at its place, with only blanks, comments and
-- removed backslash-newlines between them; or what is refused at the least place
pub data Tokens (total : ℕ) : List ℕ → Result (List Token) Fault → Type 0 where
  no_token : {text : List ℕ} → lexeme text ≡ nothing → Tokens total text (Ok [])
  skips : {text rest : List ℕ} {end : Result (List Token) Fault}
      → lexeme text ≡ gap rest → Tokens total rest end → Tokens total text end
  opens : {text rest : List ℕ} {end : Result (List Token) Fault}
      → lexeme text ≡ open_parenthesis rest → Tokens total rest end
      → Tokens total text (after_token (token_between total (kind.Op op.Open) text rest) end)
  closes : {text rest : List ℕ} {end : Result (List Token) Fault}
      → lexeme text ≡ close_parenthesis rest → Tokens total rest end
      → Tokens total text (after_token (token_between total (kind.Op op.Close) text rest) end)
  takes : {text rest : List ℕ} {kind : TokenKind} {end : Result (List Token) Fault}
      → lexeme text ≡ token kind rest → Tokens total rest end
      → Tokens total text (after_token (token_between total kind text rest) end)
  takes_word : {text rest : List ℕ} {end : Result (List Token) Fault}
      → lexeme text ≡ word → Reads one_word text (past rest) → Tokens total rest end
      → Tokens total text (after_token (token_between total kind.Word text rest) end)
  refused_word : {text : List ℕ} {fault : Fault}
      → lexeme text ≡ word → Reads one_word text (refused fault) → Tokens total text (Err fault)
  refused_token : {text : List ℕ} {fault : Fault} → lexeme text ≡ offence fault → Tokens total text (Err fault)

-- how a spelling that isn't in the profile is told
abbrev pub spelled : Spelling → List ℕ
spelled spelling.And = codes "&"
spelled spelling.DoubleSemi = codes ";;"
spelled spelling.DoubleLess = codes "<<"
spelled spelling.DoubleLessDash = codes "<<-"
spelled spelling.LessAnd = codes "<&"
spelled spelling.LessGreat = codes "<>"
spelled spelling.GreatPipe = codes ">|"
spelled spelling.GreatAnd = codes ">&"
spelled spelling.DollarDollar = codes "$$"
spelled spelling.DollarBang = codes "$!"
spelled spelling.DollarDash = codes "$-"
spelled spelling.Backquote = codes "`"
spelled spelling.Substitution = codes "$("
spelled spelling.Tilde = codes "~"

-- how a fault in a text is told, with its offset; an IoNumber by its digits
abbrev pub told : List ℕ → Fault → Static
told text (fault.UnclosedQuote left) = static.UnclosedQuote (length text - left)
told text (fault.UnclosedBrace left) = static.UnclosedBrace (length text - left)
told text (fault.TooDeep left) = static.TooDeep (length text - left)
told text (fault.Spelled spelling left) = static.OutOfProfile (spelled spelling) (length text - left)
told text (fault.Number left) =
    static.OutOfProfile (run is_ascii_digit (drop (length text - left) text)) (length text - left)

-- the text is lexed to these tokens
pub record Lexes (text : List ℕ) (tokens : List Token) : Type 0 where
  pub short : length text ≤ MAX_SCRIPT
  pub read : Tokens (length text) text (Ok tokens)

-- the text is refused so, in a script that isn't too long
pub record IsRefused (text : List ℕ) (refusal : Static) : Type 0 where
  pub short : length text ≤ MAX_SCRIPT
  pub fault : Fault
  pub met : Tokens (length text) text (Err fault)
  pub as_told : refusal ≡ told text fault

-- the text is refused so
abbrev pub Offence : List ℕ → Static → Type 0
Offence text static.ScriptTooLong = MAX_SCRIPT < length text
Offence text refusal = IsRefused text refusal

-- the text is lexed to these tokens, to no others, and isn't refused
pub record HasTokens (text : List ℕ) (tokens : List Token) : Type 0 where
  pub lexed : Lexes text tokens
  pub only : (others : List Token) → Lexes text others → others ≡ tokens
  pub not_refused : (refusal : Static) → Offence text refusal → ⊥

-- the text is refused so, not otherwise, and has no tokens
pub record HasRefusal (text : List ℕ) (refusal : Static) : Type 0 where
  pub met : Offence text refusal
  pub only : (other : Static) → Offence text other → other ≡ refusal
  pub not_lexed : (tokens : List Token) → Lexes text tokens → ⊥

-- every text has exactly one list of tokens or exactly one refusal, and not both
abbrev pub HasOneReading : List ℕ → Type 0
HasOneReading text = ((tokens : List Token) × HasTokens text tokens) ⊎ ((refusal : Static) × HasRefusal text refusal)

-- why there are no tokens: for want of memory, which is free, or for the text's refusal
abbrev pub Refuses : List ℕ → LexRefusal → Type 0
Refuses text (lex.Refused refusal) = HasRefusal text refusal
Refuses text lex.Memory = Unit {0}
