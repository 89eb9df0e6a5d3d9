-- Tokens of an expression (XCU 2.6.4): words of letters, digits and underscores, and operators, each as long as it can be.
-- `++` and `--` are no tokens (own). White space is space, tab and newline (own).
use Rattle.std.specs.Prelude.{◌≡◌, ℕ, ◌==◌, ◌&&◌, ◌||◌, Bool, List, [], ◌∷◌, Option, Some, None, option_map, if◌then◌else◌}
use Rattle.std.specs.Char.{is_ascii_digit}
use Rattle.ps_lines.specs.Bytes.{is_name_byte, is_white_space}
use Rattle.sh_arith.specs.declared.operators.Operator.TheVariants as operator
use Rattle.sh_arith.specs.declared.tokens.Symbol.{Symbol}
use Rattle.sh_arith.specs.declared.tokens.Symbol.TheVariants as symbol
use Rattle.sh_arith.specs.declared.tokens.Token as code
use Rattle.sh_arith.specs.declared.tokens.Token.TheVariants as token
use Rattle.sh_arith.specs.Constants.{constant}

-- a token
pub data Token : Type 0 where
  number : List ℕ → Token
  name : List ℕ → Token
  mark : Symbol → Token

-- the token that the code's stands for
abbrev pub meaning : code.Token → Token
meaning (token.Number word) = number word.now
meaning (token.Name word) = name word.now
meaning (token.Symbol symbol) = mark symbol

abbrev pub past_blanks : List ℕ → List ℕ
past_blanks [] = []
past_blanks (byte ∷ rest) = if is_white_space byte then past_blanks rest else byte ∷ rest

-- the longest word that the text begins with
abbrev pub word : List ℕ → List ℕ
word [] = []
word (byte ∷ rest) = if is_name_byte byte then byte ∷ word rest else []

-- what follows it
abbrev pub past_word : List ℕ → List ℕ
past_word [] = []
past_word (byte ∷ rest) = if is_name_byte byte then past_word rest else byte ∷ rest

-- two bytes that are one token
unfoldable pub double : ℕ → ℕ → Option Symbol
double first second =
    if first == 60 && second == 60 then Some (symbol.Operator operator.ShiftLeft)
    else (if first == 62 && second == 62 then Some (symbol.Operator operator.ShiftRight)
    else (if first == 60 && second == 61 then Some (symbol.Operator operator.LessOrEqual)
    else (if first == 62 && second == 61 then Some (symbol.Operator operator.GreaterOrEqual)
    else (if first == 61 && second == 61 then Some (symbol.Operator operator.Equal)
    else (if first == 33 && second == 61 then Some (symbol.Operator operator.NotEqual)
    else (if first == 38 && second == 38 then Some (symbol.Operator operator.And)
    else (if first == 124 && second == 124 then Some (symbol.Operator operator.Or)
    else None)))))))

-- a byte that is a token
unfoldable pub single : ℕ → Option Symbol
single byte =
    if byte == 42 then Some (symbol.Operator operator.Multiply)
    else (if byte == 47 then Some (symbol.Operator operator.Divide)
    else (if byte == 37 then Some (symbol.Operator operator.Remainder)
    else (if byte == 43 then Some (symbol.Operator operator.Add)
    else (if byte == 45 then Some (symbol.Operator operator.Subtract)
    else (if byte == 60 then Some (symbol.Operator operator.Less)
    else (if byte == 62 then Some (symbol.Operator operator.Greater)
    else (if byte == 38 then Some (symbol.Operator operator.BitAnd)
    else (if byte == 94 then Some (symbol.Operator operator.BitXor)
    else (if byte == 124 then Some (symbol.Operator operator.BitOr)
    else (if byte == 126 then Some symbol.Complement
    else (if byte == 33 then Some symbol.Not
    else (if byte == 63 then Some symbol.Question
    else (if byte == 58 then Some symbol.Colon
    else (if byte == 61 then Some symbol.Assign
    else (if byte == 40 then Some symbol.OpenParen
    else (if byte == 41 then Some symbol.CloseParen
    else None))))))))))))))))

-- two bytes where they are one token, else the first alone
abbrev pub longest : ℕ → List ℕ → ℕ → List ℕ → Option Symbol → Option (Symbol × List ℕ)
longest first rest second left (Some symbol) = Some (symbol, left)
longest first rest second left None = option_map (λ symbol. (symbol, rest)) (single first)

-- the operator or parenthesis that begins with this byte, and what follows it
abbrev pub symbol_at : ℕ → List ℕ → Option (Symbol × List ℕ)
symbol_at first [] = option_map (λ symbol. (symbol, [])) (single first)
symbol_at first (second ∷ left) = longest first (second ∷ left) second left (double first second)

-- a word is a number where it begins with a digit, and must be a constant then
abbrev pub worded : List ℕ → List ℕ → Option (Token × List ℕ)
worded [] rest = None
worded (first ∷ more) rest =
    if is_ascii_digit first then option_map (λ _. (number (first ∷ more), rest)) (constant (first ∷ more))
    else Some (name (first ∷ more), rest)

-- the token that the text begins with, and what follows it
abbrev pub next_token : List ℕ → Option (Token × List ℕ)
next_token [] = None
next_token (first ∷ rest) =
    if is_name_byte first then worded (word (first ∷ rest)) (past_word (first ∷ rest))
    else option_map (λ s. (mark s.0, s.1)) (symbol_at first rest)

-- the text is made of these tokens, with white space round them
pub data Lexes : List ℕ → List Token → Type 0 where
  no_token : {text : List ℕ} → past_blanks text ≡ [] → Lexes text []
  one_token : {text rest : List ℕ} {token : Token} {tokens : List Token} → next_token (past_blanks text) ≡ Some (token, rest) → Lexes rest tokens → Lexes text (token ∷ tokens)
