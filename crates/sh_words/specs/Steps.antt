-- Quoting (XCU 2.2): the next piece of a text, by what it stands in. Backslash-newlines are removed but in single quotes (XCU 2.2.1).
-- A list is what is left of the text behind the piece.
use Rattle.std.specs.Prelude.{ℕ, Bool, true, false, List, [], ◌∷◌, ◌+◌, ◌-◌, ◌==◌, ◌||◌, ◌&&◌, if◌then◌else◌, length}
use Rattle.sh_tree.specs.Trees.{PartTree, plain, quoted}
use Rattle.sh_lex.specs.Bytes.{is_quoted_escape}
use Rattle.sh_lex.specs.Dollars.{introduced_by}
use Rattle.sh_lex.specs.Texts.{unspliced}
use Rattle.sh_lex.specs.declared.bytes.TheConstants.{DOUBLE_QUOTE, DOLLAR, BACKSLASH, QUOTE, CLOSE_BRACE, OPEN, CLOSE}
use Rattle.sh_lex.specs.declared.Introduced.{Introduced}
use Rattle.sh_lex.specs.declared.Introduced.TheVariants as introduced
use Rattle.sh_words.specs.Pieces.{literal}
use Rattle.sh_words.specs.declared.steps.Owner.{Owner}
use Rattle.sh_words.specs.declared.steps.Owner.TheVariants as owner
use Rattle.sh_words.specs.declared.steps.Mode.{Mode}
use Rattle.sh_words.specs.declared.steps.Mode.TheVariants as mode

pub data Step : Type 0 where
  -- what the text stands in has ended
  ends : List ℕ → Step
  -- a quote, which is no piece; the text goes on in this mode
  passes : Mode → List ℕ → Step
  -- a piece; the text goes on in this mode
  gives : PartTree → Mode → List ℕ → Step
  -- an expansion, with whether it is quoted and with how many bytes are left at its `$`
  expands : Bool → ℕ → List ℕ → Step

-- a `$` introduces an expansion (XCU 2.6)
abbrev pub is_introduced : Introduced → Bool
is_introduced (introduced.OutOfProfile spelling) = false
is_introduced introduced.Braces = true
is_introduced introduced.Parenthesis = true
is_introduced introduced.Name = true
is_introduced introduced.Special = true
is_introduced introduced.Nothing = false

-- so it is where this stands behind it
abbrev pub begins_expansion : List ℕ → Bool
begins_expansion [] = false
begins_expansion (byte ∷ rest) = is_introduced (introduced_by byte)

-- a `$`, with whether its expansion is quoted and whether bytes are: where it begins no expansion it is a byte
abbrev pub dollar : Bool → Bool → Mode → List ℕ → Step
dollar is_quoted are_quoted at rest =
    if begins_expansion (unspliced rest) then expands is_quoted (length rest + 1) rest
    else gives (literal are_quoted (DOLLAR ∷ [])) at rest

-- a quote that opens: where the same quote follows, the string is empty, and it is a piece
abbrev pub opened : ℕ → Mode → Mode → List ℕ → List ℕ → Step
opened quote inside outside text [] = passes inside text
opened quote inside outside text (byte ∷ rest) =
    if byte == quote then gives (quoted []) outside rest else passes inside text

-- a backslash outside quotes quotes the next byte; at the end of the text it is ordinary (own)
abbrev pub backslash : Mode → List ℕ → Step
backslash at [] = gives (plain (BACKSLASH ∷ [])) at []
backslash at (byte ∷ rest) = gives (quoted (byte ∷ [])) at rest

-- in double quotes a backslash quotes `$`, the backquote, `"` and the backslash (XCU 2.2.3), in the word of a `${ }` there `}` too,
-- and else it is ordinary; so it is in an arithmetic expansion, where the byte is plain
abbrev pub escape : Bool → Bool → Mode → List ℕ → Step
escape is_quoted braces at [] = gives (literal is_quoted (BACKSLASH ∷ [])) at []
escape is_quoted braces at (byte ∷ rest) =
    if is_quoted_escape byte || (braces && (byte == CLOSE_BRACE)) then gives (literal is_quoted (byte ∷ [])) at rest
    else gives (literal is_quoted (BACKSLASH ∷ [])) at (byte ∷ rest)

-- a byte of a word where quotes work as outside double quotes
abbrev pub unquoted_at : Owner → ℕ → List ℕ → Step
unquoted_at of byte rest =
    if byte == DOLLAR then dollar false false (mode.Word of) rest
    else if byte == DOUBLE_QUOTE then opened DOUBLE_QUOTE (mode.DoubleQuotes of) (mode.Word of) rest (unspliced rest)
    else if byte == QUOTE then opened QUOTE (mode.SingleQuotes of) (mode.Word of) rest rest
    else if byte == BACKSLASH then backslash (mode.Word of) rest
    else gives (plain (byte ∷ [])) (mode.Word of) rest

-- a byte of the word of a `${ }` in double quotes: `'` is ordinary, and `"` opens a string of its own
abbrev pub in_quotes_at : Owner → ℕ → List ℕ → Step
in_quotes_at of byte rest =
    if byte == DOLLAR then dollar true true (mode.Word of) rest
    else if byte == DOUBLE_QUOTE then opened DOUBLE_QUOTE (mode.DoubleQuotes of) (mode.Word of) rest (unspliced rest)
    else if byte == BACKSLASH then escape true true (mode.Word of) rest
    else gives (quoted (byte ∷ [])) (mode.Word of) rest

-- the word of a token ends with the text, that of a `${ }` at the `}`
abbrev pub word_at : Owner → List ℕ → Step
word_at of [] = ends []
word_at owner.Token (byte ∷ rest) = unquoted_at owner.Token byte rest
word_at (owner.Braces true) (byte ∷ rest) =
    if byte == CLOSE_BRACE then ends rest else in_quotes_at (owner.Braces true) byte rest
word_at (owner.Braces false) (byte ∷ rest) =
    if byte == CLOSE_BRACE then ends rest else unquoted_at (owner.Braces false) byte rest

-- double quotes (XCU 2.2.3)
abbrev pub double_quotes_at : Owner → List ℕ → Step
double_quotes_at of [] = ends []
double_quotes_at of (byte ∷ rest) =
    if byte == DOUBLE_QUOTE then passes (mode.Word of) rest
    else if byte == DOLLAR then dollar true true (mode.DoubleQuotes of) rest
    else if byte == BACKSLASH then escape true false (mode.DoubleQuotes of) rest
    else gives (quoted (byte ∷ [])) (mode.DoubleQuotes of) rest

-- single quotes (XCU 2.2.2)
abbrev pub single_quotes_at : Owner → List ℕ → Step
single_quotes_at of [] = ends []
single_quotes_at of (byte ∷ rest) =
    if byte == QUOTE then passes (mode.Word of) rest else gives (quoted (byte ∷ [])) (mode.SingleQuotes of) rest

-- a `)` in an arithmetic expansion of which `depth` parentheses are open: outside them `))` ends it, and another `)` is ordinary
abbrev pub closing_at : List ℕ → List ℕ → Step
closing_at text [] = gives (plain (CLOSE ∷ [])) (mode.Arithmetic 0) text
closing_at text (byte ∷ rest) =
    if byte == CLOSE then ends rest else gives (plain (CLOSE ∷ [])) (mode.Arithmetic 0) text

abbrev pub parenthesis_closed : ℕ → List ℕ → Step
parenthesis_closed depth rest =
    if depth == 0 then closing_at rest (unspliced rest) else gives (plain (CLOSE ∷ [])) (mode.Arithmetic (depth - 1)) rest

-- the text of an arithmetic expansion (XCU 2.6.4): quotes are ordinary, bytes are plain, and expansions are quoted
abbrev pub arithmetic_at : ℕ → List ℕ → Step
arithmetic_at depth [] = ends []
arithmetic_at depth (byte ∷ rest) =
    if byte == CLOSE then parenthesis_closed depth rest
    else if byte == OPEN then gives (plain (OPEN ∷ [])) (mode.Arithmetic (depth + 1)) rest
    else if byte == DOLLAR then dollar true false (mode.Arithmetic depth) rest
    else if byte == BACKSLASH then escape false false (mode.Arithmetic depth) rest
    else gives (plain (byte ∷ [])) (mode.Arithmetic depth) rest

-- the next piece of a text
abbrev pub step : Mode → List ℕ → Step
step (mode.Word of) text = word_at of (unspliced text)
step (mode.DoubleQuotes of) text = double_quotes_at of (unspliced text)
step (mode.SingleQuotes of) text = single_quotes_at of text
step (mode.Arithmetic depth) text = arithmetic_at depth (unspliced text)
