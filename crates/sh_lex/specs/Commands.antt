-- Words, and the tokens of a `$( )` (XCU 2.3, 2.6.3). The text in a `$( )` is lexed by the same rules and ends at its first
-- unmatched `)`. `opened` is the number of bytes left where the `$( )` opened; with `None` the construct is the word of one token.
use Rattle.std.specs.Prelude.{ℕ, Bool, true, false, List, [], ◌∷◌, ◌+◌, ◌==◌, ◌&&◌, if◌then◌else◌, length, drop}
use Rattle.std.specs.declared.option.Option.{Option}
use Rattle.std.specs.declared.option.Option.TheVariants.{None, Some}
use Rattle.ps_lines.specs.Bytes.{is_name_start, is_name_byte}
use Rattle.sh_lex.specs.Bytes.{ends_word}
use Rattle.sh_lex.specs.Texts.{unspliced, behind_quote}
use Rattle.sh_lex.specs.Acts.{Act, goes, enters, ends, offends, Found, nothing, gap, open_parenthesis, close_parenthesis, token, word, offence}
use Rattle.sh_lex.specs.Dollars.{after_dollar}
use Rattle.sh_lex.specs.Braces.{single_quotes}
use Rattle.sh_lex.specs.Operators.{lexeme}
use Rattle.sh_lex.specs.declared.bytes.TheConstants.{QUOTE, DOUBLE_QUOTE, BACKSLASH, BACKQUOTE, DOLLAR, TILDE, EQUALS, COLON}
use Rattle.sh_lex.specs.declared.parts.Nest.{Nest}
use Rattle.sh_lex.specs.declared.parts.Spot.{Spot}
use Rattle.sh_lex.specs.declared.parts.Construct.TheVariants as part
use Rattle.sh_lex.specs.declared.parts.Spot.TheVariants as spot
use Rattle.sh_lex.specs.declared.parts.Fault.TheVariants as fault
use Rattle.sh_lex.specs.declared.parts.Spelling.TheVariants as spelling

-- a `~` here begins a tilde-prefix (XCU 2.6.1)
abbrev pub is_tilde_spot : Spot → Bool
is_tilde_spot spot.Begin = true
is_tilde_spot spot.ValueBegin = true
is_tilde_spot spot.Between = false
is_tilde_spot spot.Name = false
is_tilde_spot spot.Value = false
is_tilde_spot spot.Elsewhere = false

-- behind an ordinary byte of a word
abbrev pub spot_behind : Spot → ℕ → Spot
spot_behind spot.Begin byte = if is_name_start byte then spot.Name else spot.Elsewhere
spot_behind spot.Name byte =
    if byte == EQUALS then spot.ValueBegin else if is_name_byte byte then spot.Name else spot.Elsewhere
spot_behind spot.ValueBegin byte = if byte == COLON then spot.ValueBegin else spot.Value
spot_behind spot.Value byte = if byte == COLON then spot.ValueBegin else spot.Value
spot_behind spot.Elsewhere byte = spot.Elsewhere
spot_behind spot.Between byte = spot.Elsewhere

-- behind quotes, a quoted byte or an expansion
abbrev pub spot_past : Spot → Spot
spot_past spot.ValueBegin = spot.Value
spot_past spot.Value = spot.Value
spot_past spot.Begin = spot.Elsewhere
spot_past spot.Name = spot.Elsewhere
spot_past spot.Elsewhere = spot.Elsewhere
spot_past spot.Between = spot.Elsewhere

-- a byte of a word
abbrev pub word_at : Nest → Option ℕ → Spot → ℕ → List ℕ → Act
word_at nest opened at byte rest =
    if byte == QUOTE then single_quotes (length rest + 1) (part.Commands nest opened (spot_past at)) (behind_quote rest)
    else if byte == DOUBLE_QUOTE then
    enters (part.DoubleQuotes nest (length rest + 1)) (part.Commands nest opened (spot_past at)) rest
    else if byte == BACKSLASH then goes (part.Commands nest opened (spot_past at)) (drop 1 rest)
    else if byte == BACKQUOTE then offends (fault.Spelled spelling.Backquote (length rest + 1))
    else if byte == DOLLAR then
    after_dollar nest false (length rest + 1) (part.Commands nest opened (spot_past at)) rest
    else if (byte == TILDE) && is_tilde_spot at then offends (fault.Spelled spelling.Tilde (length rest + 1))
    else goes (part.Commands nest opened (spot_behind at byte)) rest

-- the first byte of a word, wherever that stands
abbrev pub word_begin : Nest → ℕ → List ℕ → Act
word_begin nest opened [] = offends (fault.UnclosedBrace opened)
word_begin nest opened (byte ∷ rest) = word_at nest (Some opened) spot.Begin byte rest

-- between two tokens of a `$( )`, by what begins there
abbrev pub between_at : Nest → ℕ → List ℕ → Found → Act
between_at nest opened text nothing = offends (fault.UnclosedBrace opened)
between_at nest opened text (gap rest) = goes (part.Commands nest (Some opened) spot.Between) rest
between_at nest opened text (open_parenthesis rest) =
    enters (part.Commands nest (Some opened) spot.Between) (part.Commands nest (Some opened) spot.Between) rest
between_at nest opened text (close_parenthesis rest) = ends rest
between_at nest opened text (token kind rest) = goes (part.Commands nest (Some opened) spot.Between) rest
between_at nest opened text word = word_begin nest opened (unspliced text)
between_at nest opened text (offence found) = offends found

-- behind the last byte of a word
abbrev pub word_end : Nest → Option ℕ → List ℕ → Act
word_end nest None text = ends text
word_end nest (Some opened) text = between_at nest opened text (lexeme text)

-- in a word: it is as long as it can be
abbrev pub in_word : Nest → Option ℕ → Spot → List ℕ → List ℕ → Act
in_word nest opened at text [] = word_end nest opened text
in_word nest opened at text (byte ∷ rest) =
    if ends_word byte then word_end nest opened text else word_at nest opened at byte rest

abbrev pub in_commands : Nest → Option ℕ → Spot → List ℕ → Act
in_commands nest opened spot.Between text = word_end nest opened text
in_commands nest opened spot.Begin text = in_word nest opened spot.Begin text (unspliced text)
in_commands nest opened spot.Name text = in_word nest opened spot.Name text (unspliced text)
in_commands nest opened spot.ValueBegin text = in_word nest opened spot.ValueBegin text (unspliced text)
in_commands nest opened spot.Value text = in_word nest opened spot.Value text (unspliced text)
in_commands nest opened spot.Elsewhere text = in_word nest opened spot.Elsewhere text (unspliced text)
