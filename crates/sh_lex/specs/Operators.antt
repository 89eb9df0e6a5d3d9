-- Operators (XCU 2.10.2, narrowed). Each is the longest that begins at its place (XCU 2.3 items 2 and 3); those that aren't in the
-- profile are refused (own). `left` is the number of bytes left at the operator, `text` what is left behind its first byte.
use Rattle.std.specs.Prelude.{ℕ, Bool, true, List, [], ◌∷◌, ◌+◌, ◌==◌, ◌||◌, ◌&&◌, if◌then◌else◌, length}
use Rattle.std.specs.Char.{is_ascii_digit}
use Rattle.sh_lex.specs.Bytes.{is_blank, ends_word}
use Rattle.sh_lex.specs.Texts.{unspliced, behind_run, behind_comment}
use Rattle.sh_lex.specs.Numbers.{begins_with, after_digit}
use Rattle.sh_lex.specs.Acts.{Found, nothing, gap, open_parenthesis, close_parenthesis, token, word, offence}
use Rattle.sh_lex.specs.declared.bytes.TheConstants.{NEWLINE, LESS, GREAT, AND, PIPE, SEMI, DASH, ONE, TWO, HASH, OPEN, CLOSE}
use Rattle.sh_lex.specs.declared.tokens.Op.TheVariants as op
use Rattle.sh_lex.specs.declared.tokens.TokenKind.TheVariants as kind
use Rattle.sh_lex.specs.declared.parts.Fault.TheVariants as fault
use Rattle.sh_lex.specs.declared.parts.Spelling.TheVariants as spelling

-- `&&`
abbrev pub and_at : ℕ → List ℕ → Found
and_at left [] = offence (fault.Spelled spelling.And left)
and_at left (byte ∷ rest) =
    if byte == AND then token (kind.Op op.AndIf) rest else offence (fault.Spelled spelling.And left)

-- `|` and `||`
abbrev pub pipe_at : List ℕ → List ℕ → Found
pipe_at text [] = token (kind.Op op.Pipe) text
pipe_at text (byte ∷ rest) = if byte == PIPE then token (kind.Op op.OrIf) rest else token (kind.Op op.Pipe) text

-- `;`
abbrev pub semi_at : ℕ → List ℕ → List ℕ → Found
semi_at left text [] = token (kind.Op op.Semi) text
semi_at left text (byte ∷ rest) =
    if byte == SEMI then offence (fault.Spelled spelling.DoubleSemi left) else token (kind.Op op.Semi) text

-- `<`
abbrev pub less_at : ℕ → List ℕ → List ℕ → Found
less_at left text [] = token (kind.Op op.Less) text
less_at left text (byte ∷ rest) =
    if byte == LESS then
    (if begins_with DASH (unspliced rest) then offence (fault.Spelled spelling.DoubleLessDash left)
    else offence (fault.Spelled spelling.DoubleLess left))
    else if byte == AND then offence (fault.Spelled spelling.LessAnd left)
    else if byte == GREAT then offence (fault.Spelled spelling.LessGreat left)
    else token (kind.Op op.Less) text

-- no word goes on at this text
abbrev pub has_no_word : List ℕ → Bool
has_no_word [] = true
has_no_word (byte ∷ rest) = ends_word byte

-- digits that begin with `digit` are an IoNumber, or the word `1` or `2`
abbrev pub is_number_or_target : ℕ → List ℕ → Bool
is_number_or_target digit rest =
    begins_with LESS (unspliced (behind_run is_ascii_digit rest)) || begins_with GREAT (unspliced (behind_run is_ascii_digit rest))
    || (((digit == ONE) || (digit == TWO)) && has_no_word (unspliced rest))

-- no word follows, or it is `1` or `2`
abbrev pub is_target : List ℕ → Bool
is_target [] = true
is_target (byte ∷ rest) =
    ends_word byte || (byte == HASH) || (is_ascii_digit byte && is_number_or_target byte rest)

-- `>`, `>>` and `>&`
abbrev pub great_at : ℕ → List ℕ → List ℕ → Found
great_at left text [] = token (kind.Op op.Great) text
great_at left text (byte ∷ rest) =
    if byte == GREAT then token (kind.Op op.DGreat) rest
    else if byte == PIPE then offence (fault.Spelled spelling.GreatPipe left)
    else if byte == AND then
    (if is_target (unspliced (behind_run is_blank rest)) then token (kind.Op op.GreatAnd) rest
    else offence (fault.Spelled spelling.GreatAnd left))
    else token (kind.Op op.Great) text

-- at a byte that ends a word: an operator, a newline or a blank
abbrev pub delimiter : ℕ → List ℕ → Found
delimiter byte rest =
    if byte == NEWLINE then token kind.Newline rest
    else if byte == AND then and_at (length rest + 1) (unspliced rest)
    else if byte == PIPE then pipe_at rest (unspliced rest)
    else if byte == SEMI then semi_at (length rest + 1) rest (unspliced rest)
    else if byte == OPEN then open_parenthesis rest
    else if byte == CLOSE then close_parenthesis rest
    else if byte == LESS then less_at (length rest + 1) rest (unspliced rest)
    else if byte == GREAT then great_at (length rest + 1) rest (unspliced rest)
    else gap rest

-- what begins at a text (XCU 2.3); a `#` that begins a token begins a comment
abbrev pub lexeme_at : List ℕ → Found
lexeme_at [] = nothing
lexeme_at (byte ∷ rest) =
    if ends_word byte then delimiter byte rest
    else if byte == HASH then gap (behind_comment rest)
    else if is_ascii_digit byte then after_digit byte rest
    else word

abbrev pub lexeme : List ℕ → Found
lexeme text = lexeme_at (unspliced text)
