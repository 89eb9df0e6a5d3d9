-- The bytes of a text without its backslash-newlines (XCU 2.2.1), and what is left of it behind a run of bytes, a single-quoted string
-- (XCU 2.2.2), a comment (XCU 2.3 item 9) and a backslash in double quotes (XCU 2.2.3). The code goes along slices.
use Rattle.std.specs.Prelude.{ℕ, Bool, List, [], ◌∷◌, ◌||◌, ◌&&◌, ◌==◌, if◌then◌else◌}
use Rattle.std.specs.declared.option.Option.{Option}
use Rattle.std.specs.declared.option.Option.TheVariants.{None, Some}
use Rattle.sh_lex.specs.Bytes.{is_quoted_escape}
use Rattle.sh_lex.specs.declared.bytes.TheConstants.{BACKSLASH, NEWLINE, QUOTE, CLOSE_BRACE}

-- the bytes of a text, each with what is left behind it, where backslash-newlines are removed
unfoldable pub fronts : List ℕ → List (ℕ × List ℕ)
fronts [] = []
fronts (first ∷ []) = (first, []) ∷ []
fronts (first ∷ second ∷ rest) =
    if (first == BACKSLASH) && (second == NEWLINE) then fronts rest else (first, second ∷ rest) ∷ fronts (second ∷ rest)

-- the text from the first of them on: without the backslash-newlines at its beginning
abbrev pub from_first : List (ℕ × List ℕ) → List ℕ
from_first [] = []
from_first (first ∷ rest) = first.0 ∷ first.1

unfoldable pub unspliced : List ℕ → List ℕ
unspliced text = from_first (fronts text)

-- the bytes at the beginning of a text that pass a test
abbrev pub passing : (ℕ → Bool) → List (ℕ × List ℕ) → List ℕ
passing test [] = []
passing test (first ∷ rest) = if test first.0 then first.0 ∷ passing test rest else []

unfoldable pub run : (ℕ → Bool) → List ℕ → List ℕ
run test text = passing test (fronts text)

-- what is left behind them; `end` is what is left behind those so far
abbrev pub behind_passing : (ℕ → Bool) → List ℕ → List (ℕ × List ℕ) → List ℕ
behind_passing test end [] = end
behind_passing test end (first ∷ rest) = if test first.0 then behind_passing test first.1 rest else end

unfoldable pub behind_run : (ℕ → Bool) → List ℕ → List ℕ
behind_run test text = behind_passing test text (fronts text)

-- what is left behind the next single quote: single quotes keep every byte up to it
abbrev pub behind_quote : List ℕ → Option (List ℕ)
behind_quote [] = None
behind_quote (byte ∷ rest) = if byte == QUOTE then Some rest else behind_quote rest

-- what is left behind a comment, which runs up to the next newline
abbrev pub behind_comment : List ℕ → List ℕ
behind_comment [] = []
behind_comment (byte ∷ rest) = if byte == NEWLINE then byte ∷ rest else behind_comment rest

-- what is left behind a backslash in double quotes and the byte that it quotes; in a `${ }` there it quotes `}` too
abbrev pub behind_backslash : Bool → List ℕ → List ℕ
behind_backslash braces [] = []
behind_backslash braces (byte ∷ rest) =
    if is_quoted_escape byte || (braces && (byte == CLOSE_BRACE)) then rest else byte ∷ rest
