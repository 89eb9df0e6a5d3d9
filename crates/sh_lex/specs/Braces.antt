-- `${ }` (XCU 2.6.2), which opened where `left` bytes were left. It ends at the first `}` that isn't quoted and isn't inside an
-- inner expansion. `quoted` says that quotes work as inside double quotes: there `'` is ordinary, `"` opens a string of its own
-- and a backslash quotes `}` too. The words of `%`, `%%`, `#` and `##` are never quoted from outside. In a `${ }` that has none
-- of the forms of an expansion quotes work as in `:-`.
use Rattle.std.specs.Prelude.{ℕ, Bool, true, false, not, List, [], ◌∷◌, ◌+◌, ◌==◌, ◌&&◌, if◌then◌else◌, length, drop}
use Rattle.std.specs.declared.option.Option.{Option}
use Rattle.std.specs.declared.option.Option.TheVariants.{None, Some}
use Rattle.sh_lex.specs.Texts.{unspliced, behind_quote, behind_backslash}
use Rattle.sh_lex.specs.Acts.{Act, goes, enters, ends, offends}
use Rattle.sh_lex.specs.Dollars.{after_dollar}
use Rattle.sh_lex.specs.Heads.{Head, whole, with_word, no_form, trims, brace_head}
use Rattle.sh_lex.specs.declared.bytes.TheConstants.{DOUBLE_QUOTE, BACKQUOTE, DOLLAR, BACKSLASH, QUOTE, CLOSE_BRACE, TILDE}
use Rattle.sh_lex.specs.declared.parts.Nest.{Nest}
use Rattle.sh_lex.specs.declared.parts.Construct.{Construct}
use Rattle.sh_lex.specs.declared.parts.Construct.TheVariants as part
use Rattle.sh_lex.specs.declared.parts.Fault.TheVariants as fault
use Rattle.sh_lex.specs.declared.parts.Spelling.TheVariants as spelling

-- single quotes that opened where `left` bytes were left (XCU 2.2.2): they keep every byte, and then `next` goes on
abbrev pub single_quotes : ℕ → Construct → Option (List ℕ) → Act
single_quotes left next None = offends (fault.UnclosedQuote left)
single_quotes left next (Some rest) = goes next rest

-- a single quote or a backslash in a `${ }`
abbrev pub quote_in_braces : Nest → ℕ → Bool → List ℕ → Act
quote_in_braces nest left true rest = goes (part.Braces nest left true) rest
quote_in_braces nest left false rest = single_quotes (length rest + 1) (part.Braces nest left false) (behind_quote rest)

abbrev pub backslash_in_braces : Nest → ℕ → Bool → List ℕ → Act
backslash_in_braces nest left true rest = goes (part.Braces nest left true) (behind_backslash true rest)
backslash_in_braces nest left false rest = goes (part.Braces nest left false) (drop 1 rest)

abbrev pub braces_at : Nest → ℕ → Bool → List ℕ → Act
braces_at nest left quoted [] = offends (fault.UnclosedBrace left)
braces_at nest left quoted (byte ∷ rest) =
    if byte == CLOSE_BRACE then ends rest
    else if byte == BACKQUOTE then offends (fault.Spelled spelling.Backquote (length rest + 1))
    else if byte == DOLLAR then after_dollar nest quoted (length rest + 1) (part.Braces nest left quoted) rest
    else if byte == DOUBLE_QUOTE then enters (part.DoubleQuotes nest (length rest + 1)) (part.Braces nest left quoted) rest
    else if byte == QUOTE then quote_in_braces nest left quoted rest
    else if byte == BACKSLASH then backslash_in_braces nest left quoted rest
    else goes (part.Braces nest left quoted) rest

abbrev pub in_braces : Nest → ℕ → Bool → List ℕ → Act
in_braces nest left quoted text = braces_at nest left quoted (unspliced text)

-- the word behind an operator: an unquoted `~` that begins it begins a tilde-prefix, which isn't in the profile
abbrev pub braces_word_at : Nest → ℕ → Bool → List ℕ → Act
braces_word_at nest left quoted [] = braces_at nest left quoted []
braces_word_at nest left quoted (byte ∷ rest) =
    if (byte == TILDE) && not quoted then offends (fault.Spelled spelling.Tilde (length rest + 1))
    else braces_at nest left quoted (byte ∷ rest)

-- the beginning: behind a form without a word it has ended, and a word begins behind an operator. What has no form has quotes as in `:-`
-- (own)
abbrev pub head_at : Nest → ℕ → Bool → List ℕ → Head → Act
head_at nest left quoted text (whole what measured rest) = ends rest
head_at nest left quoted text (with_word what by rest) = braces_word_at nest left (quoted && not (trims by)) (unspliced rest)
head_at nest left quoted text no_form = in_braces nest left quoted text

abbrev pub in_brace_head : Nest → ℕ → Bool → List ℕ → Act
in_brace_head nest left quoted text = head_at nest left quoted text (brace_head text)
