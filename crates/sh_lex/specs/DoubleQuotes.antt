-- Double quotes (XCU 2.2.3), which opened where `left` bytes were left.
use Rattle.std.specs.Prelude.{ℕ, true, false, List, [], ◌∷◌, ◌+◌, ◌==◌, if◌then◌else◌, length}
use Rattle.sh_lex.specs.Texts.{unspliced, behind_backslash}
use Rattle.sh_lex.specs.Acts.{Act, goes, ends, offends}
use Rattle.sh_lex.specs.Dollars.{after_dollar}
use Rattle.sh_lex.specs.declared.bytes.TheConstants.{DOUBLE_QUOTE, BACKQUOTE, DOLLAR, BACKSLASH}
use Rattle.sh_lex.specs.declared.parts.Nest.{Nest}
use Rattle.sh_lex.specs.declared.parts.Construct.TheVariants as part
use Rattle.sh_lex.specs.declared.parts.Fault.TheVariants as fault
use Rattle.sh_lex.specs.declared.parts.Spelling.TheVariants as spelling

abbrev pub double_quotes_at : Nest → ℕ → List ℕ → Act
double_quotes_at nest left [] = offends (fault.UnclosedQuote left)
double_quotes_at nest left (byte ∷ rest) =
    if byte == DOUBLE_QUOTE then ends rest
    else if byte == BACKQUOTE then offends (fault.Spelled spelling.Backquote (length rest + 1))
    else if byte == DOLLAR then after_dollar nest true (length rest + 1) (part.DoubleQuotes nest left) rest
    else if byte == BACKSLASH then goes (part.DoubleQuotes nest left) (behind_backslash false rest)
    else goes (part.DoubleQuotes nest left) rest

abbrev pub in_double_quotes : Nest → ℕ → List ℕ → Act
in_double_quotes nest left text = double_quotes_at nest left (unspliced text)
