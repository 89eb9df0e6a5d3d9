-- `$(( ))` (XCU 2.6.4), which opened where `left` bytes were left. Quotes work as in double quotes, but `"` is ordinary. It ends
-- at the first `))` outside inner parentheses; a `)` there that isn't followed by `)` is a byte of the text.
use Rattle.std.specs.Prelude.{ℕ, true, false, List, [], ◌∷◌, ◌+◌, ◌==◌, if◌then◌else◌, length}
use Rattle.sh_lex.specs.Texts.{unspliced, behind_backslash}
use Rattle.sh_lex.specs.Acts.{Act, goes, enters, ends, offends}
use Rattle.sh_lex.specs.Dollars.{after_dollar}
use Rattle.sh_lex.specs.declared.bytes.TheConstants.{OPEN, CLOSE, BACKQUOTE, DOLLAR, BACKSLASH}
use Rattle.sh_lex.specs.declared.parts.Nest.{Nest}
use Rattle.sh_lex.specs.declared.parts.Construct.{Construct}
use Rattle.sh_lex.specs.declared.parts.Construct.TheVariants as part
use Rattle.sh_lex.specs.declared.parts.Fault.TheVariants as fault
use Rattle.sh_lex.specs.declared.parts.Spelling.TheVariants as spelling

-- a byte other than `)`; `self` is the construct itself
abbrev pub expression_at : Nest → ℕ → Construct → ℕ → List ℕ → Act
expression_at nest left self byte rest =
    if byte == OPEN then enters (part.Parentheses nest left) self rest
    else if byte == BACKQUOTE then offends (fault.Spelled spelling.Backquote (length rest + 1))
    else if byte == DOLLAR then after_dollar nest true (length rest + 1) self rest
    else if byte == BACKSLASH then goes self (behind_backslash false rest)
    else goes self rest

-- behind a `)`: another one ends the expansion
abbrev pub closing_at : Nest → ℕ → List ℕ → List ℕ → Act
closing_at nest left text [] = goes (part.Arithmetic nest left) text
closing_at nest left text (byte ∷ rest) = if byte == CLOSE then ends rest else goes (part.Arithmetic nest left) text

abbrev pub arithmetic_at : Nest → ℕ → List ℕ → Act
arithmetic_at nest left [] = offends (fault.UnclosedBrace left)
arithmetic_at nest left (byte ∷ rest) =
    if byte == CLOSE then closing_at nest left rest (unspliced rest)
    else expression_at nest left (part.Arithmetic nest left) byte rest

abbrev pub in_arithmetic : Nest → ℕ → List ℕ → Act
in_arithmetic nest left text = arithmetic_at nest left (unspliced text)

abbrev pub parentheses_at : Nest → ℕ → List ℕ → Act
parentheses_at nest left [] = offends (fault.UnclosedBrace left)
parentheses_at nest left (byte ∷ rest) =
    if byte == CLOSE then ends rest
    else expression_at nest left (part.Parentheses nest left) byte rest

abbrev pub in_parentheses : Nest → ℕ → List ℕ → Act
in_parentheses nest left text = parentheses_at nest left (unspliced text)
