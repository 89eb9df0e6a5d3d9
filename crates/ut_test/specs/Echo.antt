-- What `echo` writes (XCU echo; own: no byte is an escape). The code goes from operand to operand.
use Rattle.std.specs.Prelude.{ℕ, List, [], ◌∷◌, ◌++◌}
use Rattle.std.specs.List.{join_with_byte}
use Rattle.ps_lines.specs.declared.newlines.TheConstants.{NEWLINE}
use Rattle.ut_test.specs.declared.writing.TheConstants.{SPACE}

-- the operands with one space between each two, and a newline
abbrev pub echoed : List (List ℕ) → List ℕ
echoed operands = join_with_byte SPACE operands ++ NEWLINE ∷ []

-- the operands, each behind a space
abbrev pub spaced : List (List ℕ) → List ℕ
spaced [] = []
spaced (operand ∷ others) = SPACE ∷ operand ++ spaced others
