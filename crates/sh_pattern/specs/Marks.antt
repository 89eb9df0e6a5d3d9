-- Bytes of a word, each with the mark that says whether it is quoted (XCU 2.2, 2.13.1).
use Rattle.std.specs.Prelude.{ℕ, ◌==◌, ◌&&◌, not, Bool, List, [], ◌∷◌, Option, Some, None, if◌then◌else◌}
use Rattle.sh_pattern.specs.declared.marks.Mark.{Mark}

-- the mark is this byte, unquoted: a quoted byte is ordinary
abbrev pub is_unquoted : ℕ → Mark → Bool
is_unquoted byte mark = not mark.quoted && (mark.byte == byte)

-- what follows these bytes where the text begins with them, none of them quoted
abbrev pub past_spelling : List ℕ → List Mark → Option (List Mark)
past_spelling [] text = Some text
past_spelling (byte ∷ bytes) [] = None
past_spelling (byte ∷ bytes) (mark ∷ text) = if is_unquoted byte mark then past_spelling bytes text else None

-- what follows this byte where the text begins with it, unquoted
abbrev pub past : ℕ → List Mark → Option (List Mark)
past byte [] = None
past byte (first ∷ rest) = if is_unquoted byte first then Some rest else None
