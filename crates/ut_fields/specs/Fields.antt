-- The fields of a line (XCU sort, -k and -t, and uniq, -f; how blanks begin a field is own). A place in a line is told as what is left of the line from
-- there on.
use Rattle.std.specs.Prelude.{ℕ, ◌-◌, ◌==◌, zero, suc, List, [], ◌∷◌, length, take, drop, Option, Some, None, if◌then◌else◌}
use Rattle.ps_lines.specs.declared.class.Class.TheVariants as class
use Rattle.ps_lines.specs.Classes.{class_has}

-- behind the blanks that a text begins with
abbrev pub behind_blanks : List ℕ → List ℕ
behind_blanks [] = []
behind_blanks (byte ∷ rest) = if class_has class.Blank byte then behind_blanks rest else byte ∷ rest

-- from the first blank on
abbrev pub from_blank : List ℕ → List ℕ
from_blank [] = []
from_blank (byte ∷ rest) = if class_has class.Blank byte then byte ∷ rest else from_blank rest

-- from the first of these bytes on
abbrev pub from_byte : ℕ → List ℕ → List ℕ
from_byte separator [] = []
from_byte separator (byte ∷ rest) = if byte == separator then byte ∷ rest else from_byte separator rest

-- where the first field ends: without a separator a field is blanks and then bytes that are no blanks; with one, fields stand between
-- these bytes
abbrev pub field_end : Option ℕ → List ℕ → List ℕ
field_end None line = from_blank (behind_blanks line)
field_end (Some separator) line = from_byte separator line

-- where the next field begins
abbrev pub behind_separator : Option ℕ → List ℕ → List ℕ
behind_separator None rest = rest
behind_separator (Some separator) rest = drop 1 rest

abbrev pub next_field : Option ℕ → List ℕ → List ℕ
next_field separator line = behind_separator separator (field_end separator line)

-- where the field behind so many others begins: the line's end where there is none
abbrev pub behind_fields : Option ℕ → ℕ → List ℕ → List ℕ
behind_fields separator zero line = line
behind_fields separator (suc count) line = behind_fields separator count (next_field separator line)

-- the text from one place up to another, and none where that stands before it
abbrev pub up_to : List ℕ → List ℕ → List ℕ
up_to start end = take (length start - length end) start
