-- Where a text begins and ends, by its lines or its bytes (XCU head, tail). A line has its newline here, and a last one that no newline ends
-- counts. The code looks for newlines from the front, or from the back, and holds no list of lines.
use Rattle.std.specs.Prelude.{ℕ, ◌-◌, ◌==◌, List, [], ◌∷◌, length, take, drop, if◌then◌else◌}
use Rattle.std.specs.List.{concat, onto_first}
use Rattle.ps_lines.specs.declared.newlines.TheConstants.{NEWLINE}
use Rattle.ut_args.specs.declared.commands.Unit.{Unit}
use Rattle.ut_args.specs.declared.commands.Unit.TheVariants as unit

-- the lines of a text with the newlines that end them
abbrev pub whole_lines : List ℕ → List (List ℕ)
whole_lines [] = []
whole_lines (byte ∷ rest) = if byte == NEWLINE then (byte ∷ []) ∷ whole_lines rest else onto_first byte (whole_lines rest)

-- the first lines of a text, so many or all
abbrev pub first_lines : ℕ → List ℕ → List ℕ
first_lines count text = concat (take count (whole_lines text))

-- what stands behind the first lines, or bytes
abbrev pub behind_lines : ℕ → List ℕ → List ℕ
behind_lines count text = concat (drop count (whole_lines text))

abbrev pub behind : Unit → ℕ → List ℕ → List ℕ
behind unit.Lines count text = behind_lines count text
behind unit.Bytes count text = drop count text

-- the last lines, or bytes, so many or all
abbrev pub last_lines : ℕ → List ℕ → List ℕ
last_lines count text = behind_lines (length (whole_lines text) - count) text

abbrev pub last : Unit → ℕ → List ℕ → List ℕ
last unit.Lines count text = last_lines count text
last unit.Bytes count text = drop (length text - count) text
