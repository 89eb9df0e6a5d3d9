-- A line of counts, written count by count, and a text that is counted piece by piece.
use Rattle.std.specs.Prelude.{ℕ, ◌+◌, List, [], ◌∷◌, ◌++◌, length, decimal, Bool, false, ◌||◌, if◌then◌else◌}
use Rattle.ut_groups.specs.declared.counting.Counts.{Counts}
use Rattle.ut_groups.specs.declared.counting.TheConstants.{SPACE}
use Rattle.ut_groups.specs.declared.columns.Columns.{Columns}
use Rattle.ut_groups.specs.Counting.{newlines, saturated, words_behind}

-- a count, behind a space where the line has begun
abbrev pub column : Bool → Bool → ℕ → List ℕ
column begun is_asked count = if is_asked then (if begun then SPACE ∷ [] else []) ++ decimal (saturated count) else []

abbrev pub counts_text : Columns → Counts → List ℕ
counts_text columns counts =
    column false columns.lines counts.lines
    ++ (column columns.lines columns.words counts.words ++ column (columns.lines || columns.words) columns.bytes counts.bytes)

-- the last byte of a text, or the one before it
abbrev pub last_behind : ℕ → List ℕ → ℕ
last_behind before [] = before
last_behind before (byte ∷ rest) = last_behind byte rest

-- the counts of what came, with those of a text that stands behind this byte
abbrev pub counts_behind : Counts → ℕ → List ℕ → Counts
counts_behind counts before text =
    record { lines = counts.lines + newlines text; words = counts.words + words_behind before text; bytes = counts.bytes + length text }
