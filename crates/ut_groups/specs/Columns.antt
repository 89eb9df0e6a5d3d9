-- Lines of counts (XCU wc), as they are written, and as they are read again where the counts of parts are added up (own).
use Rattle.std.specs.Prelude.{ℕ, ◌-◌, ◌==◌, nat_lt, List, [], ◌∷◌, ◌++◌, length, take, decimal, Bool, if◌then◌else◌}
use Rattle.std.specs.List.{before_first, after_first, join_with_byte}
use Rattle.std.specs.Option.{unwrap_or}
use Rattle.ps_lines.specs.Lines.{is_empty}
use Rattle.ps_lines.specs.Numbers.{number_of}
use Rattle.ps_lines.specs.declared.newlines.TheConstants.{NEWLINE}
use Rattle.ut_groups.specs.declared.counting.Counts.{Counts}
use Rattle.ut_groups.specs.declared.counting.TheConstants.{SPACE}
use Rattle.ut_groups.specs.declared.columns.Columns.{Columns}
use Rattle.ut_groups.specs.declared.columns.TheConstants.{MOST_BYTES}
use Rattle.ut_groups.specs.Counting.{no_counts, saturated}

-- a count that is asked for
abbrev pub asked : Bool → ℕ → List (List ℕ)
asked is_asked count = if is_asked then decimal (saturated count) ∷ [] else []

-- those that are asked for: newlines, words, bytes
abbrev pub chosen : Columns → Counts → List (List ℕ)
chosen columns counts = asked columns.lines counts.lines ++ (asked columns.words counts.words ++ asked columns.bytes counts.bytes)

-- what names an input stands behind its counts
abbrev pub behind_space : List ℕ → List ℕ
behind_space name = if is_empty name then [] else SPACE ∷ name

-- a line of counts, with one space between each two
abbrev pub counts_line : Columns → Counts → List ℕ → List ℕ
counts_line columns counts name = join_with_byte SPACE (chosen columns counts) ++ (behind_space name ++ NEWLINE ∷ [])

-- a number before the first space, and what stands behind that space; where no number stands there, it is 0
abbrev pub is_space : ℕ → Bool
is_space byte = byte == SPACE

abbrev pub number_before : List ℕ → ℕ
number_before text = unwrap_or (number_of (before_first is_space text)) 0

abbrev pub behind_number : List ℕ → List ℕ
behind_number text = after_first is_space text

-- the same of a count that is asked for
abbrev pub count_read : Bool → List ℕ → ℕ
count_read is_asked text = if is_asked then number_before text else 0

abbrev pub behind_count : Bool → List ℕ → List ℕ
behind_count is_asked text = if is_asked then behind_number text else text

abbrev pub counts_read : Columns → List ℕ → Counts
counts_read columns text = record {
  lines = count_read columns.lines text;
  words = count_read columns.words (behind_count columns.lines text);
  bytes = count_read columns.bytes (behind_count columns.words (behind_count columns.lines text));
}

-- a text without its last byte, which is the newline of a line
abbrev pub without_last : List ℕ → List ℕ
without_last text = take (length text - 1) text

-- the counts on a line; a longer text than the longest line of three has none
abbrev pub counts_on : Columns → List ℕ → Counts
counts_on columns text = if nat_lt MOST_BYTES (length text) then no_counts else counts_read columns (without_last text)
