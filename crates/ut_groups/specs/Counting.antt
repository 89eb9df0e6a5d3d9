-- Counts (XCU wc). A count that is printed has 64 bits, and a greater one stands at their end (own).
use Rattle.std.specs.Prelude.{ℕ, ◌+◌, ◌-◌, ◌^◌, ◌==◌, List, [], ◌∷◌, ◌++◌, length, min, decimal, Bool, not, ◌&&◌, if◌then◌else◌}
use Rattle.std.specs.List.{count_by}
use Rattle.ps_lines.specs.Classes.{class_has}
use Rattle.ps_lines.specs.declared.class.Class.TheVariants as class
use Rattle.ps_lines.specs.declared.newlines.TheConstants.{NEWLINE}
use Rattle.ut_groups.specs.declared.counting.Counts.{Counts}
use Rattle.ut_groups.specs.declared.counting.TheConstants.{SPACE}

-- how many newlines the text has
abbrev pub newlines : List ℕ → ℕ
newlines text = count_by (λ byte. byte == NEWLINE) text

-- white space stands between words
abbrev pub is_word : ℕ → Bool
is_word byte = not (class_has class.Space byte)

-- a word begins at a byte of a word where the one before it is none
abbrev pub word_begins : ℕ → ℕ → ℕ
word_begins before byte = if is_word byte && not (is_word before) then 1 else 0

-- how many words begin in a text that stands behind this byte
abbrev pub words_behind : ℕ → List ℕ → ℕ
words_behind before [] = 0
words_behind before (byte ∷ rest) = word_begins before byte + words_behind byte rest

-- how many words the text has
abbrev pub words : List ℕ → ℕ
words text = words_behind SPACE text

-- all three counts of a text
abbrev pub counts_of : List ℕ → Counts
counts_of text = record { lines = newlines text; words = words text; bytes = length text }

abbrev pub added : Counts → Counts → Counts
added one other = record { lines = one.lines + other.lines; words = one.words + other.words; bytes = one.bytes + other.bytes }

abbrev pub no_counts : Counts
no_counts = record { lines = 0; words = 0; bytes = 0 }

-- the count as it is printed
abbrev pub saturated : ℕ → ℕ
saturated count = min count (2 ^ 64 - 1)

abbrev pub saturated_counts : Counts → Counts
saturated_counts counts = record { lines = saturated counts.lines; words = saturated counts.words; bytes = saturated counts.bytes }

-- a count on a line of its own
abbrev pub count_line : ℕ → List ℕ
count_line count = decimal (saturated count) ++ NEWLINE ∷ []

-- the output of `wc -l` for a text
abbrev pub line_count : List ℕ → List ℕ
line_count text = count_line (newlines text)
