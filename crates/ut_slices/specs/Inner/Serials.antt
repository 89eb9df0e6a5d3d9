-- What is due of paste -s: the rest of the row of the input whose turn it is, and the rows of the others.
use Rattle.std.specs.Prelude.{ℕ, List, [], ◌∷◌, ◌++◌, Option, Bool, true, false, if◌then◌else◌}
use Rattle.std.specs.List.{flat_map}
use Rattle.ps_lines.specs.Lines.{lines}
use Rattle.ps_lines.specs.declared.newlines.TheConstants.{NEWLINE}
use Rattle.ut_slices.specs.Paste.{following, row, row_behind}

-- the rest of a row that has these lines still to come, of which the first may be begun. Some delimiters are left
abbrev pub row_left : List (Option ℕ) → List (Option ℕ) → Bool → List (List ℕ) → List ℕ
row_left all left false coming = row_behind all left coming
row_left all left true [] = NEWLINE ∷ []
row_left all left true (line ∷ others) = line ++ row_behind all left others

-- the delimiters that are left once the line is begun
abbrev pub delimiters_behind : List (Option ℕ) → List (Option ℕ) → Bool → List (Option ℕ)
delimiters_behind all left within = if within then left else following all left

abbrev pub due_of_rows : List (Option ℕ) → List (Option ℕ) → Bool → List (List ℕ) → List ℕ
due_of_rows all left within [] = []
due_of_rows all left within (text ∷ others) = row_left all left within (lines text) ++ flat_map (λ text. row all (lines text)) others
