-- What is still to be written of several inputs, and what will have been selected, where of the first of them some has come.
use Rattle.std.specs.Prelude.{ℕ, ◌||◌, List, [], ◌∷◌, ◌++◌, Bool, true, false, Option, drop}
use Rattle.std.specs.List.{flat_map, list_any}
use Rattle.ps_lines.specs.Lines.{lines}
use Rattle.ut_args.specs.declared.commands.Report.{Report}
use Rattle.ut_args.specs.declared.commands.Report.TheVariants as report
use Rattle.ut_streams.specs.Utilities.{Input, labelled}
use Rattle.ut_grep.specs.Output.{due_by}
use Rattle.ut_grep.specs.Patterns.{head_by, name_of}

-- what is written of an input, by the lines that are selected
abbrev pub written_by : Report → Bool → Option ℕ → (List ℕ → Bool) → Input → List ℕ
written_by form alone number test input = due_by form test (head_by form alone (name_of input.label)) number 0 false (lines input.text)

-- a line of it is selected
abbrev pub has_selected : (List ℕ → Bool) → Input → Bool
has_selected test input = list_any test (lines input.text)

-- what is due of the first, and then of the others
abbrev pub due_in_order : (List ℕ → List ℕ) → (Input → List ℕ) → List (List ℕ) → List (List ℕ) → List ℕ
due_in_order current each labels [] = []
due_in_order current each labels (text ∷ others) = current text ++ flat_map each (labelled (drop 1 labels) others)

-- something was selected before, or is in the first, or in the others
abbrev pub selects_in_order : Bool → (List ℕ → Bool) → (Input → Bool) → List (List ℕ) → List (List ℕ) → Bool
selects_in_order before current each labels [] = before
selects_in_order before current each labels (text ∷ others) = before || (current text || list_any each (labelled (drop 1 labels) others))

-- a report for which nothing is written
abbrev pub is_silent : Report → Bool
is_silent report.Lines = false
is_silent report.Count = false
is_silent report.Path = false
is_silent report.Nothing = true
