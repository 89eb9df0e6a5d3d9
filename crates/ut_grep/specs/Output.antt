-- What grep writes for the lines of an input, whatever test selects them (XCU grep, STDOUT). The code goes from one block of lines that are
-- selected, or aren't, to the next.
use Rattle.std.specs.Prelude.{ℕ, ◌≡◌, ◌+◌, ◌-◌, ◌^◌, List, [], ◌∷◌, ◌++◌, Bool, true, false, not, min, decimal, Option, Some, None, if◌then◌else◌}
use Rattle.std.specs.List.{count_by, list_any}
use Rattle.ps_lines.specs.Lines.{is_empty}
use Rattle.ps_lines.specs.declared.newlines.TheConstants.{NEWLINE}
use Rattle.ut_args.specs.declared.commands.Report.{Report}
use Rattle.ut_args.specs.declared.commands.Report.TheVariants as report

-- with -v the other lines
abbrev pub picked : Bool → Bool → Bool
picked inverts found = if inverts then not found else found

abbrev pub picked_by : Bool → (List ℕ → Bool) → List ℕ → Bool
picked_by inverts found line = picked inverts (found line)

-- a number of lines as it is printed. Own: one that 64 bits don't hold stands at their end
abbrev pub saturated : ℕ → ℕ
saturated number = min number (2 ^ 64 - 1)

-- the number of a line, where lines are numbered, behind so many more
abbrev pub number_behind : ℕ → Option ℕ → Option ℕ
number_behind count None = None
number_behind count (Some number) = Some (saturated (number + count))

abbrev pub number_shown : Option ℕ → List ℕ
number_shown None = []
number_shown (Some number) = decimal number ++ 58 ∷ []

-- nothing stands before a line
abbrev pub is_plain : List ℕ → Option ℕ → Bool
is_plain head None = is_empty head
is_plain head (Some number) = false

-- a selected line, behind a head and its number
abbrev pub shown : List ℕ → Option ℕ → List ℕ → List ℕ
shown head number line = head ++ (number_shown number ++ (line ++ NEWLINE ∷ []))

-- the selected ones of lines, of which the first has this number
abbrev pub selected_from : (List ℕ → Bool) → List ℕ → Option ℕ → List (List ℕ) → List ℕ
selected_from test head number [] = []
selected_from test head number (line ∷ texts) =
    (if test line then shown head number line else []) ++ selected_from test head (number_behind 1 number) texts

-- a count of lines
abbrev pub count_shown : List ℕ → ℕ → List ℕ
count_shown head count = head ++ (decimal (saturated count) ++ NEWLINE ∷ [])

-- what is written for lines that are still to come, where so many were selected before: the selected lines; their count; a head, where there is
-- the first of them; or nothing
abbrev pub due_by : Report → (List ℕ → Bool) → List ℕ → Option ℕ → ℕ → Bool → List (List ℕ) → List ℕ
due_by report.Lines test head number count selected texts = selected_from test head number texts
due_by report.Count test head number count selected texts = count_shown head (count + count_by test texts)
due_by report.Path test head number count selected texts = if selected then [] else if list_any test texts then head else []
due_by report.Nothing test head number count selected texts = []

-- a test says the same of all lines
abbrev pub AllAre : (List ℕ → Bool) → Bool → List (List ℕ) → Type 0
AllAre test answer [] = Unit {0}
AllAre test answer (line ∷ texts) = (test line ≡ answer) × AllAre test answer texts

-- a report that an input with a selected line settles
abbrev pub is_brief : Report → Bool
is_brief report.Lines = false
is_brief report.Count = false
is_brief report.Path = true
is_brief report.Nothing = true
