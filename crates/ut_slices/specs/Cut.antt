-- cut (XCU cut): of each line the selected bytes or fields, in the order in which they stand there, each once. The code makes runs of the ranges
-- first, and takes from a line a run at a time.
use Rattle.std.specs.Prelude.{ℕ, ◌+◌, ◌==◌, List, [], ◌∷◌, ◌++◌, Bool, true, false, ◌&&◌, nat_le, Option, None, Some, if◌then◌else◌}
use Rattle.std.specs.List.{flat_map, join_with_byte, list_any, slice_split}
use Rattle.ps_lines.specs.Lines.{lines}
use Rattle.ps_lines.specs.declared.newlines.TheConstants.{NEWLINE}
use Rattle.ut_args.specs.declared.commands.CutArgs.{CutArgs}
use Rattle.ut_args.specs.declared.commands.Parts.{Parts}
use Rattle.ut_args.specs.declared.commands.Parts.TheVariants as parts
use Rattle.ut_args.specs.declared.lists.Range.{Range}
use Rattle.ut_streams.specs.Utilities.{Utility, each_by_itself}

-- a range has the place, counted from 1
abbrev pub reaches : Option ℕ → ℕ → Bool
reaches None place = true
reaches (Some to) place = nat_le place to

abbrev pub range_has : Range → ℕ → Bool
range_has range place = nat_le range.from place && reaches range.to place

-- some range has the place, counted from 0
abbrev pub is_selected : List Range → ℕ → Bool
is_selected ranges index = list_any (λ (range : Range). range_has range (index + 1)) ranges

-- the selected ones of items, of which the first has this place
abbrev pub selected : {Item : Type 0} → (ℕ → Bool) → ℕ → List Item → List Item
selected selects index [] = []
selected selects index (item ∷ others) =
    if selects index then item ∷ selected selects (index + 1) others else selected selects (index + 1) others

-- the fields of a line stand between its delimiters
abbrev pub fields : ℕ → List ℕ → List (List ℕ)
fields delimiter line = slice_split (λ byte. byte == delimiter) line

-- the delimiter is among the bytes
abbrev pub has_delimiter : ℕ → List ℕ → Bool
has_delimiter delimiter line = list_any (λ byte. byte == delimiter) line

-- what is written for a line: a line without a delimiter passes whole, or not at all
abbrev pub whole_or_none : Bool → List ℕ → List ℕ
whole_or_none only_delimited line = if only_delimited then [] else line ++ NEWLINE ∷ []

abbrev pub cut_line : Parts → (ℕ → Bool) → List ℕ → List ℕ
cut_line parts.Bytes selects line = selected selects 0 line ++ NEWLINE ∷ []
cut_line (parts.Fields delimiter only_delimited) selects line =
    if has_delimiter delimiter line then join_with_byte delimiter (selected selects 0 (fields delimiter line)) ++ NEWLINE ∷ []
    else whole_or_none only_delimited line

-- the output for a text
abbrev pub cut_output : CutArgs → List ℕ → List ℕ
cut_output args text = flat_map (cut_line args.parts (is_selected args.ranges)) (lines text)

abbrev pub cut : CutArgs → Utility
cut args = each_by_itself (cut_output args) (λ text. false)
