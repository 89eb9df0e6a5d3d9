-- paste (XCU paste): the lines of its inputs side by side, or with -s those of each input in one row. The code writes a row as its lines come,
-- and holds no list of lines.
use Rattle.std.specs.Prelude.{ℕ, zero, suc, ◌-◌, ◌==◌, max, List, [], ◌∷◌, ◌++◌, length, drop, get_or, map, false, Option, None, Some, if◌then◌else◌}
use Rattle.std.specs.List.{filter, flat_map}
use Rattle.ps_lines.specs.Lines.{lines}
use Rattle.ps_lines.specs.declared.newlines.TheConstants.{NEWLINE}
use Rattle.ut_args.specs.Inputs.{is_named, is_standard}
use Rattle.ut_args.specs.declared.commands.PasteArgs.{PasteArgs}
use Rattle.ut_streams.specs.Utilities.{Input, Utility, each_by_itself}

-- what stands for a delimiter: a byte, or nothing
abbrev pub delimiter : Option ℕ → List ℕ
delimiter None = []
delimiter (Some byte) = byte ∷ []

-- the delimiter whose turn it is, of those that are left in the list
abbrev pub first_delimiter : List (Option ℕ) → List ℕ
first_delimiter [] = []
first_delimiter (one ∷ others) = delimiter one

-- those that are left behind it: behind the last one the list begins anew
abbrev pub following : List (Option ℕ) → List (Option ℕ) → List (Option ℕ)
following all [] = all
following all (one ∷ []) = all
following all (one ∷ next ∷ others) = next ∷ others

-- the rest of a row: each line behind a delimiter, and a newline
abbrev pub row_behind : List (Option ℕ) → List (Option ℕ) → List (List ℕ) → List ℕ
row_behind all left [] = NEWLINE ∷ []
row_behind all left (line ∷ others) = first_delimiter left ++ (line ++ row_behind all (following all left) others)

-- a row: lines with the delimiters between them, in a cycle that begins with the row
abbrev pub row : List (Option ℕ) → List (List ℕ) → List ℕ
row delimiters [] = NEWLINE ∷ []
row delimiters (line ∷ others) = line ++ row_behind delimiters delimiters others

-- COLUMNS

-- the inputs that the columns have, by their numbers: each operand has the next one, but all that are `-` share that of the first
abbrev pub inputs_from : ℕ → Option ℕ → List (List ℕ) → List ℕ
inputs_from next standard [] = []
inputs_from next None (operand ∷ operands) =
    next ∷ (if is_standard operand then inputs_from (suc next) (Some next) operands else inputs_from (suc next) None operands)
inputs_from next (Some input) (operand ∷ operands) =
    if is_standard operand then input ∷ inputs_from next (Some input) operands else next ∷ inputs_from (suc next) (Some input) operands

-- no operand is one `-`
abbrev pub column_inputs : List (List ℕ) → List ℕ
column_inputs [] = 0 ∷ []
column_inputs (operand ∷ operands) = inputs_from 0 None (filter is_named (operand ∷ operands))

-- how many of the columns have this input
abbrev pub sharing : ℕ → List ℕ → ℕ
sharing input [] = 0
sharing input (column ∷ columns) = if input == column then suc (sharing input columns) else sharing input columns

-- one line, and of those behind it one after each that so many others have
abbrev pub dealt : ℕ → ℕ → List (List ℕ) → List (List ℕ)
dealt others wait [] = []
dealt others zero (line ∷ rest) = line ∷ dealt others others rest
dealt others (suc wait) (line ∷ rest) = dealt others wait rest

-- the lines of each column: those of its input, dealt in turn to the columns that share it. Some columns stand before
abbrev pub lines_of_columns : List ℕ → List ℕ → List ℕ → (ℕ → List ℕ) → List (List (List ℕ))
lines_of_columns all before [] texts = []
lines_of_columns all before (input ∷ columns) texts =
    dealt (sharing input all - 1) 0 (drop (sharing input before) (lines (texts input))) ∷ lines_of_columns all (input ∷ before) columns texts

-- ROWS

-- as many as the column of most lines has lines
abbrev pub most_lines : List (List (List ℕ)) → ℕ
most_lines [] = 0
most_lines (column ∷ columns) = max (length column) (most_lines columns)

-- the lines of one number, counted from 0; one that a column doesn't have is empty
abbrev pub lines_at : ℕ → List (List (List ℕ)) → List (List ℕ)
lines_at number columns = map (λ column. get_or column number []) columns

-- so many rows, from one number on
abbrev pub rows_from : List (Option ℕ) → ℕ → ℕ → List (List (List ℕ)) → List ℕ
rows_from delimiters number zero columns = []
rows_from delimiters number (suc count) columns = row delimiters (lines_at number columns) ++ rows_from delimiters (suc number) count columns

abbrev pub rows : List (Option ℕ) → List (List (List ℕ)) → List ℕ
rows delimiters columns = rows_from delimiters 0 (most_lines columns) columns

abbrev pub side_by_side : List (Option ℕ) → List ℕ → (ℕ → List ℕ) → List ℕ
side_by_side delimiters columns texts = rows delimiters (lines_of_columns columns [] columns texts)

-- the output for the texts of the inputs: rows of lines side by side, or a row for each input, which has a row too where it is empty (own)
abbrev pub paste_output : PasteArgs → List (List ℕ) → List ℕ
paste_output args texts =
    if args.serial then flat_map (λ text. row args.delimiters (lines text)) texts
    else side_by_side args.delimiters (column_inputs args.operands) (λ input. get_or texts input [])

abbrev pub paste : PasteArgs → Utility
paste args = record (each_by_itself (λ text. paste_output args (text ∷ [])) (λ text. false)) {
  output = λ inputs. paste_output args (map (λ (input : Input). input.text) inputs);
}
