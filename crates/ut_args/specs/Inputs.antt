-- The inputs and the files of an invocation.
use Rattle.std.specs.Prelude.{ℕ, ◌+◌, ◌-◌, ◌^◌, min, List, [], ◌∷◌, Bool, false, not, ◌&&◌, if◌then◌else◌, codes}
use Rattle.std.specs.List.{count_by, list_all, list_any}
use Rattle.std.specs.Str.{bytes_eq}
use Rattle.ps_lines.specs.Lines.{is_empty}
use Rattle.ut_args.specs.Invocations.{command_of}
use Rattle.ut_args.specs.declared.invocations.Inv.{Inv}
use Rattle.ut_args.specs.declared.commands.Command.{Command}
use Rattle.ut_args.specs.declared.commands.Command.TheVariants as command

-- the operands that name inputs
abbrev pub operands_by : Command → List (List ℕ)
operands_by (command.Cat args) = args.operands
operands_by (command.Grep args) = args.operands
operands_by (command.Cut args) = args.operands
operands_by (command.Head args) = args.operands
operands_by (command.Tail args) = args.operands
operands_by (command.Wc args) = args.operands
operands_by (command.Uniq args) = args.operands
operands_by (command.Sort args) = args.operands
operands_by (command.Paste args) = args.operands
operands_by other = []

abbrev pub operands_of : Inv → List (List ℕ)
operands_of inv = operands_by (command_of inv)

-- the command with these as the operands that name inputs; one that has no such operands stays
abbrev pub with_operands : List (List ℕ) → Command → Command
with_operands operands (command.Cat args) = command.Cat (record { operands = operands })
with_operands operands (command.Grep args) = command.Grep (record args { operands = operands })
with_operands operands (command.Cut args) = command.Cut (record args { operands = operands })
with_operands operands (command.Head args) = command.Head (record args { operands = operands })
with_operands operands (command.Tail args) = command.Tail (record args { operands = operands })
with_operands operands (command.Wc args) = command.Wc (record args { operands = operands })
with_operands operands (command.Uniq args) = command.Uniq (record args { operands = operands })
with_operands operands (command.Sort args) = command.Sort (record args { operands = operands })
with_operands operands (command.Paste args) = command.Paste (record args { operands = operands })
with_operands operands other = other

-- the empty text, which names no input, in place of each operand whose flag is set; an operand without a flag stays
abbrev pub emptied : List Bool → List (List ℕ) → List (List ℕ)
emptied flags [] = []
emptied [] (operand ∷ operands) = operand ∷ operands
emptied (flag ∷ flags) (operand ∷ operands) = (if flag then [] else operand) ∷ emptied flags operands

-- the operands whose flag isn't set
abbrev pub remaining : List Bool → List (List ℕ) → List (List ℕ)
remaining flags [] = []
remaining [] (operand ∷ operands) = operand ∷ operands
remaining (flag ∷ flags) (operand ∷ operands) = if flag then remaining flags operands else operand ∷ remaining flags operands

-- the paths of the files that are written
abbrev pub files_by : Command → List (List ℕ)
files_by (command.Tee args) = args.files
files_by other = []

abbrev pub files_of : Inv → List (List ℕ)
files_of inv = files_by (command_of inv)

-- an operand that is the empty text names no input
abbrev pub is_named : List ℕ → Bool
is_named operand = not (is_empty operand)

-- an operand is standard input
abbrev pub is_standard : List ℕ → Bool
is_standard operand = bytes_eq operand (codes "-")

-- operands that are joined before: one input, or none where no operand names one
abbrev pub joined_inputs : List (List ℕ) → ℕ
joined_inputs [] = 1
joined_inputs (operand ∷ operands) = if list_all is_empty (operand ∷ operands) then 0 else 1

-- so many inputs as a number of 32 bits counts
abbrev pub counted : ℕ → ℕ
counted number = min number (2 ^ 32 - 1)

-- an input for each operand that names one
abbrev pub separate_inputs : List (List ℕ) → ℕ
separate_inputs [] = 1
separate_inputs (operand ∷ operands) = counted (count_by is_named (operand ∷ operands))

-- the same, with one input for all operands that are standard input
abbrev pub is_file : List ℕ → Bool
is_file operand = is_named operand && not (is_standard operand)

abbrev pub shared_inputs : List (List ℕ) → ℕ
shared_inputs [] = 1
shared_inputs (operand ∷ operands) =
    counted (count_by is_file (operand ∷ operands) + (if list_any is_standard (operand ∷ operands) then 1 else 0))

-- the lines of the standard input are dealt to all operands that are it, and each operand is a column (XCU paste)
abbrev pub deals : Command → Bool
deals (command.Paste args) = not args.serial
deals other = false

-- how many inputs a command reads
abbrev pub inputs_by : Command → ℕ
inputs_by (command.Cat args) = joined_inputs args.operands
inputs_by (command.Grep args) = separate_inputs args.operands
inputs_by (command.Tr args) = 1
inputs_by (command.Cut args) = joined_inputs args.operands
inputs_by (command.Head args) = separate_inputs args.operands
inputs_by (command.Tail args) = separate_inputs args.operands
inputs_by (command.Wc args) = separate_inputs args.operands
inputs_by (command.Uniq args) = separate_inputs args.operands
inputs_by (command.Sort args) = joined_inputs args.operands
inputs_by (command.Paste args) = if args.serial then separate_inputs args.operands else shared_inputs args.operands
inputs_by (command.Tee args) = 1
inputs_by shell = 0

abbrev pub inputs_of : Inv → ℕ
inputs_of inv = inputs_by (command_of inv)
