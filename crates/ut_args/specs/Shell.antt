-- What the words of the shell's own commands ask for (XCU 2.14, test, echo, read; narrowed as docs/UTILITIES.md says).
use Rattle.std.specs.Prelude.{ℕ, List, [], ◌∷◌, Bool, true, false, not, ◌&&◌, ◌||◌, ◌==◌, nat_le, Option, Some, None, option_map, Result, Ok, Err, ℤ, if◌then◌else◌, codes}
use Rattle.std.specs.Char.{is_ascii_alphabetic}
use Rattle.std.specs.List.{list_all}
use Rattle.std.specs.Str.{bytes_eq}
use Rattle.ps_lines.specs.Bytes.{is_name_byte, is_name_start}
use Rattle.ut_options.specs.declared.given.Given.{Given}
use Rattle.ut_options.specs.declared.usage.Usage.{Usage}
use Rattle.ut_options.specs.declared.usage.Usage.TheVariants as usage
use Rattle.ut_options.specs.Given.{and_on}
use Rattle.ut_options.specs.Numbers.{number_of, option_number}
use Rattle.ut_args.specs.Lists.{place_of}
use Rattle.ut_args.specs.Operators.{binary_of, is_not, unary_of}
use Rattle.ut_args.specs.Utilities.{given, letter}
use Rattle.ut_args.specs.declared.commands.Command.{Command}
use Rattle.ut_args.specs.declared.commands.Command.TheVariants as command
use Rattle.ut_args.specs.declared.operators.Unary.{Unary}
use Rattle.ut_args.specs.declared.operators.Binary.{Binary}
use Rattle.ut_args.specs.declared.operators.Binary.TheVariants as binary

-- at most one number, by what says a number
abbrev pub one_at_most : (List ℕ → Option ℕ) → List (List ℕ) → Option (Option ℕ)
one_at_most says [] = Some None
one_at_most says (operand ∷ []) = option_map Some (says operand)
one_at_most says (operand ∷ another ∷ others) = None

-- the status of exit
abbrev pub if_status : Option ℕ → Option ℕ
if_status None = None
if_status (Some number) = if nat_le number 255 then Some number else None

abbrev pub status_of : List ℕ → Option ℕ
status_of text = if_status (option_number text)

-- the text is a name (XBD 3.216)
abbrev pub is_name : List ℕ → Bool
is_name [] = false
is_name (byte ∷ rest) = is_name_start byte && list_all is_name_byte rest

-- one name or more
abbrev pub are_names : List (List ℕ) → Bool
are_names [] = false
are_names (name ∷ others) = list_all is_name (name ∷ others)

abbrev pub unset : List (List ℕ) → Option Command
unset names = if are_names names then Some (command.Unset (record { names = names })) else None

-- read has to have -r: without it is as with an option that isn't there
abbrev pub read : List Given → List (List ℕ) → Result Command Usage
read options names =
    if given (codes "r") options then (if are_names names then Ok (command.Read (record { names = names })) else Err usage.BadUsage)
    else Err (usage.UnsupportedFlag (letter (codes "r")))

-- echo: every word is an operand, but a first `-n` is an option that isn't there
abbrev pub begins_with_word : List (List ℕ) → List ℕ → Bool
begins_with_word [] word = false
begins_with_word (first ∷ others) word = bytes_eq first word

abbrev pub echo : List (List ℕ) → Result Command Usage
echo words =
    if begins_with_word words (codes "-n") then Err (usage.UnsupportedFlag (letter (codes "n"))) else Ok (command.Echo (record { operands = words }))

-- a word begins with a sign
abbrev pub begins_with_sign : List ℕ → Bool
begins_with_sign [] = false
begins_with_sign (byte ∷ rest) = byte == letter (codes "-") || byte == letter (codes "+")

-- the letter of a word of a sign and one letter
abbrev pub signed_letter : List ℕ → Option ℕ
signed_letter [] = None
signed_letter (sign ∷ []) = None
signed_letter (sign ∷ byte ∷ []) = if begins_with_sign (sign ∷ byte ∷ []) && is_ascii_alphabetic byte then Some byte else None
signed_letter (sign ∷ byte ∷ another ∷ others) = None

-- the usage fault of set where its first word begins with a sign: the first letter with a sign, among words that begin with one up to `--`
abbrev pub fault_by : Option ℕ → Usage → Usage
fault_by (Some byte) behind = usage.UnsupportedFlag byte
fault_by None behind = behind

abbrev pub set_fault : List (List ℕ) → Usage
set_fault [] = usage.BadUsage
set_fault (word ∷ others) =
    if begins_with_sign word && not (bytes_eq word (codes "--")) then fault_by (signed_letter word) (set_fault others) else usage.BadUsage

-- set: the words behind a first `--`, or all where the first begins with no sign
abbrev pub set : List (List ℕ) → Result Command Usage
set [] = Err usage.BadUsage
set (word ∷ others) =
    if bytes_eq word (codes "--") then Ok (command.Set (record { arguments = others })) else
    if begins_with_sign word then Err (set_fault (word ∷ others)) else
    Ok (command.Set (record { arguments = word ∷ others }))

-- the usage fault of a word that stands as an operator and is none: of a hyphen and a letter, this letter; else bad usage
abbrev pub no_operator : List ℕ → Usage
no_operator [] = usage.BadUsage
no_operator (sign ∷ rest) = if sign == letter (codes "-") then fault_by (signed_letter (sign ∷ rest)) usage.BadUsage else usage.BadUsage

-- the usage faults of test, by the number of its arguments
abbrev pub unary_fault : Option Unary → List ℕ → Option Usage
unary_fault (Some unary) operator = None
unary_fault None operator = Some (no_operator operator)

abbrev pub fault_of_two : List ℕ → Option Usage
fault_of_two operator = unary_fault (unary_of operator) operator

-- two numbers are compared
abbrev pub numbers_fault : Option ℤ → Option ℤ → Option Usage
numbers_fault (Some left) (Some right) = None
numbers_fault (Some left) None = Some usage.BadUsage
numbers_fault None right = Some usage.BadUsage

abbrev pub binary_fault : Option Binary → List ℕ → List ℕ → List ℕ → Option Usage
binary_fault (Some (binary.Compare how)) left operator right = numbers_fault (number_of left) (number_of right)
binary_fault (Some binary.Same) left operator right = None
binary_fault (Some binary.Differ) left operator right = None
binary_fault None left operator right = if is_not left then fault_of_two operator else Some (no_operator operator)

abbrev pub fault_of_three : List ℕ → List ℕ → List ℕ → Option Usage
fault_of_three left operator right = binary_fault (binary_of operator) left operator right

abbrev pub test_fault : List (List ℕ) → Option Usage
test_fault [] = None
test_fault (word ∷ []) = None
test_fault (operator ∷ operand ∷ []) = fault_of_two operator
test_fault (left ∷ operator ∷ right ∷ []) = fault_of_three left operator right
test_fault (word ∷ left ∷ operator ∷ right ∷ []) = if is_not word then fault_of_three left operator right else Some usage.BadUsage
test_fault (first ∷ second ∷ third ∷ fourth ∷ fifth ∷ others) = Some usage.BadUsage

-- test and [ with these arguments
abbrev pub unless_fault : Option Usage → Command → Result Command Usage
unless_fault (Some fault) asked = Err fault
unless_fault None asked = Ok asked

abbrev pub test : List (List ℕ) → Result Command Usage
test arguments = unless_fault (test_fault arguments) (command.Test (record { arguments = arguments }))

-- the words before a last `]`
abbrev pub before_bracket : List (List ℕ) → Option (List (List ℕ))
before_bracket [] = None
before_bracket (word ∷ []) = if bytes_eq word (codes "]") then Some [] else None
before_bracket (word ∷ next ∷ others) = option_map (λ before. word ∷ before) (before_bracket (next ∷ others))

abbrev pub bracketed : Option (List (List ℕ)) → Result Command Usage
bracketed None = Err usage.BadUsage
bracketed (Some arguments) = unless_fault (test_fault arguments) (command.Bracket (record { arguments = arguments }))

abbrev pub bracket : List (List ℕ) → Result Command Usage
bracket words = bracketed (before_bracket words)
