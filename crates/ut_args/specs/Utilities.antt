-- What the options and operands of the utilities ask for (the pages of XCU, narrowed as docs/UTILITIES.md says).
use Rattle.std.specs.Prelude.{ℕ, ◌^◌, ◌-◌, List, [], ◌∷◌, ◌++◌, Bool, true, false, not, ◌&&◌, ◌||◌, ◌==◌, Option, Some, None, option_map, Result, Ok, Err, if◌then◌else◌, codes}
use Rattle.std.specs.List.{flat_map}
use Rattle.ps_lines.specs.declared.newlines.TheConstants.{NEWLINE}
use Rattle.ut_options.specs.declared.given.Given.{Given}
use Rattle.ut_options.specs.declared.usage.Usage.{Usage}
use Rattle.ut_options.specs.declared.usage.Usage.TheVariants as usage
use Rattle.ut_options.specs.Given.{and_on, arguments, has, last_number}
use Rattle.ut_options.specs.Numbers.{option_number}
use Rattle.ut_args.specs.Pieces.{pieces}
use Rattle.ut_args.specs.declared.commands.Command.{Command}
use Rattle.ut_args.specs.declared.commands.Command.TheVariants as command
use Rattle.ut_args.specs.declared.commands.Groups.{Groups}
use Rattle.ut_args.specs.declared.commands.Groups.TheVariants as groups
use Rattle.ut_args.specs.declared.commands.Origin.{Origin}
use Rattle.ut_args.specs.declared.commands.Origin.TheVariants as origin
use Rattle.ut_args.specs.declared.commands.Report.{Report}
use Rattle.ut_args.specs.declared.commands.Report.TheVariants as report
use Rattle.ut_args.specs.declared.commands.Syntax.{Syntax}
use Rattle.ut_args.specs.declared.commands.Syntax.TheVariants as syntax
use Rattle.ut_args.specs.declared.commands.Tail.{Tail}
use Rattle.ut_args.specs.declared.commands.Unit.{Unit}
use Rattle.ut_args.specs.declared.commands.Unit.TheVariants as unit

-- a letter, and whether it is given
abbrev pub letter : List ℕ → ℕ
letter [] = 0
letter (byte ∷ others) = byte

abbrev pub given : List ℕ → List Given → Bool
given text options = has (letter text) options

-- at most one operand
abbrev pub has_at_most_one : List (List ℕ) → Bool
has_at_most_one [] = true
has_at_most_one (operand ∷ []) = true
has_at_most_one (operand ∷ another ∷ others) = false

-- cat
abbrev pub cat : List Given → List (List ℕ) → Option Command
cat options operands = Some (command.Cat (record { operands = operands }))

-- grep: one syntax, from -E and -F
abbrev pub syntax_by : Bool → Bool → Option Syntax
syntax_by false false = Some syntax.Basic
syntax_by true false = Some syntax.Extended
syntax_by false true = Some syntax.Fixed
syntax_by true true = None

-- one report, from -c, -l and -q
abbrev pub report_by : Bool → Bool → Bool → Option Report
report_by false false false = Some report.Lines
report_by true false false = Some report.Count
report_by false true false = Some report.Path
report_by false false true = Some report.Nothing
report_by true true rest = None
report_by true false true = None
report_by false true true = None

-- the patterns within one line
abbrev pub in_lines : List (List ℕ) → List (List ℕ)
in_lines texts = flat_map (pieces (NEWLINE ∷ [])) texts

-- with these patterns, of each the lines
abbrev pub grep_for : List Given → List (List ℕ) → List (List ℕ) → Option Command
grep_for options patterns operands =
    and_on (syntax_by (given (codes "E") options) (given (codes "F") options)) (λ syntax.
    and_on (report_by (given (codes "c") options) (given (codes "l") options) (given (codes "q") options)) (λ report.
    Some (command.Grep (record {
      syntax = syntax;
      report = report;
      ignores_case = given (codes "i") options;
      numbers = given (codes "n") options;
      silent = given (codes "s") options;
      inverts = given (codes "v") options;
      whole_lines = given (codes "x") options;
      patterns = in_lines patterns;
      operands = operands;
    }))))

-- the patterns are those of all -e, else the first operand
abbrev pub grep_first : List Given → List (List ℕ) → Option Command
grep_first options [] = None
grep_first options (pattern ∷ operands) = grep_for options (pattern ∷ []) operands

abbrev pub grep : List Given → List (List ℕ) → Option Command
grep options operands =
    if given (codes "e") options then grep_for options (arguments (letter (codes "e")) options) operands else grep_first options operands

-- wc: all three counts where none is asked for
abbrev pub wc_of : Bool → Bool → Bool → List (List ℕ) → Command
wc_of lines words bytes operands =
    if lines || (words || bytes) then command.Wc (record { lines = lines; words = words; bytes = bytes; operands = operands })
    else command.Wc (record { lines = true; words = true; bytes = true; operands = operands })

abbrev pub wc : List Given → List (List ℕ) → Option Command
wc options operands =
    if given (codes "c") options && given (codes "m") options then None
    else Some (wc_of (given (codes "l") options) (given (codes "w") options) (given (codes "c") options || given (codes "m") options) operands)

-- head
abbrev pub head : List Given → List (List ℕ) → Option Command
head options operands =
    option_map (λ count. command.Head (record { count = count; operands = operands })) (last_number (letter (codes "n")) 10 options)

-- tail: the last option counts, each argument a number with an optional sign
abbrev pub origin_of : List ℕ → Option Origin
origin_of [] = None
origin_of (byte ∷ rest) =
    if byte == letter (codes "+") then option_map (λ number. origin.Start number) (option_number rest) else
    if byte == letter (codes "-") then option_map (λ number. origin.End number) (option_number rest) else
    option_map (λ number. origin.End number) (option_number (byte ∷ rest))

abbrev pub unit_of : ℕ → Unit
unit_of byte = if byte == letter (codes "c") then unit.Bytes else unit.Lines

abbrev pub tail_from : Tail → List Given → Option Tail
tail_from part [] = Some part
tail_from part (given ∷ rest) = and_on (origin_of given.argument) (λ origin. tail_from (record { unit = unit_of given.letter; origin = origin }) rest)

abbrev pub tail : List Given → List (List ℕ) → Option Command
tail options operands = if has_at_most_one operands then
    option_map (λ part. command.Tail (record { part = part; operands = operands })) (tail_from (record { unit = unit.Lines; origin = origin.End 10 }) options)
    else None

-- uniq: one kind of groups, from -c, -d and -u
abbrev pub groups_by : Bool → Bool → Bool → Option Groups
groups_by false false false = Some groups.All
groups_by true false false = Some groups.Counted
groups_by false true false = Some groups.Repeated
groups_by false false true = Some groups.Single
groups_by true true single = None
groups_by true false true = None
groups_by false true true = None

abbrev pub uniq : List Given → List (List ℕ) → Option Command
uniq options operands = if has_at_most_one operands then
    and_on (groups_by (given (codes "c") options) (given (codes "d") options) (given (codes "u") options)) (λ groups.
    and_on (last_number (letter (codes "f")) 0 options) (λ fields.
    and_on (last_number (letter (codes "s")) 0 options) (λ bytes.
    Some (command.Uniq (record { groups = groups; fields = fields; bytes = bytes; operands = operands })))))
    else None

-- tee
abbrev pub tee : List Given → List (List ℕ) → Option Command
tee options operands = Some (command.Tee (record { appends = given (codes "a") options; files = operands }))
