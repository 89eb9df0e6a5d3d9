-- How an invocation may be run in parallel (own; the table of classes of PaSh, EuroSys 2021, made exact).
use Rattle.std.specs.Prelude.{ℕ, List, Bool, true, false, not, ◌&&◌, if◌then◌else◌}
use Rattle.ut_args.specs.Invocations.{command_of}
use Rattle.ut_args.specs.Utilities.{has_at_most_one}
use Rattle.ut_args.specs.Strings.{keeps_newline}
use Rattle.ut_args.specs.declared.invocations.Inv.{Inv}
use Rattle.ut_args.specs.declared.commands.Command.{Command}
use Rattle.ut_args.specs.declared.commands.Command.TheVariants as command
use Rattle.ut_args.specs.declared.commands.Origin.{Origin}
use Rattle.ut_args.specs.declared.commands.Origin.TheVariants as origin
use Rattle.ut_args.specs.declared.commands.Report.{Report}
use Rattle.ut_args.specs.declared.commands.Report.TheVariants as report
use Rattle.ut_args.specs.declared.classes.Class.{Class}
use Rattle.ut_args.specs.declared.classes.Class.TheVariants as class
use Rattle.ut_args.specs.declared.classes.Seam.TheVariants as seam

-- grep of one input by what it reports; a line's number hangs on the lines before it
abbrev pub report_class : Report → Bool → Class
report_class report.Lines numbers = if numbers then class.N else class.S seam.Lines
report_class report.Count numbers = class.P
report_class report.Path numbers = class.N
report_class report.Nothing numbers = class.S seam.Lines

-- a class of an invocation with at most one operand
abbrev pub of_one : List (List ℕ) → Class → Class
of_one operands of = if has_at_most_one operands then of else class.N

-- tail from the end
abbrev pub origin_class : Origin → Class
origin_class (origin.Start number) = class.N
origin_class (origin.End number) = class.P

-- the class of a command; those of the shell change or ask for what the shell has
abbrev pub class_by : Command → Class
class_by (command.Cat args) = class.S seam.Bytes
class_by (command.Grep args) = of_one args.operands (report_class args.report args.numbers)
class_by (command.Tr args) = if args.squeezes then class.P else class.S seam.Bytes
class_by (command.Cut args) = class.S seam.Lines
class_by (command.Head args) = of_one args.operands class.P
class_by (command.Tail args) = origin_class args.part.origin
class_by (command.Wc args) = of_one args.operands class.P
class_by (command.Uniq args) = class.P
class_by (command.Sort args) = class.P
class_by (command.Paste args) = class.N
class_by (command.Tee args) = class.E
class_by shell = class.E

abbrev pub class_of : Inv → Class
class_of inv = class_by (command_of inv)

-- grep that doesn't count
abbrev pub is_no_count : Report → Bool
is_no_count report.Count = false
is_no_count report.Lines = true
is_no_count report.Path = true
is_no_count report.Nothing = true

-- the output for a closed text is closed, and that for the empty text is empty
abbrev pub keeps_closed_by : Command → Bool
keeps_closed_by (command.Cat args) = true
keeps_closed_by (command.Cut args) = true
keeps_closed_by (command.Grep args) = has_at_most_one args.operands && is_no_count args.report
keeps_closed_by (command.Tr args) = keeps_newline args
keeps_closed_by other = false

abbrev pub keeps_closed_of : Inv → Bool
keeps_closed_of inv = keeps_closed_by (command_of inv)
