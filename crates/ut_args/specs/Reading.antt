-- The invocation that words are (XCU 2.9.1, XBD 12.2, and the pages of the commands): a command of the table with what its words ask for; else
-- an unknown command, else the first option letter from the left that the command doesn't have, else bad usage. Nothing of a pattern of
-- grep is judged here.
use Rattle.std.specs.Prelude.{ℕ, List, [], ◌∷◌, Option, Some, None, option_map, Result, Ok, Err, if◌then◌else◌, codes}
use Rattle.ut_options.specs.declared.given.Given.{Given}
use Rattle.ut_options.specs.declared.scanning.Scanned.{Scanned}
use Rattle.ut_options.specs.declared.usage.Usage.{Usage}
use Rattle.ut_options.specs.declared.usage.Usage.TheVariants as usage
use Rattle.ut_options.specs.Numbers.{option_number}
use Rattle.ut_options.specs.Scanning.{scanned}
use Rattle.ut_args.specs.Keys.{sort}
use Rattle.ut_args.specs.Lists.{cut, paste, place_of}
use Rattle.ut_args.specs.Names.{name_of}
use Rattle.ut_args.specs.Shell.{bracket, echo, one_at_most, read, set, status_of, test, unset}
use Rattle.ut_args.specs.Table.{row}
use Rattle.ut_args.specs.Strings.{tr}
use Rattle.ut_args.specs.Utilities.{cat, grep, head, tail, tee, uniq, wc}
use Rattle.ut_args.specs.declared.commands.Command.{Command}
use Rattle.ut_args.specs.declared.commands.Command.TheVariants as command
use Rattle.ut_args.specs.declared.faults.ArgFault.{ArgFault}
use Rattle.ut_args.specs.declared.faults.ArgFault.TheVariants as fault
use Rattle.ut_args.specs.declared.names.Name.{Name}
use Rattle.ut_args.specs.declared.names.Name.TheVariants as name

-- a command, or bad usage
abbrev pub if_some : Option Command → Result Command Usage
if_some None = Err usage.BadUsage
if_some (Some asked) = Ok asked

-- what the options and operands of a command ask for
abbrev pub asked_by : Name → List Given → List (List ℕ) → Result Command Usage
asked_by name.Cat options operands = if_some (cat options operands)
asked_by name.Grep options operands = if_some (grep options operands)
asked_by name.Tr options operands = if_some (tr options operands)
asked_by name.Cut options operands = if_some (cut options operands)
asked_by name.Head options operands = if_some (head options operands)
asked_by name.Tail options operands = if_some (tail options operands)
asked_by name.Wc options operands = if_some (wc options operands)
asked_by name.Uniq options operands = if_some (uniq options operands)
asked_by name.Sort options operands = if_some (sort options operands)
asked_by name.Paste options operands = if_some (paste options operands)
asked_by name.Tee options operands = if_some (tee options operands)
asked_by name.True options operands = Ok command.True
asked_by name.False options operands = Ok command.False
asked_by name.Colon options operands = Ok command.Colon
asked_by name.Break options operands = if_some (option_map (λ depth. command.Break (record { depth = depth })) (one_at_most place_of operands))
asked_by name.Continue options operands = if_some (option_map (λ depth. command.Continue (record { depth = depth })) (one_at_most place_of operands))
asked_by name.Exit options operands = if_some (option_map (λ status. command.Exit (record { status = status })) (one_at_most status_of operands))
asked_by name.Shift options operands = if_some (option_map (λ count. command.Shift (record { count = count })) (one_at_most option_number operands))
asked_by name.Unset options operands = if_some (unset operands)
asked_by name.Read options operands = read options operands
asked_by name.Set options operands = set operands
asked_by name.Test options operands = test operands
asked_by name.Bracket options operands = bracket operands
asked_by name.Echo options operands = echo operands

-- what words ask for that are options and operands, or have a fault
abbrev pub asked_behind : Name → Result Scanned Usage → Result Command Usage
asked_behind name (Ok scanned) = asked_by name scanned.options scanned.operands
asked_behind name (Err fault) = Err fault

-- what the words behind a command's name ask for: those of four commands are all operands
abbrev pub asked : Name → List (List ℕ) → Result Command Usage
asked name.Set words = asked_by name.Set [] words
asked name.Test words = asked_by name.Test [] words
asked name.Bracket words = asked_by name.Bracket [] words
asked name.Echo words = asked_by name.Echo [] words
asked name words = asked_behind name (scanned (row name) words)

-- with the name of the command
abbrev pub told_of : List ℕ → Result Command Usage → Result Command ArgFault
told_of name (Ok asked) = Ok asked
told_of name (Err (usage.UnsupportedFlag letter)) = Err (fault.UnsupportedFlag name letter)
told_of name (Err usage.BadUsage) = Err (fault.BadUsage name)

abbrev pub asked_if_known : Option Name → List ℕ → List (List ℕ) → Result Command ArgFault
asked_if_known None name words = Err (fault.UnknownCommand name)
asked_if_known (Some known) name words = told_of name (asked known words)

-- the invocation that words are, the first of them the name
abbrev pub invocation : List (List ℕ) → Result Command ArgFault
invocation [] = Err (fault.UnknownCommand [])
invocation (name ∷ words) = asked_if_known (name_of name) name words
