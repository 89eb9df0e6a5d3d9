-- What the pages of the utilities say.
use Rattle.std.specs.Prelude.{ℕ, List, Option, Some, None}
use Rattle.ut_args.specs.declared.commands.Command.{Command}
use Rattle.ut_args.specs.declared.commands.Command.TheVariants as command
use Rattle.ut_regex.specs.declared.fault.ReFault.{ReFault}
use Rattle.ut_regex.specs.declared.fault.ReFault.TheVariants.{NotARegex, BackReference, RepeatTooLarge, TooLarge, Memory}
use Rattle.ut_grep.specs.Faults.{first_faulty}
use Rattle.fl_commands.specs.Inputs.{output_for, selects_for}
use Rattle.sh_eval.specs.Utilities.{Pages, Patterns, read, wrong, refers_back}

-- the first pattern of grep that isn't read: a back-reference is told with the pattern, and every other fault is bad usage
abbrev pub told_by : Option (List ℕ × ReFault) → Patterns
told_by None = read
told_by (Some (pattern, NotARegex)) = wrong
told_by (Some (pattern, BackReference)) = refers_back pattern
told_by (Some (pattern, RepeatTooLarge)) = wrong
told_by (Some (pattern, TooLarge)) = wrong
told_by (Some (pattern, Memory)) = wrong

abbrev pub patterns_of : Command → Patterns
patterns_of (command.Grep args) = told_by (first_faulty args.syntax args.patterns)
patterns_of other = read

abbrev pub pages : Pages
pages = record { patterns = patterns_of; output = output_for; selects = selects_for }
