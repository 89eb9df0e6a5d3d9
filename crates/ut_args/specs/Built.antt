-- Which invocations are built (own): those whose utility has a stream so far. A graph runs no others. Whether the patterns of grep can be read is
-- no matter of this.
use Rattle.std.specs.Prelude.{Bool, true, false}
use Rattle.ut_args.specs.Invocations.{command_of}
use Rattle.ut_args.specs.Utilities.{has_at_most_one}
use Rattle.ut_args.specs.declared.invocations.Inv.{Inv}
use Rattle.ut_args.specs.declared.commands.Command.{Command}
use Rattle.ut_args.specs.declared.commands.Command.TheVariants as command
use Rattle.ut_args.specs.declared.commands.TailArgs.{TailArgs}
use Rattle.ut_args.specs.declared.commands.UniqArgs.{UniqArgs}

-- tail and uniq, of one input, which they have always
abbrev pub is_built_uniq : UniqArgs → Bool
is_built_uniq args = has_at_most_one args.operands

abbrev pub is_built_tail : TailArgs → Bool
is_built_tail args = has_at_most_one args.operands

abbrev pub is_built_by : Command → Bool
is_built_by (command.Cat args) = true
is_built_by (command.Grep args) = true
is_built_by (command.Tr args) = true
is_built_by (command.Cut args) = true
is_built_by (command.Head args) = true
is_built_by (command.Tail args) = is_built_tail args
is_built_by (command.Wc args) = true
is_built_by (command.Uniq args) = is_built_uniq args
is_built_by (command.Sort args) = true
is_built_by (command.Paste args) = true
is_built_by (command.Tee args) = true
is_built_by other = false

abbrev pub is_built_of : Inv → Bool
is_built_of inv = is_built_by (command_of inv)
