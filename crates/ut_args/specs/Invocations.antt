-- Invocations, as the words that they were read from and what these ask for.
use Rattle.std.specs.Prelude.{◌≡◌, ℕ, List, Result, Ok}
use Rattle.ut_args.specs.declared.invocations.Inv.{Inv}
use Rattle.ut_args.specs.declared.invocations.Inv.TheVariants as inv
use Rattle.ut_args.specs.declared.commands.Command.{Command}
use Rattle.ut_args.specs.declared.commands.Command.TheVariants as command

-- the words that an invocation was read from
abbrev pub words_of : Inv → List (List ℕ)
words_of (inv.Cat one) = one.words
words_of (inv.Grep one) = one.words
words_of (inv.Tr one) = one.words
words_of (inv.Cut one) = one.words
words_of (inv.Head one) = one.words
words_of (inv.Tail one) = one.words
words_of (inv.Wc one) = one.words
words_of (inv.Uniq one) = one.words
words_of (inv.Sort one) = one.words
words_of (inv.Paste one) = one.words
words_of (inv.Tee one) = one.words
words_of (inv.True one) = one.words
words_of (inv.False one) = one.words
words_of (inv.Colon one) = one.words
words_of (inv.Break one) = one.words
words_of (inv.Continue one) = one.words
words_of (inv.Exit one) = one.words
words_of (inv.Set one) = one.words
words_of (inv.Shift one) = one.words
words_of (inv.Unset one) = one.words
words_of (inv.Read one) = one.words
words_of (inv.Test one) = one.words
words_of (inv.Bracket one) = one.words
words_of (inv.Echo one) = one.words

-- what they ask for
abbrev pub command_of : Inv → Command
command_of (inv.Cat one) = command.Cat one.args
command_of (inv.Grep one) = command.Grep one.args
command_of (inv.Tr one) = command.Tr one.args
command_of (inv.Cut one) = command.Cut one.args
command_of (inv.Head one) = command.Head one.args
command_of (inv.Tail one) = command.Tail one.args
command_of (inv.Wc one) = command.Wc one.args
command_of (inv.Uniq one) = command.Uniq one.args
command_of (inv.Sort one) = command.Sort one.args
command_of (inv.Paste one) = command.Paste one.args
command_of (inv.Tee one) = command.Tee one.args
command_of (inv.True one) = command.True
command_of (inv.False one) = command.False
command_of (inv.Colon one) = command.Colon
command_of (inv.Break one) = command.Break one.args
command_of (inv.Continue one) = command.Continue one.args
command_of (inv.Exit one) = command.Exit one.args
command_of (inv.Set one) = command.Set one.args
command_of (inv.Shift one) = command.Shift one.args
command_of (inv.Unset one) = command.Unset one.args
command_of (inv.Read one) = command.Read one.args
command_of (inv.Test one) = command.Test one.args
command_of (inv.Bracket one) = command.Bracket one.args
command_of (inv.Echo one) = command.Echo one.args
