-- What an invocation writes for the texts of its inputs, and what is selected (XCU, each utility's page): by the definition of its utility,
-- which stands in the utility's own crate, over its own record.
use Rattle.std.specs.Prelude.{ℕ, List, [], Bool, false, if◌then◌else◌}
use Rattle.std.specs.List.{filter}
use Rattle.ut_args.specs.Built.{is_built_of}
use Rattle.ut_args.specs.Inputs.{is_named, operands_of}
use Rattle.ut_args.specs.Invocations.{command_of}
use Rattle.ut_args.specs.declared.commands.Command.{Command}
use Rattle.ut_args.specs.declared.commands.Command.TheVariants as command
use Rattle.ut_args.specs.declared.invocations.Inv.{Inv}
use Rattle.ut_streams.specs.Utilities.{Utility, cat, each_by_itself}
pub use Rattle.ut_streams.specs.Utilities.{labelled}
use Rattle.ut_grep.specs.Grep.{grep}
use Rattle.ut_bytes.specs.Tr.{tr}
use Rattle.ut_slices.specs.Cut.{cut}
use Rattle.ut_slices.specs.Head.{head}
use Rattle.ut_slices.specs.Paste.{paste}
use Rattle.ut_slices.specs.Tail.{tail}
use Rattle.ut_groups.specs.Uniq.{uniq}
use Rattle.ut_groups.specs.Wc.{wc}
use Rattle.ut_sort.specs.Sort.{sort}

-- one that writes nothing
abbrev pub silent : Utility
silent = each_by_itself (λ text. []) (λ text. false)

-- the utility of a command; one line for each that has a stream
abbrev pub utility_by : Command → Utility
utility_by (command.Cat args) = cat
utility_by (command.Grep args) = grep args
utility_by (command.Tr args) = tr args
utility_by (command.Cut args) = cut args
utility_by (command.Head args) = head args
utility_by (command.Tail args) = tail args
utility_by (command.Wc args) = wc args
utility_by (command.Uniq args) = uniq args
utility_by (command.Sort args) = sort args
utility_by (command.Paste args) = paste args
utility_by (command.Tee args) = cat
utility_by other = silent

-- that of an invocation; one that isn't built writes nothing
abbrev pub utility_of : Inv → Utility
utility_of inv = if is_built_of inv then utility_by (command_of inv) else silent

-- the names of an invocation's inputs: its operands that name one. Standard input has no name where it is read without an operand, and the
-- one input of a command whose operands are joined before has a name that says nothing
abbrev pub names_of : Inv → List (List ℕ)
names_of inv = filter is_named (operands_of inv)

-- the output of an invocation for the texts of its inputs
abbrev pub output_of : Inv → List (List ℕ) → List ℕ
output_of inv texts = (utility_of inv).output (labelled (names_of inv) texts)

-- something in them is selected
abbrev pub selects_of : Inv → List (List ℕ) → Bool
selects_of inv texts = (utility_of inv).selects (labelled (names_of inv) texts)
