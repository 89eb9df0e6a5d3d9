-- wc (XCU wc): of each input its newlines, words and bytes, or those that are asked for, and then its name; and behind two or more operands
-- the sums of all.
use Rattle.std.specs.Prelude.{ℕ, List, [], ◌∷◌, ◌++◌, false, get_or, codes, if◌then◌else◌}
use Rattle.std.specs.List.{filter, flat_map}
use Rattle.ps_lines.specs.declared.newlines.TheConstants.{NEWLINE}
use Rattle.ut_args.specs.declared.commands.WcArgs.{WcArgs}
use Rattle.ut_args.specs.Inputs.{is_named}
use Rattle.ut_args.specs.Utilities.{has_at_most_one}
use Rattle.ut_streams.specs.Utilities.{Input, Utility}
use Rattle.ut_groups.specs.declared.counting.Counts.{Counts}
use Rattle.ut_groups.specs.declared.columns.Columns.{Columns}
use Rattle.ut_groups.specs.Counting.{added, counts_of, no_counts}
use Rattle.ut_groups.specs.Columns.{behind_space, counts_line, counts_on, without_last}

abbrev pub columns_of : WcArgs → Columns
columns_of args = record { lines = args.lines; words = args.words; bytes = args.bytes }

-- the one line of an input with this name
abbrev pub wc_line : WcArgs → List ℕ → List ℕ → List ℕ
wc_line args name text = counts_line (columns_of args) (counts_of text) name

-- the sums of all inputs
abbrev pub counts_of_all : List Input → Counts
counts_of_all [] = no_counts
counts_of_all (input ∷ others) = added (counts_of input.text) (counts_of_all others)

abbrev pub total : WcArgs → List Input → List ℕ
total args inputs = if has_at_most_one args.operands then [] else counts_line (columns_of args) (counts_of_all inputs) (codes "total")

abbrev pub wc_output : WcArgs → List Input → List ℕ
wc_output args inputs = flat_map (λ input. wc_line args input.label input.text) inputs ++ total args inputs

-- the name of the one input of an invocation with at most one operand; standard input has none where it isn't an operand
abbrev pub name_in : List (List ℕ) → List ℕ
name_in operands = get_or (filter is_named operands) 0 []

-- a line of counts, with a name added
abbrev pub with_name : List ℕ → List ℕ → List ℕ
with_name name text = without_last text ++ (behind_space name ++ NEWLINE ∷ [])

-- the counts of parts are added up, column by column, and the name comes at last
abbrev pub wc : WcArgs → Utility
wc args = record {
  output = wc_output args;
  selects = λ inputs. false;
  part = wc_line args [];
  aggregate = λ first second. counts_line (columns_of args) (added (counts_on (columns_of args) first) (counts_on (columns_of args) second)) [];
  finish = with_name (name_in args.operands);
}
