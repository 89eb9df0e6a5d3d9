-- grep (XCU grep) over whole inputs: what is written for them in their order, and how the work on the parts of one input is put together (own).
use Rattle.std.specs.Prelude.{ℕ, ◌+◌, ◌-◌, List, [], ◌++◌, get_or, length, take}
use Rattle.std.specs.List.{filter, flat_map, list_any}
use Rattle.std.specs.Option.{unwrap_or}
use Rattle.ps_lines.specs.Numbers.{number_of}
use Rattle.ut_args.specs.Inputs.{is_named}
use Rattle.ut_args.specs.declared.commands.GrepArgs.{GrepArgs}
use Rattle.ut_args.specs.declared.commands.Report.{Report}
use Rattle.ut_args.specs.declared.commands.Report.TheVariants as report
use Rattle.ut_streams.specs.Utilities.{Utility}
use Rattle.ut_grep.specs.Output.{count_shown}
use Rattle.ut_grep.specs.Patterns.{selects, written}

-- the operand that names the one input of an invocation with at most one operand; where none does, it is empty
abbrev pub label_in : List (List ℕ) → List ℕ
label_in operands = get_or (filter is_named operands) 0 []

-- the count on a line of its own
abbrev pub count_on : List ℕ → ℕ
count_on text = unwrap_or (number_of (take (length text - 1) text)) 0

-- the counts of parts are added up, and the lines of parts stand one behind the other
abbrev pub joined_by : Report → List ℕ → List ℕ → List ℕ
joined_by report.Lines first second = first ++ second
joined_by report.Count first second = count_shown [] (count_on first + count_on second)
joined_by report.Path first second = first ++ second
joined_by report.Nothing first second = first ++ second

abbrev pub grep : GrepArgs → Utility
grep args = record {
  output = λ inputs. flat_map (λ input. written args input.label input.text) inputs;
  selects = λ inputs. list_any (λ input. selects args input.text) inputs;
  part = written args (label_in args.operands);
  aggregate = joined_by args.report;
  finish = λ text. text;
}
