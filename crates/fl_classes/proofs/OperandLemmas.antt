-- What an invocation writes and selects, and the names of its inputs, where some of its operands are the empty text.
use Rattle.std.proofs.Common.{◌≡◌, ℕ, Bool, true, false, not, map, get_or, List, [], ◌++◌, refl, ap, sym, subst, ◌∙◌, codes, if◌then◌else◌}
use Rattle.std.proofs.lemmas.Bool.{true≢false}
use Rattle.std.specs.List.{filter, flat_map, list_all}
use Rattle.ut_args.specs.Built.{is_built_by, is_built_of}
use Rattle.ut_args.specs.Inputs.{deals, emptied, is_named, operands_by, operands_of, remaining, with_operands}
use Rattle.ut_args.specs.Invocations.{command_of}
use Rattle.ut_args.specs.declared.commands.Command.{Command}
use Rattle.ut_args.specs.declared.commands.Command.TheVariants as command
use Rattle.ut_args.specs.declared.commands.PasteArgs.{PasteArgs}
use Rattle.ut_args.specs.declared.invocations.Inv.{Inv}
use Rattle.ut_args.proofs.OperandLemmas.{all-named, at_most_one-emptied, built-emptied, named-emptied, operands-emptied}
use Rattle.ut_streams.specs.Utilities.{Input, Utility}
use Rattle.ps_lines.specs.Lines.{lines}
use Rattle.ut_grep.specs.Grep.{grep}
use Rattle.ut_grep.specs.Output.{due_by}
use Rattle.ut_grep.specs.Patterns.{first_number, head_by, is_selected, name_of}
use Rattle.ut_groups.specs.Columns.{counts_line}
use Rattle.ut_groups.specs.Wc.{columns_of, counts_of_all, name_in, wc, wc_line, with_name}
use Rattle.ut_slices.specs.Ends.{first_lines}
use Rattle.ut_slices.specs.Head.{head, headed}
use Rattle.ut_slices.specs.Paste.{column_inputs, paste, row, side_by_side}
use Rattle.fl_classes.specs.Utilities.{names_of, silent, utility_by, utility_of}

-- all of a utility but its map and its finish
abbrev pub apart_from_own : Utility → Utility → Utility
apart_from_own utility other = record utility { part = other.part; finish = other.finish }

module _ (flags : List Bool) where
  -- a paste with these columns
  abbrev with_columns : PasteArgs → Bool → List ℕ → Utility
  with_columns args serial columns = record (paste args) {
    output = λ inputs. if serial then flat_map (λ text. row args.delimiters (lines text)) (map (λ (input : Input). input.text) inputs)
        else side_by_side args.delimiters columns (λ input. get_or (map (λ (input : Input). input.text) inputs) input []);
    part = (paste (record args { operands = emptied flags args.operands })).part;
  }

  -- a utility hangs on the number of its operands alone: what these name are its inputs. The finish of wc names its operand, and the map of
  -- grep too. The operands of a paste without -s are its columns, and have to stay
  pub utility-emptied : (asked : Command) → (deals asked ≡ true → emptied flags (operands_by asked) ≡ operands_by asked)
      → utility_by (with_operands (emptied flags (operands_by asked)) asked)
      ≡ apart_from_own (utility_by asked) (utility_by (with_operands (emptied flags (operands_by asked)) asked))
  utility-emptied (command.Cat args) stay = refl
  utility-emptied (command.Grep args) stay =
      ap (λ alone. record (grep args) {
        output = λ inputs. flat_map (λ input. due_by args.report (is_selected args) (head_by args.report alone (name_of input.label)) (first_number args) 0 false (lines input.text)) inputs;
        part = (grep (record args { operands = emptied flags args.operands })).part;
      }) (at_most_one-emptied flags args.operands)
  utility-emptied (command.Cut args) stay = refl
  utility-emptied (command.Head args) stay =
      ap (λ one. record (head args) {
        output = λ inputs. if one then flat_map (λ (input : Input). first_lines args.count input.text) inputs else headed true args.count inputs;
      }) (at_most_one-emptied flags args.operands)
  utility-emptied (command.Tail args) stay = refl
  utility-emptied (command.Wc args) stay =
      ap (λ one. record (wc args) {
        output = λ inputs. flat_map (λ input. wc_line args input.label input.text) inputs ++ (if one then [] else counts_line (columns_of args) (counts_of_all inputs) (codes "total"));
        finish = with_name (name_in (emptied flags args.operands));
      }) (at_most_one-emptied flags args.operands)
  utility-emptied (command.Uniq args) stay = refl
  utility-emptied (command.Sort args) stay = refl
  utility-emptied (command.Paste args) stay = by_form args.serial (column_inputs (emptied flags args.operands)) (λ side. ap column_inputs (stay (ap not side)))
    where
      by_form : (serial : Bool) (columns : List ℕ) → (serial ≡ false → columns ≡ column_inputs args.operands) → with_columns args serial columns ≡ with_columns args serial (column_inputs args.operands)
      by_form true columns same = refl
      by_form false columns same = ap (with_columns args false) (same refl)
  utility-emptied other stay = refl

  pub output-emptied : (asked : Command) (inputs : List Input) → (deals asked ≡ true → emptied flags (operands_by asked) ≡ operands_by asked)
      → (utility_by (with_operands (emptied flags (operands_by asked)) asked)).output inputs ≡ (utility_by asked).output inputs
  output-emptied asked inputs stay = ap (λ utility. utility.output inputs) (utility-emptied asked stay)

  pub selects-emptied : (asked : Command) (inputs : List Input)
      → (utility_by (with_operands (emptied flags (operands_by asked)) asked)).selects inputs ≡ (utility_by asked).selects inputs
  selects-emptied (command.Cat args) inputs = refl
  selects-emptied (command.Grep args) inputs = refl
  selects-emptied (command.Cut args) inputs = refl
  selects-emptied (command.Head args) inputs = refl
  selects-emptied (command.Tail args) inputs = refl
  selects-emptied (command.Wc args) inputs = refl
  selects-emptied (command.Uniq args) inputs = refl
  selects-emptied (command.Sort args) inputs = refl
  selects-emptied (command.Paste args) inputs = refl
  selects-emptied other inputs = refl

-- an invocation, and the one without some of its operands
module _ (one other : Inv) (flags : List Bool) (is : command_of other ≡ with_operands (emptied flags (operands_of one)) (command_of one)) where
  pub operands-without : operands_of other ≡ emptied flags (operands_of one)
  operands-without = ap operands_by is ∙ operands-emptied flags (command_of one)

  pub names-without : names_of other ≡ filter is_named (remaining flags (operands_of one))
  names-without = ap (filter is_named) operands-without ∙ named-emptied flags (operands_of one)

  -- where each operand that is left names an input
  pub names-left : list_all is_named (remaining flags (operands_of one)) ≡ true → names_of other ≡ remaining flags (operands_of one)
  names-left named = names-without ∙ all-named (remaining flags (operands_of one)) named

  pub built-without : is_built_of other ≡ is_built_of one
  built-without = ap is_built_by is ∙ built-emptied flags (command_of one)

  pub utility-without : (deals (command_of one) ≡ true → emptied flags (operands_of one) ≡ operands_of one) → utility_of other ≡ apart_from_own (utility_of one) (utility_of other)
  utility-without stay = by_built (is_built_of one) (is_built_of other) built-without
    where
      -- that of another command is the same but for its finish
      told : utility_by (command_of other) ≡ apart_from_own (utility_by (command_of one)) (utility_by (command_of other))
      told = subst (λ asked. utility_by asked ≡ apart_from_own (utility_by (command_of one)) (utility_by asked)) (sym is) (utility-emptied flags (command_of one) stay)

      by_built : (built built' : Bool) → built' ≡ built
          → (if built' then utility_by (command_of other) else silent)
          ≡ apart_from_own (if built then utility_by (command_of one) else silent) (if built' then utility_by (command_of other) else silent)
      by_built true true same = told
      by_built false false same = refl
      by_built true false same = absurd (true≢false (sym same))
      by_built false true same = absurd (true≢false same)

pub ruleset operand_laws = (output-emptied, selects-emptied, names-without, utility-without)
