-- What a utility makes of its inputs (XCU, each utility's page).
use Rattle.std.specs.Prelude.{ℕ, List, [], ◌∷◌, Bool, true, false, not, ◌&&◌, ◌||◌, ◌==◌, map, if◌then◌else◌}
use Rattle.std.specs.List.{flat_map}
use Rattle.ut_args.specs.Classes.{class_by}
use Rattle.ut_args.specs.declared.commands.Command.{Command}
use Rattle.ut_args.specs.declared.commands.Command.TheVariants as command
use Rattle.ut_streams.specs.Utilities.{Input}
use Rattle.fl_classes.specs.Utilities.{utility_by}
use Rattle.fl_segments.specs.Chains.{joined_text, reports_nothing}
use Rattle.fl_segments.specs.Noted.{Noted, noted_as}
use Rattle.fl_segments.specs.Stages.{closes_by, joins_by, may_spread}

-- some commands read their inputs joined; the name of a joined input says nothing
abbrev pub joined_inputs : Bool → List Input → List Input
joined_inputs closes [] = []
joined_inputs closes (first ∷ rest) = record { label = first.label; text = joined_text closes (map (λ input. input.text) (first ∷ rest)) } ∷ []

abbrev pub inputs_read : Command → List Input → List Input
inputs_read asked inputs = if joins_by asked then joined_inputs (closes_by asked) inputs else inputs

-- what a command writes for its inputs, and whether it selects something in them
abbrev pub output_for : Command → List Input → List ℕ
output_for asked inputs = (utility_by asked).output (inputs_read asked inputs)

abbrev pub selects_for : Command → List Input → Bool
selects_for asked inputs = (utility_by asked).selects (inputs_read asked inputs)

-- all that it reads: the files of tee get it (XCU tee)
abbrev pub text_taken : List Input → List ℕ
text_taken inputs = flat_map (λ input. input.text) inputs

-- the status, by whether an operand has no input, and whether a line is selected (XCU grep, sort)
abbrev pub status_of : Command → Bool → Bool → ℕ
status_of (command.Grep args) lacks true = if lacks && not (reports_nothing args.report) then 2 else 0
status_of (command.Grep args) lacks false = if lacks then 2 else 1
status_of (command.Sort args) lacks selected = if lacks then 2 else 0
status_of other lacks selected = if lacks then 1 else 0

-- a command that reads one input, its inputs joined or the only one, is spread where its class lets that be cut
abbrev pub spreads_over : Command → ℕ → Bool
spreads_over asked count = (joins_by asked || (count == 1)) && may_spread (class_by asked)

-- what is noted of a command of these words that ran over so many inputs (own): nothing of cat, nor where there is none
abbrev pub calls_cat : Command → Bool
calls_cat (command.Cat args) = true
calls_cat other = false

abbrev pub noted_over : Command → List (List ℕ) → ℕ → List Noted
noted_over asked words count = if calls_cat asked || (count == 0) then [] else noted_as words (spreads_over asked count) ∷ []
