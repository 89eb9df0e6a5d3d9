-- What the code's values stand for: steps, expansions and the parts that are built.
use Rattle.std.specs.Prelude.{ℕ, Bool, true, false, List, [], ◌∷◌, map}
use Rattle.std.specs.declared.option.Option.{Option}
use Rattle.std.specs.declared.option.Option.TheVariants.{None, Some}
use Rattle.std.specs.Option.{option_map}
use Rattle.sh_tree.specs.Trees.{WordTree, part, PartTree, plain, quoted, parameter, substitution, arithmetic}
use Rattle.sh_tree.specs.Views.{parts_onto, part_tree, parts_tree}
use Rattle.sh_tree.specs.declared.words.Part.{Part}
use Rattle.sh_words.specs.Pieces.{before, literal}
use Rattle.sh_words.specs.Words.{Outcome, done, Made, made}
use Rattle.sh_words.specs.declared.steps.Mode.{Mode}
use Rattle.sh_words.specs.declared.steps.Mode.TheVariants as mode
use Rattle.sh_words.specs.declared.building.Building.{Building}
use Rattle.sh_words.specs.declared.reading.Reading.{Reading}
use Rattle.sh_words.specs.declared.reading.Made as declared_made
use Rattle.sh_words.specs.Steps.{Step, ends, passes, gives, expands}
use Rattle.sh_words.specs.Parameters.{Expansion, whole, with_word, commands, arithmetic_text, no_form}
use Rattle.sh_words.specs.declared.steps.Step as declared_step
use Rattle.sh_words.specs.declared.steps.Step.TheVariants as step_is
use Rattle.sh_words.specs.declared.expansions.Expansion as declared_expansion
use Rattle.sh_words.specs.declared.expansions.Expansion.TheVariants as expansion_is

-- the step of the code
abbrev pub step_of : declared_step.Step → Step
step_of (step_is.Ends rest) = ends rest.now
step_of (step_is.Passes next rest) = passes next rest.now
step_of (step_is.Byte is_quoted byte next rest) = gives (literal is_quoted (byte ∷ [])) next rest.now
step_of (step_is.Empty next rest) = gives (quoted []) next rest.now
step_of (step_is.Expands is_quoted left rest) = expands is_quoted left rest.now

-- the expansion that the code has found
abbrev pub expansion_of : declared_expansion.Expansion → Expansion
expansion_of (expansion_is.Whole what measured rest) = whole what measured rest.now
expansion_of (expansion_is.WithWord what by rest) = with_word what by rest.now
expansion_of (expansion_is.Commands rest) = commands rest.now
expansion_of (expansion_is.Arithmetic rest) = arithmetic_text rest.now
expansion_of expansion_is.NoForm = no_form

-- the parts of a list in front of `more`
abbrev pub trees_onto : List Part → WordTree → WordTree
trees_onto parts more = parts_onto (map part_tree parts) more

-- bytes that aren't a part yet, with whether they are quoted, in front of `more`
abbrev pub run_onto : Option Bool → List ℕ → WordTree → WordTree
run_onto None bytes more = more
run_onto (Some is_quoted) bytes more = before (literal is_quoted bytes) more

-- all that is built, in front of `more`
abbrev pub built : Building → WordTree → WordTree
built building more = trees_onto building.parts.items (run_onto building.run building.bytes.items more)

-- how many parentheses are open
abbrev pub open_in : Mode → ℕ
open_in (mode.Word of) = 0
open_in (mode.DoubleQuotes of) = 0
open_in (mode.SingleQuotes of) = 0
open_in (mode.Arithmetic depth) = depth

-- a text that is read
abbrev pub done_of : Reading → Outcome
done_of read = done (parts_tree read.parts.items) read.fault read.number read.rest.now

-- an expansion that is read
abbrev pub made_of : declared_made.Made → Made
made_of found = made (option_map part_tree found.part) found.fault found.number found.rest.now

-- an expansion, and no bytes
abbrev pub is_expansion : PartTree → Bool
is_expansion (plain bytes) = false
is_expansion (quoted bytes) = false
is_expansion (parameter what form is_quoted) = true
is_expansion (substitution number is_quoted) = true
is_expansion (arithmetic word is_quoted) = true

abbrev pub is_found : Option PartTree → Bool
is_found None = true
is_found (Some piece) = is_expansion piece

-- all that is built, the bytes at the end as a part of their own, in front of `more`
abbrev pub run_ended : Option Bool → List ℕ → WordTree → WordTree
run_ended None bytes more = more
run_ended (Some is_quoted) bytes more = part (literal is_quoted bytes) more

abbrev pub ended : Building → WordTree → WordTree
ended building more = trees_onto building.parts.items (run_ended building.run building.bytes.items more)
