-- head (XCU head): the first lines of each input. Several operands are headed by the name of the input (own: standard input's), all but the
-- first behind a newline.
use Rattle.std.specs.Prelude.{ℕ, List, [], ◌∷◌, ◌++◌, Bool, true, false, codes, if◌then◌else◌}
use Rattle.std.specs.List.{flat_map}
use Rattle.ps_lines.specs.declared.newlines.TheConstants.{NEWLINE}
use Rattle.ut_args.specs.Inputs.{is_standard}
use Rattle.ut_args.specs.Utilities.{has_at_most_one}
use Rattle.ut_args.specs.declared.commands.HeadArgs.{HeadArgs}
use Rattle.ut_slices.specs.Ends.{first_lines}
use Rattle.ut_streams.specs.Utilities.{Input, Utility, each_by_itself}

-- what stands before an input's lines, where it is the first one or not
abbrev pub input_name : List ℕ → List ℕ
input_name label = if is_standard label then codes "standard input" else label

abbrev pub header : Bool → List ℕ → List ℕ
header is_first label = (if is_first then [] else NEWLINE ∷ []) ++ (codes "==> " ++ (input_name label ++ (codes " <==" ++ NEWLINE ∷ [])))

abbrev pub headed : Bool → ℕ → List Input → List ℕ
headed is_first count [] = []
headed is_first count (input ∷ others) = header is_first input.label ++ (first_lines count input.text ++ headed false count others)

-- the output for the inputs
abbrev pub head_output : HeadArgs → List Input → List ℕ
head_output args inputs =
    if has_at_most_one args.operands then flat_map (λ (input : Input). first_lines args.count input.text) inputs else headed true args.count inputs

-- the first lines of the whole are the first of the first lines of its parts
abbrev pub head : HeadArgs → Utility
head args = record (each_by_itself (first_lines args.count) (λ text. false)) {
  output = head_output args;
  aggregate = λ first second. first_lines args.count (first ++ second);
}
