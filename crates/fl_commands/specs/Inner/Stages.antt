-- The stage of a utility, and those of a pipeline.
use Rattle.std.specs.Prelude.{◌≡◌, ℕ, List, [], ◌∷◌, ◌++◌, Bool, false, ◌-◌, length, map, take, if◌then◌else◌}
use Rattle.std.specs.List.{list_any}
use Rattle.ps_world.specs.Paths.{Components}
use Rattle.ut_args.specs.Inputs.{emptied, operands_by, operands_of, remaining, with_operands}
use Rattle.ut_args.specs.Invocations.{command_of, words_of}
use Rattle.ut_args.specs.declared.commands.Command.{Command}
use Rattle.ut_args.specs.declared.commands.Command.TheVariants as command
use Rattle.ut_args.specs.declared.invocations.Inv.{Inv}
use Rattle.ut_streams.specs.Utilities.{Input}
use Rattle.fl_classes.specs.Utilities.{labelled}
use Rattle.fl_segments.specs.Chains.{text_in}
use Rattle.fl_segments.specs.Noted.{Noted}
use Rattle.fl_segments.specs.declared.stages.Does.TheVariants as does
use Rattle.fl_segments.specs.declared.stages.Out.TheVariants as out
use Rattle.fl_segments.specs.declared.stages.Stage.{Stage}
use Rattle.fl_commands.specs.Inputs.{noted_over}
use Rattle.fl_commands.specs.Operands.{deals, ins_of, lacks, without_input}
use Rattle.fl_commands.specs.declared.members.Member.{Member}
use Rattle.fl_commands.specs.declared.operands.Operand.{Operand}

-- an operand has no input
abbrev pub some_lacks : List Operand → Bool
some_lacks operands = list_any lacks operands

-- the status where no line that grep selects changes it
abbrev pub plain_status : Command → Bool → ℕ
plain_status (command.Grep args) some = if some then 2 else 0
plain_status (command.Sort args) some = if some then 2 else 0
plain_status other some = if some then 1 else 0

-- the inputs of a command, whose lines are dealt or not, with these operands, where the standard input and the files have these texts
abbrev pub inputs_with : Bool → List (List ℕ) → List Operand → List ℕ → (Components → List ℕ) → List Input
inputs_with deals texts operands stream files = labelled (remaining (without_input deals false operands) texts) (map (text_in stream files) (ins_of deals operands))

-- a command without its operands that have no input: the empty text, which names nothing, stands in their place
abbrev pub command_left : Command → List Operand → Command
command_left asked operands = with_operands (emptied (map lacks operands) (operands_by asked)) asked

-- what is noted of it: its words, with the empty text in place of operands without an input
abbrev pub words_left : List (List ℕ) → List (List ℕ) → List Operand → List (List ℕ)
words_left words texts operands = take (length words - length texts) words ++ emptied (map lacks operands) texts

abbrev pub run_noted : Inv → List Operand → List Noted
run_noted inv operands = noted_over (command_of inv) (words_left (words_of inv) (operands_of inv) operands) (length (ins_of (deals (command_of inv)) operands))

-- the stage of an invocation with these operands, which writes these files
pub record IsStageOf (inv : Inv) (operands : List Operand) (tees : List Components) (stage : Stage) : Type 0 where
  pub without : Inv
  pub asks : command_of without ≡ command_left (command_of inv) operands
  pub words : words_of without ≡ words_left (words_of inv) (operands_of inv) operands
  pub is : stage ≡ record {
    does = does.Util without;
    ins = ins_of (deals (command_of inv)) operands;
    out = out.Next;
    first = [];
    piped = [];
    status = plain_status (command_of inv) (some_lacks operands);
    reads = [];
    writes = [];
    tees = tees;
  }

-- the stages of the members of a pipeline
abbrev pub AreStagesOf : List Member → List Stage → Type 0
AreStagesOf [] [] = Unit {0}
AreStagesOf [] (stage ∷ stages) = ⊥
AreStagesOf (member ∷ members) [] = ⊥
AreStagesOf (member ∷ members) (stage ∷ stages) = IsStageOf member.inv member.operands.items member.tees.items stage × AreStagesOf members stages
