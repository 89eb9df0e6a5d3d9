-- The members of a pipeline (XCU 2.9.2): utilities with what their operands name, each of which reads the output of the one before.
use Rattle.std.specs.Prelude.{◌≡◌, ℕ, ◌+◌, ◌<◌, ◌^◌, length, map, List, [], ◌∷◌, ◌++◌, Bool, true, false}
use Rattle.std.specs.List.{filter_map, flat_map, list_any}
use Rattle.ps_world.specs.Files.{Files}
use Rattle.ps_world.specs.Paths.{Components}
use Rattle.ut_args.specs.Built.{is_built_of}
use Rattle.ut_args.specs.Inputs.{operands_of}
use Rattle.ut_args.specs.Invocations.{command_of}
use Rattle.ut_streams.specs.Utilities.{Input}
use Rattle.fl_segments.specs.Noted.{Noted}
use Rattle.fl_segments.specs.Stages.{file_in, is_stream}
use Rattle.fl_commands.specs.Inner.Stages.{command_left, inputs_with, some_lacks, run_noted}
use Rattle.fl_commands.specs.Inputs.{output_for, selects_for, status_of, text_taken}
use Rattle.fl_commands.specs.Operands.{AllStand, AreNamed, deals, ins_of}
use Rattle.fl_commands.specs.Writers.{MayWrite}
use Rattle.fl_commands.specs.declared.members.Member.{Member}

-- a member that can be run: it is built, these are what its operands name, and it writes no files or is tee
pub record CanRun (member : Member) : Type 0 where
  pub built : is_built_of member.inv ≡ true
  pub named : AreNamed (operands_of member.inv) member.operands.items
  pub few : length member.operands.items + 1 < 2 ^ 32
  pub tees : MayWrite member.inv member.tees.items

abbrev pub AllCanRun : List Member → Type 0
AllCanRun [] = Unit {0}
AllCanRun (first ∷ rest) = CanRun first × AllCanRun rest

-- what their operands name stands there
abbrev pub AllNamesStand : Files → List Member → Type 0
AllNamesStand files [] = Unit {0}
AllNamesStand files (first ∷ rest) = AllStand files first.operands.items × AllNamesStand files rest

-- the files that members read, and those that tee writes
abbrev pub files_named : List Member → List Components
files_named members = flat_map (λ member. filter_map file_in (ins_of (deals (command_of member.inv)) member.operands.items)) members

abbrev pub files_teed : List Member → List Components
files_teed members = flat_map (λ member. member.tees.items) members

-- the texts that a member reads of this stream and of the files
abbrev pub member_inputs : Member → (Components → List ℕ) → List ℕ → List Input
member_inputs member files stream = inputs_with (deals (command_of member.inv)) (operands_of member.inv) member.operands.items stream files

abbrev pub member_output : Member → (Components → List ℕ) → List ℕ → List ℕ
member_output member files stream = output_for (command_left (command_of member.inv) member.operands.items) (member_inputs member files stream)

abbrev pub member_status : Member → (Components → List ℕ) → List ℕ → ℕ
member_status member files stream =
    status_of (command_of member.inv) (some_lacks member.operands.items) (selects_for (command_left (command_of member.inv) member.operands.items) (member_inputs member files stream))

-- what the last writes, where the first reads this stream
abbrev pub output_through : List Member → (Components → List ℕ) → List ℕ → List ℕ
output_through [] files stream = stream
output_through (first ∷ rest) files stream = output_through rest files (member_output first files stream)

-- what the files of tee get, in their order
abbrev pub member_texts : Member → (Components → List ℕ) → List ℕ → List (List ℕ)
member_texts member files stream = map (λ path. text_taken (member_inputs member files stream)) member.tees.items

abbrev pub texts_through : List Member → (Components → List ℕ) → List ℕ → List (List ℕ)
texts_through [] files stream = []
texts_through (first ∷ rest) files stream = member_texts first files stream ++ texts_through rest files (member_output first files stream)

-- the status of the last (XCU 2.9.2)
abbrev pub status_through : List Member → (Components → List ℕ) → List ℕ → ℕ
status_through [] files stream = 0
status_through (last ∷ []) files stream = member_status last files stream
status_through (first ∷ next ∷ rest) files stream = status_through (next ∷ rest) files (member_output first files stream)

-- the first reads the stream that the pipeline begins with
abbrev pub reads_first : List Member → Bool
reads_first [] = false
reads_first (first ∷ rest) = list_any is_stream (ins_of (deals (command_of first.inv)) first.operands.items)

-- what is noted of all, in their order
abbrev pub noted_of : List Member → List Noted
noted_of members = flat_map (λ member. run_noted member.inv member.operands.items) members
