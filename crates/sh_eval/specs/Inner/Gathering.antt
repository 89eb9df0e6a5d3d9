-- Utilities of a pipeline that are gathered to run as one, for the functions that do so (own).
use Rattle.std.specs.Prelude.{◌≡◌, ◌≤◌, ◌<◌, ℕ, List, [], ◌∷◌, ◌++◌, ◌&&◌, true, false, length, map, take, None, Some, IfSome, Ok}
use Rattle.std.specs.List.{flat_map, list_any}
use Rattle.ps_world.specs.Files.{Files}
use Rattle.ps_world.specs.Paths.{Components}
use Rattle.ps_world.specs.TreeState.{TreeState}
use Rattle.ut_args.specs.Built.{is_built_of}
use Rattle.ut_args.specs.Inputs.{operands_by, operands_of}
use Rattle.ut_args.specs.Invocations.{command_of, words_of}
use Rattle.ut_args.specs.Reading.{invocation}
use Rattle.ut_args.specs.declared.invocations.Inv.{Inv}
use Rattle.fl_segments.specs.Stages.{is_tee}
use Rattle.fl_segments.specs.declared.chains.TheConstants.{MAX_STAGES}
use Rattle.fl_commands.specs.Inner.Stages.{some_lacks}
use Rattle.fl_commands.specs.Members.{AllCanRun, AllNamesStand, files_teed}
use Rattle.fl_commands.specs.declared.members.Member.{Member}
use Rattle.sh_arith.specs.Variables.{Variables}
use Rattle.sh_tree.specs.Trees.{CommandTree, CommandTrees, WordTree, no_command, command}
use Rattle.sh_tree.specs.Views.{stages_tree}
use Rattle.sh_tree.specs.declared.commands.Command.{Command}
use Rattle.sh_expand.specs.Outcomes.{AreExpansions, Expansions, told_fields}
use Rattle.sh_eval.specs.Expanding.{given_by}
use Rattle.sh_eval.specs.declared.gathering.Segment.{Segment}
use Rattle.sh_eval.specs.declared.shell.Shell.{Shell}
use Rattle.sh_eval.specs.declared.streams.Held.{Held}
use Rattle.sh_eval.specs.declared.streams.Streams.{Streams}
use Rattle.sh_eval.specs.Inner.Inputs.{IsLooked, called_by}
use Rattle.sh_eval.specs.Meaning.{command_means}
use Rattle.sh_eval.specs.Segments.{is_plain_place, lines_for, member_means, no_pipe}
use Rattle.sh_eval.specs.Shells.{inside}
use Rattle.sh_eval.specs.States.{State, Ends, in_session, in_shell}
use Rattle.sh_eval.specs.Redirections.{first_busy}
use Rattle.sh_eval.specs.Simple.{most_operands}
use Rattle.sh_eval.specs.Table.{pages, patterns_of}
use Rattle.sh_eval.specs.Utilities.{Called, Pages, has_none, needs_all, read, read_use}

-- a utility that does something
pub record IsPlain (state : State) (member : Called) : Type 0 where
  pub is_whole : (needs_all member.command && list_any (has_none state) (operands_by member.command)) ≡ false

abbrev pub AllPlain : State → List Called → Type 0
AllPlain state [] = Unit {0}
AllPlain state (member ∷ rest) = IsPlain state member × AllPlain state rest

-- nothing is left in the pipe
abbrev pub emptied : Ends → Ends
emptied left = record { flow = left.flow; state = in_session no_pipe left.state }

module _ (expansions : Expansions) (pages : Pages) (files : Files) (home : Components) (held : List Held) (shell : Shell) where
  -- the command of a stage runs the utility, but that it may change variables of its own before
  pub record IsMember (tree : CommandTree) (member : Called) : Type 0 where
    pub changes : Shell → Shell
    pub is : (inner : State) → inner.world.files ≡ files → inner.world.home ≡ home → inner.session.streams.held ≡ held → inner.shell ≡ inside shell
        → command_means expansions pages tree inner ≡ member_means pages member (in_shell changes inner)

  abbrev pub AreMembers : CommandTrees → List Called → Type 0
  AreMembers no_command [] = Unit {0}
  AreMembers no_command (member ∷ rest) = ⊥
  AreMembers (command tree trees) [] = ⊥
  AreMembers (command tree trees) (member ∷ rest) = IsMember tree member × AreMembers trees rest

-- the members of a pipeline, as they are called
abbrev pub calls_of : List Member → List Called
calls_of members = map (λ (member : Member). called_by member.inv) members

-- their operands are what they name in the tree
abbrev pub AllLooked : TreeState → List Member → Type 0
AllLooked tree [] = Unit {0}
AllLooked tree (first ∷ rest) = IsLooked tree (operands_of first.inv) first.operands.items × AllLooked tree rest

-- what each member says of the stage that it stands for, where a tree tells its files
abbrev pub StandFor : CommandTrees → List Member → Shell → List Held → TreeState → Type 0
StandFor trees members shell held tree =
    (expansions : Expansions) → AreExpansions expansions → (files : Files) → tree.held ≡ Some files → AreMembers expansions pages files tree.home held shell trees (calls_of members)

-- the members are plain, and their lines are these
abbrev pub AreTold : List Member → List ℕ → TreeState → Type 0
AreTold members lines tree =
    (state : State) → tree.held ≡ Some state.world.files → tree.home ≡ state.world.home → AllPlain state (calls_of members) × (lines ≡ flat_map (lines_for state) (calls_of members))

-- members stand for stages, and these are their lines
pub record AreGathered (trees : CommandTrees) (shell : Shell) (held : List Held) (tree : TreeState) (members : List Member) (lines : List ℕ) : Type 0 where
  pub ready : AllCanRun members
  pub teeless : files_teed members ≡ []
  pub there : IfSome tree.held (λ files. AllNamesStand files members)
  pub looked : AllLooked tree members
  pub stand : StandFor trees members shell held tree
  pub told : AreTold members lines tree

-- one stage more is gathered
pub record AddsStage (tree : CommandTree) (shell : Shell) (held : List Held) (state : TreeState) (old new : Segment) : Type 0 where
  pub member : Member
  pub lines : List ℕ
  pub members_are : new.members.items ≡ old.members.items ++ member ∷ []
  pub lines_are : new.lines.items ≡ old.lines.items ++ lines
  pub gathered : AreGathered (command tree no_command) shell held state (member ∷ []) lines

-- stages are gathered from the first on: their members can run as one, and mean what these stages mean
pub record IsFront (stages : List Command) (shell : Shell) (held : List Held) (tree : TreeState) (segment : Segment) : Type 0 where
  pub within : length segment.members.items ≤ length stages
  pub most : length segment.members.items ≤ MAX_STAGES
  pub gathered : AreGathered (stages_tree (take (length segment.members.items) stages)) shell held tree segment.members.items segment.lines.items

-- a segment that can run: its members can as one, and its lines are theirs, which change no file and no pipe
pub record IsRunnable (segment : Segment) (streams : Streams) (tree : TreeState) : Type 0 where
  pub some : 1 ≤ length segment.members.items
  pub most : length segment.members.items ≤ MAX_STAGES
  pub ready : AllCanRun segment.members.items
  pub teeless : files_teed segment.members.items ≡ []
  pub there : IfSome tree.held (λ files. AllNamesStand files segment.members.items)
  pub looked : AllLooked tree segment.members.items
  pub told : AreTold segment.members.items segment.lines.items tree
  pub plain : is_plain_place streams.errors_to ≡ true

-- and they are several, whose lines change no file and no pipe
pub record GathersFront (stages : List Command) (shell : Shell) (streams : Streams) (tree : TreeState) (segment : Segment) : Type 0 where
  pub plain : is_plain_place streams.errors_to ≡ true
  pub several : 2 ≤ length segment.members.items
  pub front : IsFront stages shell streams.held tree segment

-- WORDS that ask for a utility. They have these fields, where a tree tells its files
abbrev pub GiveFields : List WordTree → Shell → TreeState → List (List ℕ) → Type 0
GiveFields words shell tree fields =
    (expansions : Expansions) → AreExpansions expansions → (files : Files) → tree.held ≡ Some files
    → (variables : Variables) × (told_fields (expansions.fields files tree.home (given_by shell) shell.variables words) ≡ (Ok fields, variables))

-- the fields are the words of an invocation
pub record IsRead (fields : List (List ℕ)) (inv : Inv) : Type 0 where
  pub named : 0 < length fields
  pub words : words_of inv ≡ fields
  pub command : invocation fields ≡ Ok (command_of inv)

pub record IsAskedBy (words : List WordTree) (shell : Shell) (tree : TreeState) (inv : Inv) : Type 0 where
  pub fields : GiveFields words (inside shell) tree (words_of inv)
  pub read : IsRead (words_of inv) inv

-- a utility that runs, whatever its operands name, and writes no files
pub record CanBeMember (inv : Inv) : Type 0 where
  pub built : is_built_of inv ≡ true
  pub no_tee : is_tee inv ≡ false
  pub few : length (operands_of inv) ≤ most_operands
  pub patterns : patterns_of (command_of inv) ≡ read

-- no path that it reads is busy
abbrev pub IsFree : Inv → List Held → TreeState → Type 0
IsFree inv held tree =
    (state : State) → tree.held ≡ Some state.world.files → tree.home ≡ state.world.home → first_busy held (flat_map (read_use state) (operands_of inv)) ≡ None

-- words ask for a member
pub record IsFound (words : List WordTree) (shell : Shell) (held : List Held) (tree : TreeState) (member : Member) : Type 0 where
  pub asked : IsAskedBy words shell tree member.inv
  pub can : CanBeMember member.inv
  pub looked : IsLooked tree (operands_of member.inv) member.operands.items
  pub whole : (needs_all (command_of member.inv) && some_lacks member.operands.items) ≡ false
  pub free : IsFree member.inv held tree
  pub teeless : member.tees.items ≡ []
