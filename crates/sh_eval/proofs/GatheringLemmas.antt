-- Stages that are gathered: what each asks for, and what all of them do.
use Rattle.std.proofs.Common.{◌≡◌, ◌≤◌, ◌<◌, ◌+◌, ℕ, List, [], ◌∷◌, ◌++◌, map, Bool, true, false, ◌&&◌, nat_lt, length, drop, get_or, take, Option, Some, None, IfSome, Ok, refl, sym, ap, ◌∙◌, subst, append-nil, append_assoc, length-append, add-one, arith, if◌then◌else◌}
use Rattle.std.proofs.Math.Seq.{drop-cons}
use Rattle.std.proofs.Math.ListN.{drop_of_length-le}
use Rattle.std.proofs.lemmas.Bool.{cond-true, le-ltb}
use Rattle.std.proofs.lemmas.List.{get_or-take, length-take-le}
use Rattle.std.specs.List.{flat_map}
use Rattle.ps_world.specs.Files.{Files}
use Rattle.ps_world.specs.TreeState.{TreeState}
use Rattle.ut_args.specs.Built.{is_built_of}
use Rattle.ut_args.specs.Inputs.{files_of, operands_of}
use Rattle.ut_args.specs.Invocations.{command_of, words_of}
use Rattle.ut_args.specs.Reading.{invocation}
use Rattle.ut_args.specs.declared.commands.Command.{Command as Invoked}
use Rattle.ut_args.specs.declared.invocations.Inv.{Inv}
use Rattle.ps_world.specs.Paths.{Components}
use Rattle.fl_commands.specs.Inner.Stages.{some_lacks}
use Rattle.fl_commands.specs.Members.{AllNamesStand, files_teed}
use Rattle.fl_commands.specs.Writers.{MayWrite}
use Rattle.fl_commands.specs.Operands.{AllStand}
use Rattle.fl_commands.specs.declared.members.Member.{Member}
use Rattle.fl_segments.specs.declared.chains.TheConstants.{MAX_STAGES}
use Rattle.sh_arith.specs.Variables.{Variables}
use Rattle.sh_tree.specs.Trees.{CommandTree, CommandTrees, WordTree, command, no_command, no_sub, simple, simple_command}
use Rattle.sh_tree.specs.Views.{command_tree, stages_tree}
use Rattle.sh_tree.specs.declared.commands.Command.{Command}
use Rattle.sh_expand.specs.Outcomes.{Answer, AreExpansions, Expansions, told_fields}
use Rattle.sh_eval.specs.declared.shell.Shell.{Shell}
use Rattle.sh_eval.specs.declared.gathering.Segment.{Segment}
use Rattle.sh_eval.specs.declared.streams.Held.{Held}
use Rattle.sh_eval.specs.Asking.{Asked, asked_as, asked_by, does, utility}
use Rattle.sh_eval.specs.Commands.{none_substituted}
use Rattle.sh_eval.specs.Expanding.{given_by, goes_on_with, with_targets}
use Rattle.sh_eval.specs.Inner.Gathering.{AddsStage, AreGathered, CanBeMember, IsFound, IsFront, IsMember, IsPlain}
use Rattle.sh_eval.specs.Inner.Inputs.{called_by, lines_by}
use Rattle.sh_eval.specs.Redirections.{Use, first_busy, unless_busy}
use Rattle.sh_eval.specs.Segments.{is_plain_place, lines_for, name_of}
use Rattle.sh_eval.specs.Shells.{inside, with_env}
use Rattle.sh_eval.specs.Simple.{by_patterns, checked, done, most_operands}
use Rattle.sh_eval.specs.States.{State, Means, in_shell, refused}
use Rattle.sh_eval.specs.Table.{pages, patterns_of}
use Rattle.sh_eval.specs.Utilities.{Called, Patterns, deals, is_silent, needs_all, read, read_use, runs_utility, uses_by_operands}
use Rattle.sh_eval.specs.declared.refusals.Refusal.TheVariants as refusal
use Rattle.sh_eval.proofs.OperandSteps.{lacks-are, lines-are, looked}
use Rattle.sh_eval.proofs.SimpleSteps.{utility-so}
use Rattle.sh_eval.proofs.UtilitySteps.{few-operands}

-- THE COMMAND OF A STAGE
abbrev bare : List WordTree → CommandTree
bare words = simple (simple_command [] words [] no_sub)

-- what words ask for, where they are those of an invocation
asked-is : (words : List (List ℕ)) (asked : Invoked) → 0 < length words → invocation words ≡ Ok asked → asked_by words ≡ does (get_or words 0 []) words asked
asked-is [] asked some is = absurd (omega (arith, some))
asked-is (name ∷ rest) asked some is = ap (asked_as name (name ∷ rest)) is

-- none is too many
not-more : (count : ℕ) → count ≤ most_operands → nat_lt most_operands count ≡ false
not-more count few = le-ltb most_operands count few

module _ (inv : Inv) (can : CanBeMember inv) where
  abbrev called : Called
  called = called_by inv

  abbrev runs : Means
  runs = runs_utility pages (name_of called) called

  -- where no path is busy, the utility runs
  runs-free : (expansions : Expansions) (state : State) → first_busy state.session.streams.held (flat_map (read_use state) (operands_of inv)) ≡ None
      → done expansions false [] (uses_by_operands pages called) [] runs state ≡ runs state
  runs-free expansions state free =
      ap (λ (it : List Use). unless_busy (first_busy state.session.streams.held it) runs state) uses-are
      ∙ ap (λ (it : Option (List ℕ)). unless_busy it runs state) free
    where
      reads : List Use
      reads = flat_map (read_use state) (operands_of inv)

      uses-are : uses_by_operands pages called state ++ [] ≡ reads
      uses-are = append-nil reads

  -- what is checked passes
  checked-so : (expansions : Expansions) (state : State) → first_busy state.session.streams.held (flat_map (read_use state) (operands_of inv)) ≡ None
      → checked expansions pages [] [] (does (name_of called) (words_of inv) (command_of inv)) state ≡ runs state
  checked-so expansions state free =
      ap (λ (it : Asked). checked expansions pages [] [] it state) (utility-so (name_of called) inv can.built can.no_tee)
      ∙ ap (λ (it : Patterns). by_patterns expansions pages (name_of called) called [] [] it state) can.patterns
      ∙ ap (λ (it : Bool). if it then refused refusal.ArgsTooMany state else done expansions false [] (uses_by_operands pages called) [] runs state)
      (not-more (length (operands_of inv)) can.few)
      ∙ runs-free expansions state free

-- a command whose words ask for a member is that of the member
module _ (words : List WordTree) (shell : Shell) (held : List Held) (tree : TreeState) (member : Member) (found : IsFound words shell held tree member) where
  abbrev its_inv : Inv
  its_inv = member.inv

  pub member-is : (expansions : Expansions) → AreExpansions expansions → (files : Files) → tree.held ≡ Some files → IsMember expansions pages files tree.home held shell (bare words) (called_by its_inv)
  member-is expansions are files told =
      record {
        changes = λ inner. with_env given.0 (none_substituted inner);
        is = λ inner files_are home_are held_are shell_is.
            (λ i. goes_on_with next (told_fields (expansions.fields (files_are i) (home_are i) (given_by (none_substituted (shell_is i))) (none_substituted (shell_is i)).variables words)) (in_shell none_substituted inner))
            ∙ ap (λ (it : Answer (List (List ℕ))). goes_on_with next it (in_shell none_substituted inner)) given.1
            ∙ ap (λ (it : Asked). checked expansions pages [] [] it (behind inner)) (asked-is (words_of its_inv) (command_of its_inv) found.asked.read.named found.asked.read.command)
            ∙ checked-so its_inv found.can expansions (behind inner)
            (ap (λ (it : List Held). first_busy it (flat_map (read_use (behind inner)) (operands_of its_inv))) held_are ∙ found.free (behind inner) (told ∙ ap Some (sym files_are)) (sym home_are));
      }
    where
      given : (variables : Variables) × (told_fields (expansions.fields files tree.home (given_by (inside shell)) (inside shell).variables words) ≡ (Ok (words_of its_inv), variables))
      given = found.asked.fields expansions are files told

      next : List (List ℕ) → Means
      next fields = with_targets expansions [] (λ targets. checked expansions pages [] targets (asked_by fields))

      behind : State → State
      behind inner = in_shell (λ shell. with_env given.0 (none_substituted shell)) inner

  -- what it tells
  lines-so : (state : State) → member.operands.items ≡ looked state (operands_of its_inv)
      → lines_by (name_of (called_by its_inv)) its_inv member.operands.items ≡ lines_for state (called_by its_inv)
  lines-so state named =
      ap (lines_by (name_of (called_by its_inv)) its_inv) named
      ∙ ap (λ (it : List ℕ). if is_silent (command_of its_inv) then [] else it)
      (sym (lines-are state (name_of (called_by its_inv)) (deals (command_of its_inv)) (operands_of its_inv)))

  pub plain-so : (state : State) → member.operands.items ≡ looked state (operands_of its_inv) → IsPlain state (called_by its_inv)
  plain-so state named =
      record {
        is_whole = ap (λ (it : Bool). needs_all (command_of its_inv) && it) (lacks-are state (operands_of its_inv) ∙ ap some_lacks (sym named)) ∙ found.whole;
      }

  there-so : (told : Option Files) → IfSome told (λ files. AllStand files member.operands.items) → IfSome told (λ files. AllNamesStand files (member ∷ []))
  there-so None stand = tt
  there-so (Some files) stand = (stand, tt)

  pub found-gathered : AreGathered (command (bare words) no_command) shell held tree (member ∷ []) (lines_by (name_of (called_by its_inv)) its_inv member.operands.items)
  found-gathered =
      record {
        ready = (
          record {
            built = found.can.built;
            named = found.looked.are;
            few = few-operands (operands_of its_inv) member.operands.items found.can.few found.looked.are;
            tees = subst (MayWrite its_inv) (sym found.teeless) tt;
          },
          tt,
        );
        teeless = append-nil member.tees.items ∙ found.teeless;
        there = there-so tree.held found.looked.stand;
        looked = (found.looked, tt);
        stand = λ expansions are files told. (member-is expansions are files told, tt);
        told = λ state told home.
            let named = found.looked.named state told home in
            ((plain-so state named, tt), lines-so state named ∙ sym (append-nil (lines_for state (called_by its_inv))));
      }

pub found-at : (tree : CommandTree) (words : List WordTree) (shell : Shell) (held : List Held) (state : TreeState) (member : Member) → tree ≡ simple (simple_command [] words [] no_sub) → IsFound words shell held state member
    → AreGathered (command tree no_command) shell held state (member ∷ []) (lines_by (name_of (called_by member.inv)) member.inv member.operands.items)
found-at tree words shell held state member is found =
    subst (λ (it : CommandTree). AreGathered (command it no_command) shell held state (member ∷ []) (lines_by (name_of (called_by member.inv)) member.inv member.operands.items)) (sym is)
    (found-gathered words shell held state member found)

-- ALL STAGES. None
pub none-gathered : (shell : Shell) (held : List Held) (state : TreeState) → AreGathered no_command shell held state [] []
none-gathered shell held state =
    record { ready = tt; teeless = refl; there = none-there state.held; looked = tt; stand = λ expansions are files told. tt; told = λ at told home. (tt, refl) }
  where
    none-there : (told : Option Files) → IfSome told (λ files. AllNamesStand files [])
    none-there None = tt
    none-there (Some files) = tt

-- and one before others
module _ (tree : CommandTree) (trees : CommandTrees) (shell : Shell) (held : List Held) (state : TreeState) (member : Member) (members : List Member) (lines others : List ℕ)
    (first : AreGathered (command tree no_command) shell held state (member ∷ []) lines) (rest : AreGathered trees shell held state members others) where
  both-there : (told : Option Files) → IfSome told (λ files. AllNamesStand files (member ∷ [])) → IfSome told (λ files. AllNamesStand files members) → IfSome told (λ files. AllNamesStand files (member ∷ members))
  both-there None one other = tt
  both-there (Some files) one other = (one.0, other)

  pub more-gathered : AreGathered (command tree trees) shell held state (member ∷ members) (lines ++ others)
  more-gathered =
      record {
        ready = (first.ready.0, rest.ready);
        teeless = ap (λ (it : List Components). it ++ files_teed members) (sym (append-nil member.tees.items) ∙ first.teeless) ∙ rest.teeless;
        there = both-there state.held first.there rest.there;
        looked = (first.looked.0, rest.looked);
        stand = λ expansions are files told. ((first.stand expansions are files told).0, rest.stand expansions are files told);
        told = λ at told home.
            let one = first.told at told home in
            let other = rest.told at told home in (
              (one.0.0, other.0),
              ap (λ (it : List ℕ). it ++ others) (one.1 ∙ append-nil (lines_for at (called_by member.inv)))
                  ∙ ap (λ (it : List ℕ). lines_for at (called_by member.inv) ++ it) other.1,
            );
      }

-- what comes of the stages from one on comes of all before it too
pub gathered-on : (stages : List Command) (place : ℕ) (stage : Command) (shell : Shell) (held : List Held) (state : TreeState) (member : Member) (before lines : List ℕ) (members : List Member)
    (whole : List Member → List ℕ → Type 0) → stage ≡ get_or stages place stage → place < length stages
    → AreGathered (command (command_tree stage) no_command) shell held state (member ∷ []) lines
    → ((more : List Member) (others : List ℕ) → AreGathered (stages_tree (drop place stages)) shell held state more others → whole (members ++ more) (before ++ others))
    → (more : List Member) (others : List ℕ) → AreGathered (stages_tree (drop (place + 1) stages)) shell held state more others → whole ((members ++ member ∷ []) ++ more) ((before ++ lines) ++ others)
gathered-on stages place stage shell held state member before lines members whole here below one all more others rest =
    subst (λ (it : List Member). whole it ((before ++ lines) ++ others)) (sym (append_assoc members (member ∷ []) more))
    (subst (λ (it : List ℕ). whole (members ++ member ∷ more) it) (sym (append_assoc before lines others))
    (all (member ∷ more) (lines ++ others)
    (subst (λ (it : CommandTrees). AreGathered it shell held state (member ∷ more) (lines ++ others)) (sym cut)
    (more-gathered (command_tree stage) (stages_tree (drop (place + 1) stages)) shell held state member more lines others one rest))))
  where
    dropped : drop place stages ≡ get_or stages place stage ∷ drop (place + 1) stages
    dropped = rw add-one (drop-cons stages place stage below)

    cut : stages_tree (drop place stages) ≡ command (command_tree stage) (stages_tree (drop (place + 1) stages))
    cut = ap stages_tree dropped ∙ ap (λ (it : Command). command (command_tree it) (stages_tree (drop (place + 1) stages))) (sym here)

-- and of all, where none is left
pub gathered-all : (stages : List Command) (place : ℕ) (shell : Shell) (held : List Held) (state : TreeState) (before : List ℕ) (members : List Member) → length stages ≤ place
    → ((more : List Member) (others : List ℕ) → AreGathered (stages_tree (drop place stages)) shell held state more others → AreGathered (stages_tree stages) shell held state (members ++ more) (before ++ others))
    → AreGathered (stages_tree stages) shell held state members before
gathered-all stages place shell held state before members over all =
    subst (λ (it : List Member). AreGathered (stages_tree stages) shell held state it before) (append-nil members)
    (subst (λ (it : List ℕ). AreGathered (stages_tree stages) shell held state (members ++ []) it) (append-nil before)
    (all [] [] (subst (λ (it : List Command). AreGathered (stages_tree it) shell held state [] []) (sym (drop_of_length-le stages over)) (none-gathered shell held state))))

-- a stage that was added is gathered, behind those before it
module _ (tree : CommandTree) (shell : Shell) (held : List Held) (state : TreeState) (old new : Segment) (adds : AddsStage tree shell held state old new) where
  pub added-counted : (place : ℕ) → length old.members.items ≡ place → length new.members.items ≡ place + 1
  added-counted place counted =
      ap length adds.members_are ∙ length-append old.members.items (adds.member ∷ []) ∙ ap (λ (it : ℕ). it + 1) counted

pub added-on : (stages : List Command) (place : ℕ) (stage : Command) (shell : Shell) (held : List Held) (state now : TreeState) (old new : Segment) (whole : List Member → List ℕ → Type 0)
    → now ≡ state → stage ≡ get_or stages place stage → place < length stages → AddsStage (command_tree stage) shell held now old new
    → ((more : List Member) (others : List ℕ) → AreGathered (stages_tree (drop place stages)) shell held state more others → whole (old.members.items ++ more) (old.lines.items ++ others))
    → (more : List Member) (others : List ℕ) → AreGathered (stages_tree (drop (place + 1) stages)) shell held state more others → whole (new.members.items ++ more) (new.lines.items ++ others)
added-on stages place stage shell held state now old new whole same here below adds all more others rest =
    subst (λ (it : List Member). whole (it ++ more) (new.lines.items ++ others)) (sym adds.members_are)
    (subst (λ (it : List ℕ). whole ((old.members.items ++ adds.member ∷ []) ++ more) (it ++ others)) (sym adds.lines_are)
    (gathered-on stages place stage shell held state adds.member old.lines.items adds.lines old.members.items whole here below
    (subst (λ (it : TreeState). AreGathered (command (command_tree stage) no_command) shell held it (adds.member ∷ []) adds.lines) same adds.gathered) all more others rest))

-- what is gathered of the stages from a place on is gathered of all, up to any of these, behind what was gathered
abbrev pub GathersOn : List Command → Shell → List Held → TreeState → ℕ → Segment → Type 0
GathersOn stages shell held state place segment =
    (last : ℕ) → place ≤ last → last ≤ length stages → (more : List Member) (others : List ℕ) → AreGathered (stages_tree (drop place (take last stages))) shell held state more others
    → AreGathered (stages_tree (take last stages)) shell held state (segment.members.items ++ more) (segment.lines.items ++ others)

pub gathers-on : (stages : List Command) (place : ℕ) (stage : Command) (shell : Shell) (held : List Held) (state now : TreeState) (old new : Segment) → now ≡ state → stage ≡ get_or stages place stage
    → AddsStage (command_tree stage) shell held now old new → GathersOn stages shell held state place old → GathersOn stages shell held state (place + 1) new
gathers-on stages place stage shell held state now old new same here adds all last low high more others rest =
    added-on (take last stages) place stage shell held state now old new (AreGathered (stages_tree (take last stages)) shell held state) same
    (here ∙ sym (get_or-take last stages place stage (omega (arith, low)))) (rw (length-take-le last stages high) (omega (arith, low))) adds (all last (omega (arith, low)) high) more others rest

pub front-gathered : (stages : List Command) (place : ℕ) (shell : Shell) (held : List Held) (state : TreeState) (segment : Segment) → length segment.members.items ≡ place → place ≤ length stages → place ≤ MAX_STAGES
    → GathersOn stages shell held state place segment → IsFront stages shell held state segment
front-gathered stages place shell held state segment counted within most all =
    record {
      within = rw counted within;
      most = rw counted most;
      gathered = rw counted
          (gathered-all (take place stages) place shell held state segment.lines.items segment.members.items (rw (length-take-le place stages within) (omega arith)) (all place (omega arith) within));
    }
