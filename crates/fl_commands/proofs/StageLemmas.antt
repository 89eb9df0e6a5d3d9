-- The stages of utilities, and what they mean.
use Rattle.std.proofs.Common.{◌≡◌, ℕ, zero, suc, ◌<◌, ◌^◌, ◌+◌, min, List, [], ◌∷◌, ◌++◌, Bool, true, false, not, ◌&&◌, ◌||◌, ◌==◌, nat_le, if◌then◌else◌, length, map, take, drop, ◌-◌, get_or, Option, Some, None, IfSome, refl, sym, ap, ◌∙◌, subst, append-nil, arith}
use Rattle.std.specs.List.{count_by, filter, filter_map, list_all, list_any}
use Rattle.std.proofs.lemmas.Bool.{and_from, true≢false, eq-eqb, le-leb, ne_eqb, or_parts}
use Rattle.std.proofs.lemmas.List.{map-append}
use Rattle.std.proofs.lemmas.List.Folds.{list_any-append}
use Rattle.std.proofs.lemmas.List.Sums.{length-filter}
use Rattle.ps_world.specs.Files.{Files, NoWriterOut, bytes_at}
use Rattle.ps_world.specs.Paths.{Components}
use Rattle.ps_world.specs.Places.{is_null_path}
use Rattle.ps_world.specs.declared.tree.Mode.{Mode}
use Rattle.ut_args.specs.Built.{is_built_by, is_built_of}
use Rattle.ut_args.specs.Classes.{class_by, class_of}
use Rattle.ut_args.specs.Inputs.{counted, emptied, inputs_by, inputs_of, is_file, is_named, is_standard, joined_inputs, operands_by, operands_of, remaining, separate_inputs, shared_inputs, with_operands}
use Rattle.ut_args.specs.Invocations.{command_of, words_of}
use Rattle.ut_args.specs.declared.classes.Class.{Class}
use Rattle.ut_args.specs.declared.commands.Command.{Command}
use Rattle.ut_args.specs.declared.commands.Command.TheVariants as command
use Rattle.ut_args.specs.declared.invocations.Inv.{Inv}
use Rattle.ut_args.specs.declared.invocations.Inv.TheVariants as inv
use Rattle.ut_args.specs.declared.commands.PasteArgs.{PasteArgs}
use Rattle.ut_args.proofs.OperandLemmas.{class-emptied, joined-named, separate-named}
use Rattle.ut_streams.specs.Utilities.{Input, Utility}
use Rattle.ut_slices.specs.Paste.{paste, paste_output}
use Rattle.fl_graph.specs.Kinds.{is_grep}
use Rattle.fl_graph.specs.Paths.{ArePathsApart, are_distinct, is_among}
use Rattle.fl_classes.specs.Flow.{Outcome, only}
use Rattle.fl_classes.specs.Used.{is_cat, words_with}
use Rattle.fl_classes.specs.Utilities.{labelled, names_of, output_of, selects_of, silent, utility_by, utility_of}
use Rattle.fl_classes.proofs.OperandLemmas.{built-without, names-left, operands-without}
use Rattle.fl_engines.specs.OwnEnds.{texts_for}
use Rattle.fl_segments.specs.Chains.{begins_with, chain_means, grep_status, is_quiet, joined_text, joined_texts, reports_nothing, stage_means, status_by, tee_mode, text_in, texts_by}
use Rattle.fl_segments.specs.Noted.{Noted, noted_as, noted_by, noted_in}
use Rattle.fl_segments.specs.Stages as S
use Rattle.fl_segments.specs.Stages.{closes_by, file_in, file_out, files_read, files_written, fits, is_none, is_shell_input, is_stage, is_stream, is_tee, joins_by, may_spread, read_of, reads_stream, spreads}
use Rattle.fl_segments.specs.declared.stages.Does.TheVariants as does
use Rattle.fl_segments.specs.declared.stages.First.{First}
use Rattle.fl_segments.specs.declared.stages.In.{In}
use Rattle.fl_segments.specs.declared.stages.Out.TheVariants as out
use Rattle.fl_segments.specs.declared.stages.Stage.{Stage}
use Rattle.fl_commands.specs.Inner.Segments.{AllThere, segment_asks}
use Rattle.fl_commands.specs.Inner.Stages.{AreStagesOf, IsStageOf, command_left, inputs_with, plain_status, run_noted, some_lacks, words_left}
use Rattle.fl_commands.specs.Inputs.{calls_cat, inputs_read, output_for, selects_for, spreads_over, status_of, text_taken}
use Rattle.fl_commands.specs.Inputs.{joined_inputs as joined_for}
use Rattle.fl_commands.specs.Members.{AllCanRun, AllNamesStand, files_named, files_teed, member_output, member_texts, noted_of, output_through, reads_first, status_through, texts_through}
use Rattle.fl_commands.specs.Operands.{AllStand, AreNamed, deals, ins_of, lacks, without_input}
use Rattle.fl_commands.specs.Readers.{AreThere}
use Rattle.fl_commands.specs.Runs.{command_asks, pipeline_asks}
use Rattle.fl_commands.specs.Writers.{AreBegun, AreFilesAt, AreWrittenApart, IsApart, MayWrite}
use Rattle.fl_commands.specs.declared.members.Member.{Member}
use Rattle.fl_commands.specs.declared.operands.Operand.{Operand}
use Rattle.fl_commands.proofs.InputLemmas.{inputs_named, ins-most, ins-there, left-named, named-count, no-null-of, one-stream, one_of, without-plain}

-- HOW MANY INPUTS a command has, by its operands
few-counted : (count : ℕ) → count < 2 ^ 32 → counted count ≡ count
few-counted count few = omega (arith, few)

joined-count : (operands : List (List ℕ)) → joined_inputs operands ≡ (if inputs_named false operands == 0 then 0 else 1)
unfolding inputs_named
joined-count [] = refl
joined-count (operand ∷ operands) = joined-named operand operands ∙ by_count (length (filter is_named (operand ∷ operands)))
  where
    by_count : (count : ℕ) → min 1 count ≡ (if count == 0 then 0 else 1)
    by_count zero = refl
    by_count (suc count) =
        let one : min 1 (suc count) ≡ 1 = omega arith in
        one ∙ ap (λ test. if test then 0 else 1) (sym (ne_eqb (suc count) 0 (λ is. let same = is in omega (arith, same))))

separate-count : (operands : List (List ℕ)) → inputs_named false operands < 2 ^ 32 → separate_inputs operands ≡ inputs_named false operands
unfolding inputs_named
separate-count [] few = refl
separate-count (operand ∷ operands) few = separate-named operand operands ∙ few-counted (length (filter is_named (operand ∷ operands))) few

shared-count : (operands : List (List ℕ)) → inputs_named true operands < 2 ^ 32 → shared_inputs operands ≡ inputs_named true operands
unfolding inputs_named
shared-count [] few = refl
shared-count (operand ∷ operands) few =
    ap (λ files. counted (files + one_of (list_any is_standard (operand ∷ operands)))) (sym (length-filter is_file (operand ∷ operands)))
    ∙ few-counted (length (filter is_file (operand ∷ operands)) + one_of (list_any is_standard (operand ∷ operands))) few

-- those of paste, which deals lines where it isn't serial
paste-count : (serial : Bool) (operands : List (List ℕ)) → inputs_named (not serial) operands < 2 ^ 32
    → (if serial then separate_inputs operands else shared_inputs operands) ≡ inputs_named (not serial) operands
paste-count true operands few = separate-count operands few
paste-count false operands few = shared-count operands few

-- a command that is built reads as many as are named, or their one joined text
inputs-fit : (asked : Command) → is_built_by asked ≡ true → inputs_named (deals asked) (operands_by asked) < 2 ^ 32
    → inputs_by asked ≡ (if joins_by asked then (if inputs_named (deals asked) (operands_by asked) == 0 then 0 else 1) else inputs_named (deals asked) (operands_by asked))
unfolding inputs_named
inputs-fit (command.Cat args) built few = joined-count args.operands
inputs-fit (command.Grep args) built few = separate-count args.operands few
inputs-fit (command.Tr args) built few = refl
inputs-fit (command.Cut args) built few = joined-count args.operands
inputs-fit (command.Head args) built few = separate-count args.operands few
inputs-fit (command.Tail args) built few = separate-count args.operands few
inputs-fit (command.Wc args) built few = separate-count args.operands few
inputs-fit (command.Uniq args) built few = separate-count args.operands few
inputs-fit (command.Sort args) built few = joined-count args.operands
inputs-fit (command.Paste args) built few = paste-count args.serial args.operands few
inputs-fit (command.Tee args) built few = refl
inputs-fit other built few = absurd (true≢false (sym built))

-- whether lines are dealt doesn't hang on the operands
deals-emptied : (given : List (List ℕ)) (asked : Command) → deals (with_operands given asked) ≡ deals asked
deals-emptied given (command.Cat args) = refl
deals-emptied given (command.Grep args) = refl
deals-emptied given (command.Cut args) = refl
deals-emptied given (command.Head args) = refl
deals-emptied given (command.Tail args) = refl
deals-emptied given (command.Wc args) = refl
deals-emptied given (command.Uniq args) = refl
deals-emptied given (command.Sort args) = refl
deals-emptied given (command.Paste args) = refl
deals-emptied given other = refl

-- tee by the command
tee_by : Command → Bool
tee_by (command.Tee args) = true
tee_by other = false

tee-is : (it : Inv) → is_tee it ≡ tee_by (command_of it)
unfolding tee_by
tee-is (inv.Tee tee) = refl
tee-is other = refl

tee-emptied : (given : List (List ℕ)) (asked : Command) → tee_by (with_operands given asked) ≡ tee_by asked
unfolding tee_by
tee-emptied given (command.Cat args) = refl
tee-emptied given (command.Grep args) = refl
tee-emptied given (command.Cut args) = refl
tee-emptied given (command.Head args) = refl
tee-emptied given (command.Tail args) = refl
tee-emptied given (command.Wc args) = refl
tee-emptied given (command.Uniq args) = refl
tee-emptied given (command.Sort args) = refl
tee-emptied given (command.Paste args) = refl
tee-emptied given other = refl

-- tee writes files, and no other
may-write : (inv' : Inv) (tees : List Components) → MayWrite inv' tees → (is_tee inv' || is_none tees) ≡ true
may-write inv' [] writes = or-true (is_tee inv')
  where
    or-true : (test : Bool) → (test || true) ≡ true
    or-true true = refl
    or-true false = refl
may-write inv' (path ∷ tees) writes = ap (λ (is : Bool). is || false) writes

-- THE INVOCATION WITHOUT THE OPERANDS THAT HAVE NO INPUT
module _ (inv' : Inv) (operands : List Operand) (without : Inv) (asks : command_of without ≡ command_left (command_of inv') operands) (named : AreNamed (operands_of inv') operands) where
  abbrev its-ins : List In
  its-ins = ins_of (deals (command_of inv')) operands

  -- it has as many inputs as there are
  as-named : inputs_named (deals (command_of without)) (operands_of without) ≡ length its-ins
  as-named =
      ap (λ (it : Bool). inputs_named it (operands_of without)) (ap deals asks ∙ deals-emptied (emptied (map lacks operands) (operands_of inv')) (command_of inv'))
      ∙ ap (inputs_named (deals (command_of inv'))) (operands-without inv' without (map lacks operands) asks)
      ∙ named-count (deals (command_of inv')) (operands_of inv') operands named

  module _ (built : is_built_of inv' ≡ true) (few : length its-ins < 2 ^ 32) where
    still-built : is_built_of without ≡ true
    still-built = built-without inv' without (map lacks operands) asks ∙ built

    reads-all : inputs_of without ≡ read_of without (length its-ins)
    reads-all =
        inputs-fit (command_of without) still-built (subst (λ (it : ℕ). it < 2 ^ 32) (sym as-named) few)
        ∙ ap (λ (it : ℕ). if joins_by (command_of without) then (if it == 0 then 0 else 1) else it) as-named

    fits-so : (tees : List Components) → MayWrite inv' tees → fits (does.Util without) its-ins tees ≡ true
    fits-so tees writes =
        and_from (is_built_of without) ((inputs_of without == read_of without (length its-ins)) && (nat_le (count_by is_stream its-ins) 1 && (is_tee without || is_none tees))) still-built
        (and_from (inputs_of without == read_of without (length its-ins)) (nat_le (count_by is_stream its-ins) 1 && (is_tee without || is_none tees))
        (eq-eqb (inputs_of without) (read_of without (length its-ins)) reads-all)
        (and_from (nat_le (count_by is_stream its-ins) 1) (is_tee without || is_none tees) (le-leb (count_by is_stream its-ins) 1 (one-stream (deals (command_of inv')) operands))
        (ap (λ is. is || is_none tees) (tee-is without ∙ ap tee_by asks ∙ tee-emptied (emptied (map lacks operands) (operands_of inv')) (command_of inv') ∙ sym (tee-is inv')) ∙ may-write inv' tees writes)))

-- the stage as it is made
pub stage-so : (inv' : Inv) (operands : List Operand) (writing : List Components) (without : Inv) (flags : List Bool) (ins : List In) (first piped : List ℕ) (status : ℕ) (reads writes tees : List Components)
    → flags ≡ map lacks operands → command_of without ≡ with_operands (emptied flags (operands_of inv')) (command_of inv')
    → words_of without ≡ take (length (words_of inv') - length (operands_of inv')) (words_of inv') ++ emptied flags (operands_of inv')
    → ins ≡ ins_of (deals (command_of inv')) operands → first ≡ [] → piped ≡ [] → status ≡ plain_status (command_of inv') (some_lacks operands) → reads ≡ [] → writes ≡ [] → tees ≡ writing
    → IsStageOf inv' operands writing (record { does = does.Util without; ins = ins; out = out.Next; first = first; piped = piped; status = status; reads = reads; writes = writes; tees = tees })
stage-so inv' operands writing without flags ins first piped status reads writes tees flags_are asks words ins_are first_is piped_is status_is reads_are writes_are tees_are =
    record {
      without = without;
      asks = asks ∙ ap (λ (it : List Bool). with_operands (emptied it (operands_of inv')) (command_of inv')) flags_are;
      words = words ∙ ap (λ (it : List Bool). take (length (words_of inv') - length (operands_of inv')) (words_of inv') ++ emptied it (operands_of inv')) flags_are;
      is = λ i. record {
        does = does.Util without;
        ins = ins_are i;
        out = out.Next;
        first = first_is i;
        piped = piped_is i;
        status = status_is i;
        reads = reads_are i;
        writes = writes_are i;
        tees = tees_are i;
      };
    }

-- WHAT IT MAKES OF ITS INPUTS
-- texts with their names have these texts
texts-labelled : (names texts : List (List ℕ)) → map (λ (input : Input). input.text) (labelled names texts) ≡ texts
texts-labelled names [] = refl
texts-labelled names (text ∷ texts) = ap (λ it. text ∷ it) (texts-labelled (drop 1 names) texts)

-- the inputs are read joined with the name of the first
joined-read : (asked : Command) (names texts : List (List ℕ)) → labelled names (texts_by asked texts) ≡ inputs_read asked (labelled names texts)
joined-read asked names texts = by_join (joins_by asked)
  where
    of_texts : (it : List (List ℕ)) → labelled names (joined_texts (closes_by asked) it) ≡ joined_for (closes_by asked) (labelled names it)
    of_texts [] = refl
    of_texts (text ∷ rest) =
        ap (λ (others : List (List ℕ)). record { label = get_or names 0 []; text = joined_text (closes_by asked) (text ∷ others) } ∷ []) (sym (texts-labelled (drop 1 names) rest))

    by_join : (joins : Bool) → labelled names (if joins then joined_texts (closes_by asked) texts else texts)
        ≡ (if joins then joined_for (closes_by asked) (labelled names texts) else labelled names texts)
    by_join true = of_texts texts
    by_join false = refl

-- a command makes the same of both
record SaysAlike (asked : Command) (one other : List Input) : Type 0 where
  output : output_for asked one ≡ output_for asked other
  selects : selects_for asked one ≡ selects_for asked other

alike : (asked : Command) (one other : List Input) → one ≡ other → SaysAlike asked one other
alike asked one other same = record { output = ap (output_for asked) same; selects = ap (selects_for asked) same }

-- the names of inputs say nothing to a command that deals their lines
none-selected : (names names' texts : List (List ℕ)) → list_any (λ (input : Input). false) (labelled names texts) ≡ list_any (λ (input : Input). false) (labelled names' texts)
none-selected names names' [] = refl
none-selected names names' (text ∷ texts) = none-selected (drop 1 names) (drop 1 names') texts

pasted : (args : PasteArgs) (names names' texts : List (List ℕ)) → (paste args).output (labelled names texts) ≡ (paste args).output (labelled names' texts)
pasted args names names' texts = ap (λ its. paste_output args its) (texts-labelled names texts ∙ sym (texts-labelled names' texts))

names-mute : (asked : Command) → deals asked ≡ true → (names names' texts : List (List ℕ)) → SaysAlike asked (labelled names texts) (labelled names' texts)
names-mute (command.Paste args) is names names' texts = record {
  output = pasted args names names' texts;
  selects = none-selected names names' texts;
}
names-mute other is names names' texts = absurd (true≢false (sym is))

-- grep and its report by the command
grep_by : Command → Bool
grep_by (command.Grep args) = true
grep_by other = false

pub cat-is : (it : Inv) → is_cat it ≡ calls_cat (command_of it)
cat-is (inv.Cat cat) = refl
cat-is other = refl

cat-emptied : (given : List (List ℕ)) (asked : Command) → calls_cat (with_operands given asked) ≡ calls_cat asked
cat-emptied given (command.Cat args) = refl
cat-emptied given (command.Grep args) = refl
cat-emptied given (command.Cut args) = refl
cat-emptied given (command.Head args) = refl
cat-emptied given (command.Tail args) = refl
cat-emptied given (command.Wc args) = refl
cat-emptied given (command.Uniq args) = refl
cat-emptied given (command.Sort args) = refl
cat-emptied given (command.Paste args) = refl
cat-emptied given other = refl

joins-emptied : (given : List (List ℕ)) (asked : Command) → joins_by (with_operands given asked) ≡ joins_by asked
joins-emptied given (command.Cat args) = refl
joins-emptied given (command.Grep args) = refl
joins-emptied given (command.Cut args) = refl
joins-emptied given (command.Head args) = refl
joins-emptied given (command.Tail args) = refl
joins-emptied given (command.Wc args) = refl
joins-emptied given (command.Uniq args) = refl
joins-emptied given (command.Sort args) = refl
joins-emptied given (command.Paste args) = refl
joins-emptied given other = refl

-- one is read where there is an input and they are joined, or it is the only one
one-read : (joins : Bool) (count : ℕ) → (count == 0) ≡ false → ((if joins then (if count == 0 then 0 else 1) else count) == 1) ≡ (joins || (count == 1))
one-read false count some = refl
one-read true count some = ap (λ (none : Bool). (if none then 0 else 1) == 1) some

-- what is noted where a test fails
noted-where : (test spreads spreads' : Bool) (words : List (List ℕ)) → (test ≡ false → spreads ≡ spreads')
    → map (λ words. noted_as words spreads) (if test then [] else words ∷ []) ≡ (if test then [] else noted_as words spreads' ∷ [])
noted-where true spreads spreads' words same = refl
noted-where false spreads spreads' words same = ap (λ it. noted_as words it ∷ []) (same refl)

-- nothing is read where there is no input
none-read : (joins : Bool) (count : ℕ) → ((if joins then (if count == 0 then 0 else 1) else count) == 0) ≡ (count == 0)
none-read false count = refl
none-read true count = by_test (count == 0)
  where
    by_test : (test : Bool) → ((if test then 0 else 1) == 0) ≡ test
    by_test true = refl
    by_test false = refl

quiet_by : Command → Bool
quiet_by (command.Grep args) = reports_nothing args.report
quiet_by other = false

grep-is : (it : Inv) → is_grep it ≡ grep_by (command_of it)
unfolding grep_by
grep-is (inv.Grep grep) = refl
grep-is other = refl

quiet-is : (it : Inv) → is_quiet it ≡ quiet_by (command_of it)
unfolding quiet_by
quiet-is (inv.Grep grep) = refl
quiet-is other = refl

-- the status of grep, and of any other
status-for : (given : List (List ℕ)) (asked : Command) (some selected : Bool)
    → (if grep_by (with_operands given asked) then grep_status (quiet_by (with_operands given asked)) (plain_status asked some) selected else plain_status asked some)
    ≡ status_of asked some selected
unfolding grep_by quiet_by
status-for given (command.Grep args) true true = by_report (reports_nothing args.report) 0 2
  where
    by_report : (nothing : Bool) (low high : ℕ) → (if false || nothing then low else high) ≡ (if true && not nothing then high else low)
    by_report true low high = refl
    by_report false low high = refl
status-for given (command.Grep args) true false = refl
status-for given (command.Grep args) false true = refl
status-for given (command.Grep args) false false = refl
status-for given (command.Cat args) some selected = refl
status-for given (command.Cut args) some selected = refl
status-for given (command.Head args) some selected = refl
status-for given (command.Tail args) some selected = refl
status-for given (command.Wc args) some selected = refl
status-for given (command.Uniq args) some selected = refl
status-for given (command.Sort args) some selected = refl
status-for given (command.Paste args) some selected = refl
status-for given other some selected = refl

-- there is one more input at most than operands
few-ins : (deals : Bool) (operands : List Operand) → length operands + 1 < 2 ^ 32 → length (ins_of deals operands) < 2 ^ 32
few-ins deals operands few = let most = ins-most deals operands in omega (arith, few, most)

-- the files of tee get its one input
tee-takes : (inv' without : Inv) (operands : List Operand) → is_tee inv' ≡ true → command_of without ≡ with_operands (emptied (map lacks operands) (operands_of inv')) (command_of inv')
    → AreNamed (operands_of inv') operands → (stream : List ℕ) (files : Components → List ℕ)
    → only (texts_by (command_of without) (map (text_in stream files) (ins_of (deals (command_of inv')) operands))) ≡ text_taken (inputs_with (deals (command_of inv')) (operands_of inv') operands stream files)
tee-takes (inv.Tee tee) without [] is asks named stream files = ap (λ (asked : Command). only (texts_by asked (stream ∷ []))) asks ∙ sym (append-nil stream)
tee-takes (inv.Tee tee) without (first ∷ rest) is asks named stream files = absurd named
tee-takes other without operands is asks named stream files = absurd (true≢false (sym is))

-- texts for files, without where they go
abbrev given_to : Mode → List ℕ → List Components → List (Components × (Mode × List ℕ))
given_to mode text paths = map (λ path. (path, (mode, text))) paths

texts-all-one : (paths : List Components) (mode : Mode) (text : List ℕ) → texts_for (given_to mode text paths) ≡ map (λ path. text) paths
texts-all-one [] mode text = refl
texts-all-one (path ∷ paths) mode text = ap (λ (it : List (List ℕ)). text ∷ it) (texts-all-one paths mode text)

-- WHAT THE STAGE OF AN INVOCATION MEANS
module _ (inv' : Inv) (operands : List Operand) (tees : List Components) (stage : Stage) (one : IsStageOf inv' operands tees stage) where
  ins-so : S.ins_of stage ≡ ins_of (deals (command_of inv')) operands
  ins-so = ap (λ (it : Stage). S.ins_of it) one.is

  written-so : stage.tees ++ file_out stage.out ≡ tees
  written-so = ap (λ (it : Stage). it.tees ++ file_out it.out) one.is ∙ append-nil tees

  -- its files are there
  stage-there : (files : Files) → NoWriterOut files → AllStand files operands → AreThere files (S.ins_of stage)
  stage-there files whole stand = subst (AreThere files) (sym ins-so) (ins-there (deals (command_of inv')) (Some files) operands whole stand)

  module _ (built : is_built_of inv' ≡ true) (named : AreNamed (operands_of inv') operands) (few : length operands + 1 < 2 ^ 32) where
    few-so : length (ins_of (deals (command_of inv')) operands) < 2 ^ 32
    few-so = few-ins (deals (command_of inv')) operands few

    is-stage : MayWrite inv' tees → is_stage stage ≡ true
    is-stage writes = ap (λ (it : Stage). is_stage it) one.is ∙ fits-so inv' operands one.without one.asks named built few-so tees writes

    -- none of its files is the null device
    no-null-in : list_any is_null_path (filter_map file_in (S.ins_of stage)) ≡ false
    no-null-in = ap (λ (it : List In). list_any is_null_path (filter_map file_in it)) ins-so ∙ no-null-of (deals (command_of inv')) (operands_of inv') operands named

    module _ (stream : List ℕ) (files : Components → List ℕ) where
      abbrev asked : Command
      asked = command_left (command_of inv') operands

      abbrev its-texts : List (List ℕ)
      its-texts = map (text_in stream files) (ins_of (deals (command_of inv')) operands)

      abbrev its-inputs : List Input
      its-inputs = inputs_with (deals (command_of inv')) (operands_of inv') operands stream files

      -- the names differ at most where they say nothing
      inputs-alike : SaysAlike asked (labelled (names_of one.without) its-texts) its-inputs
      inputs-alike = by_deals (deals (command_of inv')) refl
        where
          by_deals : (it : Bool) → deals (command_of inv') ≡ it
              → SaysAlike (command_left (command_of inv') operands) (labelled (names_of one.without) (map (text_in stream files) (ins_of (deals (command_of inv')) operands)))
              (labelled (remaining (without_input it false operands) (operands_of inv')) (map (text_in stream files) (ins_of (deals (command_of inv')) operands)))
          by_deals true is =
              names-mute (command_left (command_of inv') operands) (deals-emptied (emptied (map lacks operands) (operands_of inv')) (command_of inv') ∙ is)
              (names_of one.without) (remaining (without_input true false operands) (operands_of inv')) (map (text_in stream files) (ins_of (deals (command_of inv')) operands))
          by_deals false is =
              alike (command_left (command_of inv') operands) _ _
              (ap (λ (names : List (List ℕ)). labelled names (map (text_in stream files) (ins_of (deals (command_of inv')) operands)))
              (names-left inv' one.without (map lacks operands) one.asks (left-named (operands_of inv') operands named)
              ∙ ap (λ (flags : List Bool). remaining flags (operands_of inv')) (sym (without-plain false operands))))

      utility-so : utility_of one.without ≡ utility_by asked
      utility-so =
          ap (λ (is : Bool). if is then utility_by (command_of one.without) else silent) (still-built inv' operands one.without one.asks named built few-so)
          ∙ ap utility_by one.asks

      read-so : labelled (names_of one.without) (texts_by (command_of one.without) its-texts) ≡ inputs_read asked (labelled (names_of one.without) its-texts)
      read-so = ap (λ it. labelled (names_of one.without) (texts_by it its-texts)) one.asks ∙ joined-read asked (names_of one.without) its-texts

      output-so : output_of one.without (texts_by (command_of one.without) its-texts) ≡ output_for asked its-inputs
      output-so = ap (λ (it : Utility). it.output (labelled (names_of one.without) (texts_by (command_of one.without) its-texts))) utility-so
          ∙ ap (λ inputs. (utility_by asked).output inputs) read-so ∙ inputs-alike.output

      selects-so : selects_of one.without (texts_by (command_of one.without) its-texts) ≡ selects_for asked its-inputs
      selects-so = ap (λ (it : Utility). it.selects (labelled (names_of one.without) (texts_by (command_of one.without) its-texts))) utility-so
          ∙ ap (λ inputs. (utility_by asked).selects inputs) read-so ∙ inputs-alike.selects

      status-so : status_by (does.Util one.without) (plain_status (command_of inv') (some_lacks operands)) its-texts
          ≡ status_of (command_of inv') (some_lacks operands) (selects_for asked its-inputs)
      status-so =
          ap (λ selected. if is_grep one.without then grep_status (is_quiet one.without) plain selected else plain) selects-so
          ∙ ap (λ is. if is then grep_status (is_quiet one.without) plain selected else plain) (grep-is one.without ∙ ap grep_by one.asks)
          ∙ ap (λ quiet. if grep_by (with_operands given (command_of inv')) then grep_status quiet plain selected else plain) (quiet-is one.without ∙ ap quiet_by one.asks)
          ∙ status-for given (command_of inv') (some_lacks operands) selected
        where
          plain : ℕ
          plain = plain_status (command_of inv') (some_lacks operands)

          given : List (List ℕ)
          given = emptied (map lacks operands) (operands_of inv')

          selected : Bool
          selected = selects_for (command_left (command_of inv') operands) its-inputs

      output-left : (stage_means stage stream files).output ≡ output_for asked its-inputs
      output-left = ap (λ (it : Stage). (stage_means it stream files).output) one.is ∙ output-so

      status-left : (stage_means stage stream files).status ≡ status_of (command_of inv') (some_lacks operands) (selects_for asked its-inputs)
      status-left = ap (λ (it : Stage). (stage_means it stream files).status) one.is ∙ status-so

      texts-left : MayWrite inv' tees → texts_for (stage_means stage stream files).files ≡ map (λ path. text_taken its-inputs) tees
      texts-left writes =
          let text : List ℕ = only (texts_by (command_of one.without) its-texts) in
          ap (λ (it : Stage). texts_for (stage_means it stream files).files) one.is
          ∙ ap texts_for (append-nil (given_to (tee_mode one.without) text tees))
          ∙ texts-all-one tees (tee_mode one.without) text ∙ by_tees tees writes
        where
          by_tees : (paths : List Components) → MayWrite inv' paths → map (λ path. only (texts_by (command_of one.without) its-texts)) paths ≡ map (λ path. text_taken its-inputs) paths
          by_tees [] writes = refl
          by_tees (path ∷ paths) writes =
              ap (λ (text : List ℕ). map (λ path. text) (path ∷ paths))
              (tee-takes inv' one.without operands writes one.asks named stream files)

    -- the utility that is noted
    abbrev count : ℕ
    count = length (ins_of (deals (command_of inv')) operands)

    reads-so : inputs_of one.without ≡ (if joins_by (command_of one.without) then (if count == 0 then 0 else 1) else count)
    reads-so = reads-all inv' operands one.without one.asks named built few-so

    abbrev its-flags : List Bool
    its-flags = map lacks operands

    spreads-so : (count == 0) ≡ false → spreads one.without ≡ spreads_over (command_of inv') count
    spreads-so some =
        ap (λ it. (it == 1) && may_spread (class_of one.without)) reads-so
        ∙ ap (λ it. it && may_spread (class_of one.without)) (one-read (joins_by (command_of one.without)) count some)
        ∙ ap (λ (it : Command). (joins_by it || (count == 1)) && may_spread (class_by it)) one.asks
        ∙ ap (λ it. (it || (count == 1)) && may_spread (class_by (command_left (command_of inv') operands))) (joins-emptied (emptied its-flags (operands_of inv')) (command_of inv'))
        ∙ ap (λ (it : Class). (joins_by (command_of inv') || (count == 1)) && may_spread it) (class-emptied its-flags (command_of inv'))

    words-so : words_with one.without (inputs_of one.without) ≡ (if calls_cat (command_of inv') || (count == 0) then [] else words_left (words_of inv') (operands_of inv') operands ∷ [])
    words-so =
        ap (λ is. if is || (inputs_of one.without == 0) then [] else words_of one.without ∷ []) (cat-is one.without ∙ ap calls_cat one.asks ∙ cat-emptied (emptied its-flags (operands_of inv')) (command_of inv'))
        ∙ ap (λ none. if calls_cat (command_of inv') || none then [] else words_of one.without ∷ []) (ap (λ it. it == 0) reads-so ∙ none-read (joins_by (command_of one.without)) count)
        ∙ ap (λ (words : List (List ℕ)). if calls_cat (command_of inv') || (count == 0) then [] else words ∷ []) one.words

    noted-so : noted_by stage.does ≡ run_noted inv' operands
    noted-so =
        ap (λ (it : Stage). noted_by it.does) one.is
        ∙ ap (λ (lists : List (List (List ℕ))). map (λ words. noted_as words (spreads one.without)) lists) words-so
        ∙ noted-where (calls_cat (command_of inv') || (count == 0)) (spreads one.without) (spreads_over (command_of inv') count) (words_left (words_of inv') (operands_of inv') operands)
        (λ none. spreads-so (or_parts (calls_cat (command_of inv')) (count == 0) none).1)

-- paths that are written apart, none of which is the null device
all-apart-of : (read written : List Components) → AreWrittenApart read written → IsApart read written
all-apart-of read [] are = record { apart = refl; once = refl; files = refl }
all-apart-of read (path ∷ written) are = are

apart-so : (read written read' written' : List Components) → read ≡ read' → written ≡ written' → list_any is_null_path read ≡ false → AreWrittenApart read' written' → ArePathsApart read written
apart-so read written read' written' read_is written_is null are =
    let is : IsApart read' written' = all-apart-of read' written' are in
    record {
      apart = ap (λ (it : List Components). list_any (is_among it) written) read_is ∙ ap (λ (it : List Components). list_any (is_among read') it) written_is ∙ is.apart;
      once = ap (λ (it : List Components). are_distinct it) written_is ∙ is.once;
      files = list_any-append is_null_path read written ∙ ap (λ null. null || list_any is_null_path written) null ∙ ap (λ (it : List Components). list_any is_null_path it) written_is ∙ is.files;
    }

-- the files that are written are there
pub begun-so : (held : Option Files) (paths paths' : List Components) → paths ≡ paths' → AreBegun held paths' → IfSome held (λ files. AreFilesAt files paths)
begun-so held paths paths' same begun = subst (λ (it : List Components). IfSome held (λ files. AreFilesAt files it)) (sym same) (by_paths held paths' begun)
  where
    by_paths : (held : Option Files) (paths : List Components) → AreBegun held paths → IfSome held (λ files. AreFilesAt files paths)
    by_paths None [] begun = tt
    by_paths (Some files) [] begun = tt
    by_paths held (path ∷ paths) begun = begun

-- one stage alone
module _ (inv' : Inv) (operands : List Operand) (tees : List Components) (stage : Stage) (one : IsStageOf inv' operands tees stage) where
  pub one-written : files_written (stage ∷ []) ≡ tees
  one-written = ap (λ (it : List Components). it ++ []) (written-so inv' operands tees stage one) ∙ append-nil tees

  one-reads : files_read (stage ∷ []) ≡ filter_map file_in (ins_of (deals (command_of inv')) operands)
  one-reads = append-nil (filter_map file_in (S.ins_of stage)) ∙ ap (λ (it : List In). filter_map file_in it) (ins-so inv' operands tees stage one)

  pub one-there : (held : Option Files) → IfSome held NoWriterOut → IfSome held (λ files. AllStand files operands) → IfSome held (λ files. AllThere files (stage ∷ []))
  one-there None whole stand = tt
  one-there (Some files) whole stand = (stage-there inv' operands tees stage one files whole stand, tt)

  module _ (built : is_built_of inv' ≡ true) (named : AreNamed (operands_of inv') operands) (few : length operands + 1 < 2 ^ 32) where
    pub one-stage : MayWrite inv' tees → list_all is_stage (stage ∷ []) ≡ true
    one-stage writes = ap (λ test. test && true) (is-stage inv' operands tees stage one built named few writes)

    pub one-apart : AreWrittenApart (filter_map file_in (ins_of (deals (command_of inv')) operands)) tees → ArePathsApart (files_read (stage ∷ [])) (files_written (stage ∷ []))
    one-apart apart =
        apart-so (files_read (stage ∷ [])) (files_written (stage ∷ [])) (filter_map file_in (ins_of (deals (command_of inv')) operands)) tees one-reads one-written
        (ap (λ paths. list_any is_null_path paths) (append-nil (filter_map file_in (S.ins_of stage))) ∙ no-null-in inv' operands tees stage one built named few) apart

    pub one-asks : MayWrite inv' tees → (from : First) → segment_asks (stage ∷ []) from ≡ command_asks inv' operands tees from
    one-asks writes from = λ i. record {
      output = λ input files. output-left inv' operands tees stage one built named few (begins_with from input) (bytes_at files) i;
      status = λ input files. status-left inv' operands tees stage one built named few (begins_with from input) (bytes_at files) i;
      reads = is_shell_input from && list_any is_stream (ins-so inv' operands tees stage one i);
      noted = (append-nil (noted_by stage.does) ∙ noted-so inv' operands tees stage one built named few) i;
      paths = one-written i;
      texts = λ input files. texts-left inv' operands tees stage one built named few (begins_with from input) (bytes_at files) writes i;
    }

-- THE STAGES OF A PIPELINE
-- one more stage
pub stages-more : (members : List Member) (stages : List Stage) (member : Member) (stage : Stage) → AreStagesOf members stages → IsStageOf member.inv member.operands.items member.tees.items stage
    → AreStagesOf (members ++ member ∷ []) (stages ++ stage ∷ [])
stages-more [] [] member stage are one = (one, tt)
stages-more [] (other ∷ stages) member stage are one = absurd are
stages-more (first ∷ members) [] member stage are one = absurd are
stages-more (first ∷ members) (other ∷ stages) member stage are one = (are.0, stages-more members stages member stage are.1 one)

pub as-many-stages : (members : List Member) (stages : List Stage) → AreStagesOf members stages → length stages ≡ length members
as-many-stages [] [] are = refl
as-many-stages [] (stage ∷ stages) are = absurd are
as-many-stages (member ∷ members) [] are = absurd are
as-many-stages (member ∷ members) (stage ∷ stages) are = ap suc (as-many-stages members stages are.1)

-- they read and write the files of the members, and each file that is read is there
pub all-written : (members : List Member) (stages : List Stage) → AreStagesOf members stages → files_written stages ≡ files_teed members
all-written [] [] are = refl
all-written [] (stage ∷ stages) are = absurd are
all-written (member ∷ members) [] are = absurd are
all-written (member ∷ members) (stage ∷ stages) are =
    ap (λ (it : List Components). it ++ files_written stages) (written-so member.inv member.operands.items member.tees.items stage are.0)
    ∙ ap (λ (it : List Components). member.tees.items ++ it) (all-written members stages are.1)

all-read : (members : List Member) (stages : List Stage) → AreStagesOf members stages → files_read stages ≡ files_named members
all-read [] [] are = refl
all-read [] (stage ∷ stages) are = absurd are
all-read (member ∷ members) [] are = absurd are
all-read (member ∷ members) (stage ∷ stages) are =
    ap (λ (it : List In). filter_map file_in it ++ files_read stages) (ins-so member.inv member.operands.items member.tees.items stage are.0)
    ∙ ap (λ (it : List Components). filter_map file_in (ins_of (deals (command_of member.inv)) member.operands.items) ++ it) (all-read members stages are.1)

there-in : (files : Files) → NoWriterOut files → (members : List Member) (stages : List Stage) → AreStagesOf members stages → AllNamesStand files members → AllThere files stages
there-in files whole [] [] are stand = tt
there-in files whole [] (stage ∷ stages) are stand = absurd are
there-in files whole (member ∷ members) [] are stand = absurd are
there-in files whole (member ∷ members) (stage ∷ stages) are stand =
    (stage-there member.inv member.operands.items member.tees.items stage are.0 files whole stand.0, there-in files whole members stages are.1 stand.1)

pub all-there : (held : Option Files) (members : List Member) (stages : List Stage) → AreStagesOf members stages → IfSome held NoWriterOut
    → IfSome held (λ files. AllNamesStand files members) → IfSome held (λ files. AllThere files stages)
all-there None members stages are whole stand = tt
all-there (Some files) members stages are whole stand = there-in files whole members stages are stand

-- each can be run, and none reads the null device
pub all-stages : (members : List Member) (stages : List Stage) → AreStagesOf members stages → AllCanRun members → list_all is_stage stages ≡ true
all-stages [] [] are can = refl
all-stages [] (stage ∷ stages) are can = absurd are
all-stages (member ∷ members) [] are can = absurd are
all-stages (member ∷ members) (stage ∷ stages) are can =
    ap (λ test. test && list_all is_stage stages) (is-stage member.inv member.operands.items member.tees.items stage are.0 can.0.built can.0.named can.0.few can.0.tees) ∙ all-stages members stages are.1 can.1

no-null-read : (members : List Member) (stages : List Stage) → AreStagesOf members stages → AllCanRun members → list_any is_null_path (files_read stages) ≡ false
no-null-read [] [] are can = refl
no-null-read [] (stage ∷ stages) are can = absurd are
no-null-read (member ∷ members) [] are can = absurd are
no-null-read (member ∷ members) (stage ∷ stages) are can =
    list_any-append is_null_path (filter_map file_in (S.ins_of stage)) (files_read stages)
    ∙ ap (λ null. null || list_any is_null_path (files_read stages)) (no-null-in member.inv member.operands.items member.tees.items stage are.0 can.0.built can.0.named can.0.few)
    ∙ no-null-read members stages are.1 can.1

pub all-apart : (members : List Member) (stages : List Stage) → AreStagesOf members stages → AllCanRun members → AreWrittenApart (files_named members) (files_teed members)
    → ArePathsApart (files_read stages) (files_written stages)
all-apart members stages are can apart =
    apart-so (files_read stages) (files_written stages) (files_named members) (files_teed members) (all-read members stages are) (all-written members stages are) (no-null-read members stages are can) apart

-- each reads the output of the one before
output-all : (members : List Member) (stages : List Stage) → AreStagesOf members stages → AllCanRun members → (stream : List ℕ) (files : Components → List ℕ)
    → (chain_means stages stream files).output ≡ output_through members files stream
output-all [] [] are can stream files = refl
output-all [] (stage ∷ stages) are can stream files = absurd are
output-all (member ∷ members) [] are can stream files = absurd are
output-all (member ∷ []) (stage ∷ []) are can stream files = output-left member.inv member.operands.items member.tees.items stage are.0 can.0.built can.0.named can.0.few stream files
output-all (member ∷ []) (stage ∷ next ∷ stages) are can stream files = absurd are.1
output-all (member ∷ other ∷ members) (stage ∷ []) are can stream files = absurd are.1
output-all (member ∷ other ∷ members) (stage ∷ next ∷ stages) are can stream files =
    ap (λ (it : List ℕ). (chain_means (next ∷ stages) it files).output) (output-left member.inv member.operands.items member.tees.items stage are.0 can.0.built can.0.named can.0.few stream files)
    ∙ output-all (other ∷ members) (next ∷ stages) are.1 can.1 (member_output member files stream) files

status-all : (members : List Member) (stages : List Stage) → AreStagesOf members stages → AllCanRun members → (stream : List ℕ) (files : Components → List ℕ)
    → (chain_means stages stream files).status ≡ status_through members files stream
status-all [] [] are can stream files = refl
status-all [] (stage ∷ stages) are can stream files = absurd are
status-all (member ∷ members) [] are can stream files = absurd are
status-all (member ∷ []) (stage ∷ []) are can stream files = status-left member.inv member.operands.items member.tees.items stage are.0 can.0.built can.0.named can.0.few stream files
status-all (member ∷ []) (stage ∷ next ∷ stages) are can stream files = absurd are.1
status-all (member ∷ other ∷ members) (stage ∷ []) are can stream files = absurd are.1
status-all (member ∷ other ∷ members) (stage ∷ next ∷ stages) are can stream files =
    ap (λ (it : List ℕ). (chain_means (next ∷ stages) it files).status) (output-left member.inv member.operands.items member.tees.items stage are.0 can.0.built can.0.named can.0.few stream files)
    ∙ status-all (other ∷ members) (next ∷ stages) are.1 can.1 (member_output member files stream) files

texts-all : (members : List Member) (stages : List Stage) → AreStagesOf members stages → AllCanRun members → (stream : List ℕ) (files : Components → List ℕ)
    → texts_for (chain_means stages stream files).files ≡ texts_through members files stream
texts-all [] [] are can stream files = refl
texts-all [] (stage ∷ stages) are can stream files = absurd are
texts-all (member ∷ members) [] are can stream files = absurd are
texts-all (member ∷ []) (stage ∷ []) are can stream files =
    texts-left member.inv member.operands.items member.tees.items stage are.0 can.0.built can.0.named can.0.few stream files can.0.tees ∙ sym (append-nil (member_texts member files stream))
texts-all (member ∷ []) (stage ∷ next ∷ stages) are can stream files = absurd are.1
texts-all (member ∷ other ∷ members) (stage ∷ []) are can stream files = absurd are.1
texts-all (member ∷ other ∷ members) (stage ∷ next ∷ stages) are can stream files =
    let here : Outcome = stage_means stage stream files in
    map-append (λ (file : Components × (Mode × List ℕ)). file.1.1) here.files (chain_means (next ∷ stages) here.output files).files
    ∙ ap (λ (it : List (List ℕ)). it ++ texts_for (chain_means (next ∷ stages) here.output files).files)
    (texts-left member.inv member.operands.items member.tees.items stage are.0 can.0.built can.0.named can.0.few stream files can.0.tees)
    ∙ ap (λ (it : List (List ℕ)). member_texts member files stream ++ it)
    (ap (λ (it : List ℕ). texts_for (chain_means (next ∷ stages) it files).files) (output-left member.inv member.operands.items member.tees.items stage are.0 can.0.built can.0.named can.0.few stream files)
    ∙ texts-all (other ∷ members) (next ∷ stages) are.1 can.1 (member_output member files stream) files)

reads-all-first : (members : List Member) (stages : List Stage) → AreStagesOf members stages → reads_stream stages ≡ reads_first members
reads-all-first [] [] are = refl
reads-all-first [] (stage ∷ stages) are = absurd are
reads-all-first (member ∷ members) [] are = absurd are
reads-all-first (member ∷ members) (stage ∷ stages) are = ap (λ (it : List In). list_any is_stream it) (ins-so member.inv member.operands.items member.tees.items stage are.0)

noted-all : (members : List Member) (stages : List Stage) → AreStagesOf members stages → AllCanRun members → noted_in stages ≡ noted_of members
noted-all [] [] are can = refl
noted-all [] (stage ∷ stages) are can = absurd are
noted-all (member ∷ members) [] are can = absurd are
noted-all (member ∷ members) (stage ∷ stages) are can =
    ap (λ (it : List Noted). it ++ noted_in stages) (noted-so member.inv member.operands.items member.tees.items stage are.0 can.0.built can.0.named can.0.few)
    ∙ ap (λ (it : List Noted). run_noted member.inv member.operands.items ++ it) (noted-all members stages are.1 can.1)

pub all-asks : (members : List Member) (stages : List Stage) → AreStagesOf members stages → AllCanRun members → (from : First) → segment_asks stages from ≡ pipeline_asks members from
all-asks members stages are can from = λ i. record {
  output = λ input files. output-all members stages are can (begins_with from input) (bytes_at files) i;
  status = λ input files. status-all members stages are can (begins_with from input) (bytes_at files) i;
  reads = is_shell_input from && reads-all-first members stages are i;
  noted = noted-all members stages are can i;
  paths = all-written members stages are i;
  texts = λ input files. texts-all members stages are can (begins_with from input) (bytes_at files) i;
}

pub ruleset stage_steps = (stages-more)
