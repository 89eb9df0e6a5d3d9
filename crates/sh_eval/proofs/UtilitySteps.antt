-- A utility that was run over its inputs is evaluated.
use Rattle.std.proofs.Common.{◌≡◌, ◌≤◌, ◌<◌, ◌+◌, ◌^◌, ℕ, List, [], ◌∷◌, ◌++◌, map, Bool, true, false, not, ◌&&◌, ◌||◌, ◌==◌, length, Option, Some, None, IfSome, refl, sym, ap, ◌∙◌, subst, append-nil, arith, if◌then◌else◌, ◌-◌, take}
use Rattle.std.proofs.Math.Seq.{take-length}
use Rattle.std.proofs.lemmas.Bool.{true≢false}
use Rattle.std.specs.List.{list_any}
use Rattle.ps_world.specs.Files.{Files, bytes_at}
use Rattle.ps_world.specs.Paths.{Components}
use Rattle.ps_world.specs.Places.{is_null_path}
use Rattle.ps_world.specs.declared.places.Place.TheVariants as place
use Rattle.ps_world.specs.TreeState.{TreeState}
use Rattle.ut_args.specs.Built.{is_built_of}
use Rattle.ut_args.specs.Inputs.{operands_of, remaining}
use Rattle.ut_args.specs.Invocations.{command_of, words_of}
use Rattle.ut_args.specs.declared.invocations.Inv.{Inv}
use Rattle.ut_args.specs.declared.invocations.Inv.TheVariants as invs
use Rattle.ut_streams.specs.Utilities.{Input}
use Rattle.fl_graph.specs.Paths.{are_distinct, is_among}
use Rattle.fl_classes.specs.Utilities.{labelled}
use Rattle.fl_segments.specs.Chains.{begins_with, text_in}
use Rattle.fl_segments.specs.Stages.{is_shell_input, is_stream, is_tee}
use Rattle.fl_segments.specs.declared.stages.First.{First}
use Rattle.fl_segments.specs.declared.stages.In.{In}
use Rattle.fl_segments.specs.declared.stages.In.TheVariants as inlet
use Rattle.fl_commands.specs.Inner.Stages.{command_left, inputs_with, some_lacks, words_left, run_noted}
use Rattle.fl_commands.specs.Inputs.{noted_over, output_for, selects_for, status_of}
use Rattle.fl_commands.specs.Operands.{AllStand, AreNamed, ins_of, without_input}
use Rattle.fl_commands.specs.Runs.{command_asks}
use Rattle.fl_commands.specs.Writers.{AreBegun, AreFilesAt, AreWrittenApart, MayWrite}
use Rattle.fl_commands.specs.declared.operands.Operand.{Operand}
use Rattle.fl_commands.specs.declared.operands.Operand.TheVariants as operand
use Rattle.sh_expand.specs.Outcomes.{Expansions}
use Rattle.sh_eval.specs.declared.flows.Flow.TheVariants as flow
use Rattle.sh_eval.specs.declared.outcomes.How.{How}
use Rattle.sh_eval.specs.declared.outcomes.How.TheVariants as how
use Rattle.sh_eval.specs.declared.session.Session.{Session}
use Rattle.sh_eval.specs.declared.shell.Shell.{Shell}
use Rattle.sh_eval.specs.Contract.{Seen, Faults, faults_of, Point, point_of, Base, Has, Meaning, Evaluates, goes_on}
use Rattle.sh_eval.specs.Growth.{Grows, Adds}
use Rattle.sh_eval.specs.Inner.Inputs.{AreNamedIn, called_by, is_own_input, lines_by, lines_of, reads_stream, runs_behind}
use Rattle.sh_eval.specs.Inner.Runs.{AreMeant, given_all, inputs_of, takes, tee_asks, tee_does, utility_does}
use Rattle.sh_eval.specs.Shells.{with_status}
use Rattle.sh_eval.specs.States.{State, after, on, leaves, tells, to_read}
use Rattle.sh_eval.specs.Table.{pages}
use Rattle.sh_eval.specs.Teeing.{copies, status_by}
use Rattle.sh_eval.specs.Utilities.{Called, Given, deals, does_nothing, given_to, has_none, is_silent, lines_told, needs_all, reads_standard, runs_utility, takes_inputs, tells_some, words_without, writes_out}
use Rattle.sh_eval.proofs.Growing.{adds-takes_inputs, grows-self}
use Rattle.sh_eval.proofs.OperandSteps.{looked, inputs-are, lines-are, lacks-are, emptied-are, reads-are, streams-are, all-inputs, as-many, output-left, selects-left}
use Rattle.sh_eval.proofs.Steps.{changed, followed, meant-at, nothing, stopped}

and-true : (is : Bool) → (is && true) ≡ is
and-true true = refl
and-true false = refl

and-false : (is : Bool) → (is && false) ≡ false
and-false true = refl
and-false false = refl

-- a stream that no input is doesn't count
unread : (stream other : List ℕ) (files : Components → List ℕ) (ins : List In) → list_any is_stream ins ≡ false → map (text_in stream files) ins ≡ map (text_in other files) ins
unread stream other files [] none = refl
unread stream other files (inlet.Stream ∷ rest) none = absurd (true≢false none)
unread stream other files (inlet.File path closed ∷ rest) none = ap (λ (it : List (List ℕ)). files path ∷ it) (unread stream other files rest none)
unread stream other files (inlet.Empty ∷ rest) none = ap (λ (it : List (List ℕ)). [] ∷ it) (unread stream other files rest none)

-- WHAT IS ASKED FOR of a utility whose operands name these is what it means; where it needs all its operands, each has an input
module _ (name : List ℕ) (asked : Inv) (operands : List Operand) (needed : (needs_all (command_of asked) && some_lacks operands) ≡ false) (state : State) (named-is : operands ≡ looked state (operands_of asked)) where
  abbrev dealt : Bool
  dealt = deals (command_of asked)

  abbrev inputs : List ℕ → List Input
  inputs stream = inputs_with dealt (operands_of asked) operands stream (bytes_at state.world.files)

  reads-is : reads_stream operands ≡ reads_standard (operands_of asked)
  reads-is = ap reads_stream named-is ∙ reads-are state (operands_of asked)

  -- its inputs, where the stream is what descriptor 0 gives, or isn't read
  pub inputs-so : (stream : List ℕ) → (reads_stream operands ≡ true → stream ≡ to_read state) → inputs stream ≡ inputs_of name asked state
  inputs-so stream begins = by_reads (reads_stream operands) refl
    where
      names : List (List ℕ)
      names = operands_of asked

      texts : List ℕ → List (List ℕ)
      texts stream = map (text_in stream (bytes_at state.world.files)) (ins_of dealt operands)

      same : texts stream ≡ texts (to_read state) → inputs_with dealt names operands stream (bytes_at state.world.files) ≡ inputs_of name asked state
      same is =
          ap (labelled (remaining (without_input dealt false operands) names)) is
          ∙ ap (λ (it : List Operand). labelled (remaining (without_input dealt false it) names) (map (text_in (to_read state) (bytes_at state.world.files)) (ins_of dealt it))) named-is
          ∙ sym (inputs-are state name dealt names)

      by_reads : (reads : Bool) → reads_stream operands ≡ reads → inputs_with dealt names operands stream (bytes_at state.world.files) ≡ inputs_of name asked state
      by_reads true is = same (ap texts (begins is))
      by_reads false is = same (unread stream (to_read state) (bytes_at state.world.files) (ins_of dealt operands) (streams-are dealt operands ∙ is))

  pub output-so : (stream : List ℕ) → (reads_stream operands ≡ true → stream ≡ to_read state)
      → output_for (command_left (command_of asked) operands) (inputs stream) ≡ (utility_does name asked).written state
  output-so stream begins = output-left operands (inputs stream) (command_of asked) needed ∙ ap (output_for (command_of asked)) (inputs-so stream begins)

  pub status-so : (stream : List ℕ) → (reads_stream operands ≡ true → stream ≡ to_read state)
      → status_of (command_of asked) (some_lacks operands) (selects_for (command_left (command_of asked) operands) (inputs stream)) ≡ (utility_does name asked).status state
  status-so stream begins =
      ap (status_of (command_of asked) (some_lacks operands)) (selects-left operands (inputs stream) (command_of asked) needed ∙ ap (selects_for (command_of asked)) (inputs-so stream begins))
      ∙ ap (λ (it : Bool). status_of (command_of asked) it (selects_for (command_of asked) (inputs_of name asked state))) (ap some_lacks named-is ∙ sym (lacks-are state (operands_of asked)))

  -- it is noted where it is meant to be, by its words
  words-so : words_left (words_of asked) (operands_of asked) operands ≡ words_without (has_none state) (called_by asked)
  words-so =
      ap (words_left (words_of asked) (operands_of asked)) named-is
      ∙ ap (λ (it : List (List ℕ)). take (length (words_of asked) - length (operands_of asked)) (words_of asked) ++ it) (sym (emptied-are state (operands_of asked)))

  pub noted-so : run_noted asked operands ≡ (utility_does name asked).ran state
  noted-so =
      λ i. noted_over (command_of asked) (words-so i) (count-so i)
    where
      count-so : length (ins_of dealt operands) ≡ length (inputs_of name asked state)
      count-so =
          ap (λ (it : List Operand). length (ins_of dealt it)) named-is
          ∙ sym (all-inputs (remaining (without_input dealt false (looked state (operands_of asked))) (operands_of asked)) (ins_of dealt (looked state (operands_of asked))) (text_in (to_read state) (bytes_at state.world.files)))
          ∙ ap (λ (it : List Input). length it) (sym (inputs-are state name dealt (operands_of asked)))

  -- the standard input is read where the meaning reads it
  pub own-so : (first : First) (reads : Bool) → reads_stream operands ≡ reads → (reads ≡ true → is_shell_input first ≡ is_own_input state.session.streams.from)
      → (is_shell_input first && list_any is_stream (ins_of dealt operands)) ≡ (reads && is_own_input state.session.streams.from)
  own-so first true is own = ap (λ (it : Bool). is_shell_input first && it) (streams-are dealt operands ∙ is) ∙ and-true (is_shell_input first) ∙ own refl
  own-so first false is own = ap (λ (it : Bool). is_shell_input first && it) (streams-are dealt operands ∙ is) ∙ and-false (is_shell_input first)

pub utility-meant : (name : List ℕ) (asked : Inv) (operands : List Operand) (tree : TreeState) → (needs_all (command_of asked) && some_lacks operands) ≡ false → AreNamedIn tree (operands_of asked) operands
    → AreMeant (command_asks asked operands []) (reads_stream operands) (utility_does name asked) tree
utility-meant name asked operands tree needed looks first state held home begins =
    let named : operands ≡ looked state (operands_of asked) = looks state held home in
    record {
      same = reads-is name asked operands needed state named;
      output = output-so name asked operands needed state named (begins_with first state.world.input) begins.text;
      status = status-so name asked operands needed state named (begins_with first state.world.input) begins.text;
      noted = noted-so name asked operands needed state named;
      drawn = own-so name asked operands needed state named first (reads_stream operands) refl begins.own;
      added = λ files. refl;
    }

-- this is what it means
pub inputs-meant : (name : List ℕ) (asked : Inv) (state : State) → takes_inputs pages name (called_by asked) state ≡ takes [] (utility_does name asked) state
inputs-meant name asked state = refl

pub takes-meant : (name : List ℕ) (asked : Inv) (old new : Point) (came : How) → Evaluates (λ expansions. takes [] (utility_does name asked)) old came new
    → Evaluates (λ expansions. takes_inputs pages name (called_by asked)) old came new
takes-meant name asked old new came one =
    meant-at (λ expansions. takes_inputs pages name (called_by asked)) (λ expansions. takes [] (utility_does name asked)) old new came (λ expansions base state has. inputs-meant name asked state) one

-- TEE. Its words are noted whole, since no operand of it is an input
words-whole : (words : List (List ℕ)) → take (length words - 0) words ++ [] ≡ words
words-whole words =
    let all : length words - 0 ≡ length words = omega arith in
    ap (λ (it : ℕ). take it words ++ []) all ∙ append-nil (take (length words) words) ∙ take-length words

pub tee-meant : (asked : Inv) (left status : ℕ) (own : List Components) (tree : TreeState) → is_tee asked ≡ true → left ≡ status → AreMeant (tee_asks asked left own) true (tee_does (called_by asked) status) tree
tee-meant (invs.Tee tee) left status own tree is same first state held home begins =
    let text_is : begins_with first state.world.input ++ [] ≡ to_read state = append-nil (begins_with first state.world.input) ∙ begins.text refl in
    record {
      same = refl;
      output = text_is;
      status = same;
      noted = ap (λ (it : List (List ℕ)). noted_over (command_of (invs.Tee tee)) it 1) (words-whole tee.words);
      drawn = and-true (is_shell_input first) ∙ begins.own refl;
      added = λ files. ap (λ (it : List ℕ). given_all own it files) text_is;
    }
tee-meant other left status own tree is same first state held home begins = absurd (true≢false (sym is))

pub copies-meant : (called : Called) (files : List Components) (is_whole : Bool) (old new : Point) (came : How) → Evaluates (λ expansions. takes files (tee_does called (status_by is_whole))) old came new
    → Evaluates (λ expansions. copies called files is_whole) old came new
copies-meant called files is_whole old new came one =
    meant-at (λ expansions. copies called files is_whole) (λ expansions. takes files (tee_does called (status_by is_whole))) old new came (λ expansions base state has. refl) one

-- what is handed to its run
pub tee-built : (asked : Inv) → is_tee asked ≡ true → is_built_of asked ≡ true
tee-built (invs.Tee tee) is = refl
tee-built other is = absurd (true≢false (sym is))

pub tee-named : (asked : Inv) → is_tee asked ≡ true → AreNamed (operands_of asked) []
tee-named (invs.Tee tee) is = tt
tee-named other is = absurd (true≢false (sym is))

pub tee-writes : (asked : Inv) (files : List Components) → is_tee asked ≡ true → MayWrite asked files
tee-writes asked [] is = tt
tee-writes asked (path ∷ files) is = is

pub tee-stands : (held : Option Files) → IfSome held (λ files. AllStand files [])
tee-stands None = tt
tee-stands (Some files) = tt

pub tee-begun : (held : Option Files) (files : List Components) → IfSome held (λ held. AreFilesAt held files) → AreBegun held files
tee-begun held [] there = tt
tee-begun held (path ∷ files) there = there

-- files that are apart
among-none : (files : List Components) → list_any (is_among []) files ≡ false
among-none [] = refl
among-none (path ∷ files) = among-none files

apart-by : (files : List Components) → are_distinct files ≡ true → list_any is_null_path files ≡ false → AreWrittenApart [] files
apart-by [] once none = tt
apart-by (path ∷ files) once none = record { apart = among-none (path ∷ files); once = once; files = none }

not-so : (is : Bool) → not is ≡ true → is ≡ false
not-so true none = absurd (true≢false (sym none))
not-so false none = refl

pub apart-so : (files : List Components) (distinct null : Bool) → distinct ≡ are_distinct files → null ≡ list_any is_null_path files → distinct ≡ true → not null ≡ true → AreWrittenApart [] files
apart-so files distinct null distinct_is null_is once none = apart-by files (sym distinct_is ∙ once) (sym null_is ∙ not-so null none)

-- THE WHOLE UTILITY: the lines, and what is behind them
module _ (name : List ℕ) (asked : Inv) (lines : List ℕ) (skips : Bool) where
  pub behind-adds : (expansions : Expansions) → Adds (runs_behind skips name asked)
  behind-adds expansions state = by_skip skips
    where
      by_skip : (it : Bool) → Grows state (runs_behind it name asked state).state
      by_skip true = grows-self state
      by_skip false = adds-takes_inputs pages name (called_by asked) state

  -- what is behind them, by whether it does nothing
  pub behind-skips : (shell shell' : Shell) (session : Session) (tree : TreeState) (seen : Seen) (faults : Faults) (status : ℕ) → skips ≡ true → status ≡ status_of (command_of asked) true false → shell' ≡ with_status status shell
      → Evaluates (λ expansions. runs_behind skips name asked) (point_of shell session tree seen faults) (how.Gone flow.On) (point_of shell' session tree seen faults)
  behind-skips shell shell' session tree seen faults status is status_is shell_is =
      subst (λ (it : Bool). Evaluates (λ expansions. runs_behind it name asked) (point_of shell session tree seen faults) (how.Gone flow.On) (point_of shell' session tree seen faults)) (sym is)
      (changed flow.On (with_status (status_of (command_of asked) true false)) shell shell' session tree seen faults (shell_is ∙ ap (λ (it : ℕ). with_status it shell) status_is))

  pub behind-runs : (old new : Point) (came : How) → skips ≡ false → Evaluates (λ expansions. takes_inputs pages name (called_by asked)) old came new
      → Evaluates (λ expansions. runs_behind skips name asked) old came new
  behind-runs old new came is one = subst (λ (it : Bool). Evaluates (λ expansions. runs_behind it name asked) old came new) (sym is) one

  -- what is meant, by what the operands name
  utility-is : (state : State) → lines ≡ lines_by name asked (looked state (operands_of asked)) → skips ≡ (needs_all (command_of asked) && some_lacks (looked state (operands_of asked)))
      → runs_utility pages name (called_by asked) state ≡ runs_behind skips name asked (tells_some lines state)
  utility-is state told skipped =
      ap (λ (it : Bool). if it then does_nothing pages name (called_by asked) state else writes_out pages name (called_by asked) state)
      (ap (λ (it : Bool). needs_all (command_of asked) && it) (lacks-are state (operands_of asked)) ∙ sym skipped)
      ∙ by_skip skips
    where
      lines-is : lines_told (command_of asked) (given_to state (deals (command_of asked)) name (operands_of asked)) ≡ lines
      lines-is = ap (λ (it : List ℕ). if is_silent (command_of asked) then [] else it) (lines-are state name (deals (command_of asked)) (operands_of asked)) ∙ sym told

      by_skip : (it : Bool) → (if it then does_nothing pages name (called_by asked) state else writes_out pages name (called_by asked) state)
          ≡ runs_behind it name asked (tells_some lines state)
      by_skip true = ap (λ (it : List ℕ). on (leaves (status_of (command_of asked) true false) (tells_some it state))) lines-is
      by_skip false = ap (λ (it : List ℕ). takes_inputs pages name (called_by asked) (tells_some it state)) lines-is

  module _ (operands : List Operand) (old : Point) (looks : AreNamedIn old.tree (operands_of asked) operands) (told : lines ≡ lines_by name asked operands)
      (skipped : skips ≡ (needs_all (command_of asked) && some_lacks operands)) where
    abbrev both : Meaning
    both expansions state = after (on (tells_some lines state)) (runs_behind skips name asked)

    same : (expansions : Expansions) (base : Base) (state : State) → Has base old state → runs_utility pages name (called_by asked) state ≡ both expansions state
    same expansions base state has =
        utility-is state (told ∙ ap (lines_by name asked) (looks state has.held has.home)) (skipped ∙ ap (λ (it : List Operand). needs_all (command_of asked) && some_lacks it) (looks state has.held has.home))

    pub utility-stopped : (new : Point) (came : How) → goes_on came ≡ false → Evaluates (λ expansions state. on (tells_some lines state)) old came new
        → Evaluates (λ expansions. runs_utility pages name (called_by asked)) old came new
    utility-stopped new came off one =
        meant-at (λ expansions. runs_utility pages name (called_by asked)) both old new came same
        (stopped (λ expansions state. on (tells_some lines state)) (λ expansions. runs_behind skips name asked) old new came off behind-adds one)

    pub utility-followed : (mid new : Point) (came then_how : How) → goes_on came ≡ true → Evaluates (λ expansions state. on (tells_some lines state)) old came mid
        → Evaluates (λ expansions. runs_behind skips name asked) mid then_how new → Evaluates (λ expansions. runs_utility pages name (called_by asked)) old then_how new
    utility-followed mid new came then_how is one other =
        meant-at (λ expansions. runs_utility pages name (called_by asked)) both old new then_how same
        (followed (λ expansions state. on (tells_some lines state)) (λ expansions. runs_behind skips name asked) old mid new came then_how is one other)

-- the tree was asked, and is as it was
pub asked-before : (means : Meaning) (shell : Shell) (session : Session) (tree tree' : TreeState) (seen : Seen) (input output errors before now : ℕ) (came : How) (new : Point) → tree' ≡ tree → now ≡ before
    → Evaluates means (point_of shell session tree' seen (faults_of input output errors now)) came new → Evaluates means (point_of shell session tree seen (faults_of input output errors before)) came new
asked-before means shell session tree tree' seen input output errors before now came new tree_is now_is one =
    subst (λ (it : TreeState). Evaluates means (point_of shell session it seen (faults_of input output errors before)) came new) tree_is
    (subst (λ (it : ℕ). Evaluates means (point_of shell session tree' seen (faults_of input output errors it)) came new) now_is one)

-- where each operand has an input nothing is told of them
lines-none : (name : List ℕ) (texts : List (List ℕ)) (operands : List Operand) → some_lacks operands ≡ false → lines_of name texts operands ≡ []
lines-none name [] operands none = refl
lines-none name (text ∷ texts) [] none = refl
lines-none name (text ∷ texts) (operand.Standard ∷ rest) none = lines-none name texts rest none
lines-none name (text ∷ texts) (operand.At place.Missing ∷ rest) none = absurd (true≢false none)
lines-none name (text ∷ texts) (operand.At (place.Makeable path) ∷ rest) none = absurd (true≢false none)
lines-none name (text ∷ texts) (operand.At (place.Dir path) ∷ rest) none = absurd (true≢false none)
lines-none name (text ∷ texts) (operand.At (place.File path) ∷ rest) none = lines-none name texts rest none
lines-none name (text ∷ texts) (operand.At place.Null ∷ rest) none = lines-none name texts rest none

pub untold : (name : List ℕ) (asked : Inv) (operands : List Operand) → (needs_all (command_of asked) && some_lacks operands) ≡ false → needs_all (command_of asked) ≡ true → lines_by name asked operands ≡ []
untold name asked operands needed needs =
    either (is_silent (command_of asked)) (lines_of name (operands_of asked) operands)
    (lines-none name (operands_of asked) operands (ap (λ (it : Bool). it && some_lacks operands) (sym needs) ∙ needed))
  where
    either : (is : Bool) (lines : List ℕ) → lines ≡ [] → (if is then [] else lines) ≡ []
    either true lines none = refl
    either false lines none = none

-- and of one that needs them all they are not looked up again
pub needed-again : (needs : Bool) (lines : List ℕ) (found again : List Operand) → (needs && some_lacks found) ≡ false → (needs ≡ true → lines ≡ []) → (lines ≡ [] → again ≡ found) → (needs && some_lacks again) ≡ false
needed-again true lines found again needed none same = ap some_lacks (same (none refl)) ∙ needed
needed-again false lines found again needed none same = refl

-- so few operands are counted in 32 bits
pub few-operands : (texts : List (List ℕ)) (operands : List Operand) → length texts ≤ 256 → AreNamed texts operands → length operands + 1 < 2 ^ 32
few-operands texts operands few are = let same = as-many texts operands are in omega (arith, few, same)

-- lines are told where there is one
pub told-some : (lines : List ℕ) (old new : Point) (came : How) → 0 < length lines → Evaluates (λ expansions state. on (tells lines state)) old came new → Evaluates (λ expansions state. on (tells_some lines state)) old came new
told-some [] old new came some one = absurd (omega (arith, some))
told-some (byte ∷ bytes) old new came some one = one

pub told-none : (lines : List ℕ) (at : Point) → lines ≡ [] → Evaluates (λ expansions state. on (tells_some lines state)) at (how.Gone flow.On) at
told-none lines at none = subst (λ (it : List ℕ). Evaluates (λ expansions state. on (tells_some it state)) at (how.Gone flow.On) at) (sym none) (nothing at)

-- what a slice or a sink gives, said of what is in it
pub skips-so : (asked : Inv) (skips : Bool) (slice operands : List Operand) → slice ≡ operands → skips ≡ (needs_all (command_of asked) && some_lacks slice) → skips ≡ (needs_all (command_of asked) && some_lacks operands)
skips-so asked skips slice operands same is = is ∙ ap (λ (it : List Operand). needs_all (command_of asked) && some_lacks it) same
