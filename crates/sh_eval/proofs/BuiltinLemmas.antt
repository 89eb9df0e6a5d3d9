-- The shell's own commands.
use Rattle.std.proofs.Common.{◌≡◌, ℕ, ◌≤◌, zero, suc, min, nat_le, List, [], ◌∷◌, length, drop, Bool, true, false, Option, IfSome, Result, Err, IsErrOf, refl, sym, ap, ◌∙◌, subst, if◌then◌else◌, arith}
use Rattle.ps_world.specs.Counts.{Counts}
use Rattle.ps_world.specs.TreeState.{TreeState, Balanced}
use Rattle.ps_world.specs.Places.{resolve}
use Rattle.ps_world.specs.Files.{Files}
use Rattle.ps_world.specs.declared.error.WorldErr.{WorldErr}
use Rattle.ps_world.specs.declared.error.WorldErr.TheVariants as error
use Rattle.ps_world.proofs.TreeStateLemmas.{balanced-none}
use Rattle.sh_expand.specs.Outcomes.{Expansions}
use Rattle.ut_args.specs.declared.commands.Command.{Command}
use Rattle.ut_args.specs.declared.commands.Command.TheVariants as command
use Rattle.ut_test.specs.Tests.{tested_by}
use Rattle.ut_test.specs.Echo.{echoed}
use Rattle.ut_test.specs.declared.outcomes.Tested.{Tested}
use Rattle.ut_test.specs.declared.outcomes.Tested.TheVariants as tested
use Rattle.ut_test.specs.Fields.{fields_read}
use Rattle.sh_expand.specs.Separators.{ifs_of}
use Rattle.sh_eval.specs.Commands.{set_to}
use Rattle.std.specs.Option.{unwrap_or}
use Rattle.sh_eval.specs.declared.flows.Flow.{Flow}
use Rattle.sh_eval.specs.declared.flows.Flow.TheVariants as flow
use Rattle.sh_eval.specs.declared.outcomes.How.{How}
use Rattle.sh_eval.specs.declared.outcomes.How.TheVariants as how
use Rattle.sh_eval.specs.declared.session.Session.{Session}
use Rattle.sh_eval.specs.declared.shell.Shell.{Shell}
use Rattle.sh_eval.specs.Shells.{with_status}
use Rattle.sh_eval.specs.States.{State, Means, ends, on, leaves, puts, tells, to_read, reads_to}
use Rattle.sh_eval.specs.Growth.{Grows, Adds}
use Rattle.sh_eval.specs.Asking.{Asked, no_name, unknown, unlisted, unusable, tee, utility, builtin, does}
use Rattle.sh_eval.specs.Builtins.{out_of, leaves_loops, sets, shifts, misused, answers, tests, echoes, reads, set_all, line_in, behind_line}
use Rattle.sh_eval.specs.Lines.{bad_usage}
use Rattle.sh_eval.specs.Redirections.{named_by}
use Rattle.fl_engines.specs.Logs.{Log}
use Rattle.sh_eval.specs.Contract.{Seen, Faults, Point, point_of, seen_of, drawn_of, faults_of, HasCause, IsGone, Meaning, Evaluates}
use Rattle.sh_eval.specs.Ending.{InShell, how_behind, status_behind}
use Rattle.sh_eval.proofs.Growing.{grows-self, grows-write, grows-leaving, adds-misused}
use Rattle.sh_eval.proofs.WritingLemmas.{meant}
use Rattle.sh_eval.proofs.EndingLemmas.{kept-same, changed, blamed, ended}

-- what a command of the table asks for is one thing
abbrev means_of : Means → Asked → Means
means_of none no_name = none
means_of none (unknown name) = none
means_of none (unlisted name letter) = none
means_of none (unusable is_special name) = none
means_of none (tee name called) = none
means_of none (utility name called) = none
means_of none (builtin is_special means) = means

pub asked-alone : (first second : Bool) (one other : Means) → builtin first one ≡ builtin second other → one ≡ other
asked-alone first second one other is = ap (means_of one) is

-- what it means, by what was evaluated
pub run-so : (first second : Bool) (one other : Means) (old new : Point) (came : How) → builtin first one ≡ builtin second other → Evaluates (λ expansions. one) old came new → Evaluates (λ expansions. other) old came new
run-so first second one other old new came is run = subst (λ (it : Means). Evaluates (λ expansions. it) old came new) (asked-alone first second one other is) run

-- each adds to what is there
pub adds-answer : (name : List ℕ) (found : Tested) → Adds (answers name found)
adds-answer name tested.Yes state = grows-self state
adds-answer name tested.No state = grows-self state
adds-answer name tested.BadUsage state = adds-misused flow.On name state

pub adds-shift : (name : List ℕ) (count : ℕ) → Adds (shifts name count)
adds-shift name count state = by_count (nat_le count (length state.shell.arguments))
  where
    by_count : (is_there : Bool) → Grows state (if is_there then sets (drop count state.shell.arguments) state else misused flow.Exit name state).state
    by_count true = grows-self state
    by_count false = adds-misused flow.Exit name state

grows-set : (start : State) (names texts : List (List ℕ)) (state : State) → Grows start state → Grows start (set_all names texts state)
grows-set start [] texts state grows = grows
grows-set start (name ∷ names) [] state grows = grows
grows-set start (name ∷ names) (text ∷ texts) state grows = grows-set start names texts (set_to name text state) grows

pub adds-read : (names : List (List ℕ)) → Adds (reads names)
adds-read names state =
    let rest : List ℕ = behind_line (to_read state) in
    grows-set state names (fields_read (ifs_of state.shell.variables) (line_in (to_read state)) (length names)) (reads_to rest state) (grows-leaving state.session.streams.from rest state)

-- whatever is asked for adds to what is there
abbrev AddsIfAsked : Asked → Type 0
AddsIfAsked no_name = Unit {0}
AddsIfAsked (unknown name) = Unit {0}
AddsIfAsked (unlisted name letter) = Unit {0}
AddsIfAsked (unusable is_special name) = Unit {0}
AddsIfAsked (tee name called) = Unit {0}
AddsIfAsked (utility name called) = Unit {0}
AddsIfAsked (builtin is_special means) = Adds means

adds-if_asked : (name : List ℕ) (given : List (List ℕ)) (asked : Command) → AddsIfAsked (does name given asked)
adds-if_asked name given command.True = λ state. grows-self state
adds-if_asked name given command.False = λ state. grows-self state
adds-if_asked name given command.Colon = λ state. grows-self state
adds-if_asked name given (command.Break args) = λ state. grows-self state
adds-if_asked name given (command.Continue args) = λ state. grows-self state
adds-if_asked name given (command.Exit args) = λ state. grows-self state
adds-if_asked name given (command.Set args) = λ state. grows-self state
adds-if_asked name given (command.Shift args) = adds-shift name (unwrap_or args.count 1)
adds-if_asked name given (command.Unset args) = λ state. grows-self state
adds-if_asked name given (command.Read args) = adds-read args.names
adds-if_asked name given (command.Test args) = λ state. adds-answer name (tested_by (named_by state) args.arguments) state
adds-if_asked name given (command.Bracket args) = λ state. adds-answer name (tested_by (named_by state) args.arguments) state
adds-if_asked name given (command.Echo args) = λ state. grows-write state.session.streams.to (echoed args.operands) state
adds-if_asked name given (command.Cat args) = tt
adds-if_asked name given (command.Grep args) = tt
adds-if_asked name given (command.Tr args) = tt
adds-if_asked name given (command.Cut args) = tt
adds-if_asked name given (command.Head args) = tt
adds-if_asked name given (command.Tail args) = tt
adds-if_asked name given (command.Wc args) = tt
adds-if_asked name given (command.Uniq args) = tt
adds-if_asked name given (command.Sort args) = tt
adds-if_asked name given (command.Paste args) = tt
adds-if_asked name given (command.Tee args) = tt

pub asked-adds_to : (name : List ℕ) (given : List (List ℕ)) (asked : Command) (is_special : Bool) (means : Means) → does name given asked ≡ builtin is_special means → Adds means
asked-adds_to name given asked is_special means is = subst AddsIfAsked is (adds-if_asked name given asked)

-- BREAK AND CONTINUE
pub no_loop : (further : ℕ → Flow) (count loops : ℕ) → loops ≡ 0 → flow.On ≡ out_of further count loops
no_loop further count loops none = rw none refl

pub some_loop : (further : ℕ → Flow) (count loops : ℕ) → (loops ≡ 0 → ⊥) → further (min count loops) ≡ out_of further count loops
some_loop further count zero some = absurd (some refl)
some_loop further count (suc loops) some = refl

pub loops-left : (further : ℕ → Flow) (count : ℕ) (shell shell' : Shell) (came : Flow) → shell' ≡ with_status 0 shell → came ≡ out_of further count shell.loops
    → InShell (λ expansions. leaves_loops further count) shell (how.Gone came) shell'
loops-left further count shell shell' came is so =
    changed (λ expansions. leaves_loops further count) came (with_status 0) shell shell' is
    (λ expansions state same. ap (λ (it : Flow). ends it (leaves 0 state)) (so ∙ ap (λ (it : Shell). out_of further count it.loops) same))

-- SHIFT
pub shifted : (name : List ℕ) (count : ℕ) (old new : Point) (came : How) → nat_le count (length old.shell.arguments) ≡ true → Evaluates (λ expansions. sets (drop count old.shell.arguments)) old came new
    → Evaluates (λ expansions. shifts name count) old came new
shifted name count old new came within one =
    meant (λ expansions. sets (drop count old.shell.arguments)) (λ expansions. shifts name count) old new came
    (λ expansions base state has.
    let same : old.shell.arguments ≡ state.shell.arguments = ap (λ (it : Shell). it.arguments) has.shell in
    let is_within : nat_le count (length state.shell.arguments) ≡ true = ap (λ (it : List (List ℕ)). nat_le count (length it)) (sym same) ∙ within in
    rw is_within (ap (λ (it : List (List ℕ)). sets (drop count it) state) same)) one

pub shifted-past : (name : List ℕ) (count : ℕ) (old new : Point) (came : How) → nat_le count (length old.shell.arguments) ≡ false → Evaluates (λ expansions. misused flow.Exit name) old came new
    → Evaluates (λ expansions. shifts name count) old came new
shifted-past name count old new came past one =
    meant (λ expansions. misused flow.Exit name) (λ expansions. shifts name count) old new came
    (λ expansions base state has.
    let is_past : nat_le count (length state.shell.arguments) ≡ false = ap (λ (it : Shell). nat_le count (length it.arguments)) (sym has.shell) ∙ past in
    rw is_past refl) one

-- TEST
pub tested-so : (name : List ℕ) (arguments : List (List ℕ)) (found : Tested) (old new : Point) (came : How) → IfSome old.tree.held (λ files. found ≡ tested_by (resolve files old.tree.home) arguments)
    → Evaluates (λ expansions. answers name found) old came new → Evaluates (λ expansions. tests name arguments) old came new
tested-so name arguments found old new came is one =
    meant (λ expansions. answers name found) (λ expansions. tests name arguments) old new came
    (λ expansions base state has.
    let here : found ≡ tested_by (resolve state.world.files old.tree.home) arguments = subst (λ (it : Option Files). IfSome it (λ files. found ≡ tested_by (resolve files old.tree.home) arguments)) has.held is in
    ap (λ (it : Tested). answers name it state) (subst (λ home. found ≡ tested_by (resolve state.world.files home) arguments) has.home here)) one

pub adds-tests : (name : List ℕ) (arguments : List (List ℕ)) (expansions : Expansions) → Adds (tests name arguments)
adds-tests name arguments expansions state = adds-answer name (tested_by (named_by state) arguments) state

-- where the tree is as it was
pub tested-from : (name : List ℕ) (arguments : List (List ℕ)) (found : Tested) (shell : Shell) (session : Session) (tree tree' : TreeState) (seen : Seen) (input of_output of_errors of_tree of_tree' : ℕ) (new : Point) (came : How)
    → IfSome tree.held (λ files. found ≡ tested_by (resolve files tree.home) arguments) → tree' ≡ tree → of_tree' ≡ of_tree
    → Evaluates (λ expansions. answers name found) (point_of shell session tree' seen (faults_of input of_output of_errors of_tree')) came new
    → Evaluates (λ expansions. tests name arguments) (point_of shell session tree seen (faults_of input of_output of_errors of_tree)) came new
tested-from name arguments found shell session tree tree' seen input of_output of_errors of_tree of_tree' new came is same counts one =
    tested-so name arguments found (point_of shell session tree seen (faults_of input of_output of_errors of_tree)) new came is
    (subst (λ (it : TreeState). Evaluates (λ expansions. answers name found) (point_of shell session it seen (faults_of input of_output of_errors of_tree)) came new) same
    (subst (λ (it : ℕ). Evaluates (λ expansions. answers name found) (point_of shell session tree' seen (faults_of input of_output of_errors it)) came new) counts one))

-- the tree couldn't be asked
pub tree-failed : {T : Type 0} (means : Meaning) (shell : Shell) (session : Session) (tree tree' : TreeState) (seen : Seen) (input of_output of_errors of_tree of_tree' : ℕ) (found : Result T WorldErr)
    → ((expansions : Expansions) → Adds (means expansions)) → tree' ≡ tree → Counts of_tree of_tree' found → found ≡ Err error.Failed
    → Evaluates means (point_of shell session tree seen (faults_of input of_output of_errors of_tree)) how.TreeFault (point_of shell session tree' seen (faults_of input of_output of_errors of_tree'))
tree-failed means shell session tree tree' seen input of_output of_errors of_tree of_tree' found adds same counts is =
    blamed means (point_of shell session tree seen (faults_of input of_output of_errors of_tree)) (point_of shell session tree' seen (faults_of input of_output of_errors of_tree')) how.TreeFault adds (λ gone. gone) refl refl
    (kept-same means (point_of shell session tree seen (faults_of input of_output of_errors of_tree)) tree'.held adds (ap (λ (it : TreeState). it.held) same)) (omega arith)
    (record { input = omega arith; output = omega arith; errors = omega arith; tree = counts.later })
    (counts.failed (subst (λ it. IsErrOf it error.Failed) (sym is) refl)) (subst (λ (it : TreeState). Balanced tree it) (sym same) (balanced-none tree))

pub tree-wanted : (means : Meaning) (shell : Shell) (session : Session) (tree tree' : TreeState) (seen : Seen) (input of_output of_errors of_tree of_tree' : ℕ)
    → ((expansions : Expansions) → Adds (means expansions)) → tree' ≡ tree → of_tree ≤ of_tree'
    → Evaluates means (point_of shell session tree seen (faults_of input of_output of_errors of_tree)) how.Memory (point_of shell session tree' seen (faults_of input of_output of_errors of_tree'))
tree-wanted means shell session tree tree' seen input of_output of_errors of_tree of_tree' adds same later =
    blamed means (point_of shell session tree seen (faults_of input of_output of_errors of_tree)) (point_of shell session tree' seen (faults_of input of_output of_errors of_tree')) how.Memory adds (λ gone. gone) refl refl
    (kept-same means (point_of shell session tree seen (faults_of input of_output of_errors of_tree)) tree'.held adds (ap (λ (it : TreeState). it.held) same)) (omega arith)
    (record { input = omega arith; output = omega arith; errors = omega arith; tree = later }) tt (subst (λ (it : TreeState). Balanced tree it) (sym same) (balanced-none tree))

-- READ
pub read-stopped : (names : List (List ℕ)) (shell shell' : Shell) (session session' : Session) (tree : TreeState) (left left' taken errors : Option (List ℕ)) (used : Option Log) (input input' of_output of_errors of_tree : ℕ) (came : How)
    → (IsGone came → ⊥) → session.turns ≤ session'.turns → input ≤ input' → HasCause came (faults_of input of_output of_errors of_tree) (faults_of input' of_output of_errors of_tree)
    → Evaluates (λ expansions. reads names) (point_of shell session tree (seen_of (drawn_of left used) taken errors) (faults_of input of_output of_errors of_tree)) came
    (point_of shell' session' tree (seen_of (drawn_of left' used) taken errors) (faults_of input' of_output of_errors of_tree))
read-stopped names shell shell' session session' tree left left' taken errors used input input' of_output of_errors of_tree came off turns later cause =
    blamed (λ expansions. reads names) (point_of shell session tree (seen_of (drawn_of left used) taken errors) (faults_of input of_output of_errors of_tree))
    (point_of shell' session' tree (seen_of (drawn_of left' used) taken errors) (faults_of input' of_output of_errors of_tree)) came (λ expansions. adds-read names) off refl refl
    (kept-same (λ expansions. reads names) (point_of shell session tree (seen_of (drawn_of left used) taken errors) (faults_of input of_output of_errors of_tree)) tree.held (λ expansions. adds-read names) refl) turns
    (record { input = later; output = omega arith; errors = omega arith; tree = omega arith }) cause (balanced-none tree)

-- BEHIND WHAT WAS WRITTEN
pub misused-so : (way : Flow) (name line : List ℕ) (shell shell' : Shell) (session session' : Session) (tree tree' : TreeState) (seen seen' : Seen) (faults faults' : Faults) (came came' : How) → line ≡ bad_usage name
    → shell' ≡ status_behind came 2 shell → came' ≡ how_behind came way → Evaluates (λ expansions state. on (tells line state)) (point_of shell session tree seen faults) came (point_of shell session' tree' seen' faults')
    → Evaluates (λ expansions. misused way name) (point_of shell session tree seen faults) came' (point_of shell' session' tree' seen' faults')
misused-so way name line shell shell' session session' tree tree' seen seen' faults faults' came came' is shell_is came_is one =
    ended (λ expansions state. on (tells (bad_usage name) state)) way 2 shell shell' session session' tree tree' seen seen' faults faults' came came' shell_is came_is
    (subst (λ (it : List ℕ). Evaluates (λ expansions state. on (tells it state)) (point_of shell session tree seen faults) came (point_of shell session' tree' seen' faults')) is one)

pub echoed-so : (operands : List (List ℕ)) (text : List ℕ) (shell shell' : Shell) (session session' : Session) (tree tree' : TreeState) (seen seen' : Seen) (faults faults' : Faults) (came came' : How) → text ≡ echoed operands
    → shell' ≡ status_behind came 0 shell → came' ≡ how_behind came flow.On → Evaluates (λ expansions state. on (puts text state)) (point_of shell session tree seen faults) came (point_of shell session' tree' seen' faults')
    → Evaluates (λ expansions. echoes operands) (point_of shell session tree seen faults) came' (point_of shell' session' tree' seen' faults')
echoed-so operands text shell shell' session session' tree tree' seen seen' faults faults' came came' is shell_is came_is one =
    ended (λ expansions state. on (puts (echoed operands) state)) flow.On 0 shell shell' session session' tree tree' seen seen' faults faults' came came' shell_is came_is
    (subst (λ (it : List ℕ). Evaluates (λ expansions state. on (puts it state)) (point_of shell session tree seen faults) came (point_of shell session' tree' seen' faults')) is one)

pub adds-echoes : (operands : List (List ℕ)) (expansions : Expansions) → Adds (echoes operands)
adds-echoes operands expansions state = grows-write state.session.streams.to (echoed operands) state
