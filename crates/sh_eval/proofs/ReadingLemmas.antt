-- Lines that a shell reads.
use Rattle.std.proofs.Common.{◌≡◌, ℕ, ◌==◌, ◌||◌, List, [], ◌∷◌, ◌++◌, length, take, drop, ◌+◌, ◌-◌, Bool, true, false, Option, Some, None, IfSome, refl, sym, ap, ◌∙◌, subst, if◌then◌else◌, arith}
use Rattle.std.specs.FinMap as map
use Rattle.std.proofs.lemmas.Bool.{true≢false}
use Rattle.std.proofs.lemmas.List.{append-nil, append_assoc, take-append-drop, length-append}
use Rattle.std.proofs.Math.Seq.{drop-append_seam}
use Rattle.ps_lines.specs.Lines.{has_newline}
use Rattle.ps_lines.specs.declared.newlines.TheConstants.{NEWLINE}
use Rattle.ps_world.specs.Told.{then_bytes, bytes_then, TookLine, IsEnded}
use Rattle.ps_world.specs.TreeState.{TreeState}
use Rattle.ps_world.proofs.TreeStateLemmas.{balanced-none}
use Rattle.sh_expand.specs.Separators.{ifs_of}
use Rattle.ut_test.specs.Fields.{fields_read}
use Rattle.fl_commands.specs.Writers.{ChangesOnly}
use Rattle.sh_eval.specs.declared.flows.Flow.TheVariants as flow
use Rattle.sh_eval.specs.declared.outcomes.How.TheVariants as how
use Rattle.sh_eval.specs.declared.session.Session.{Session}
use Rattle.sh_eval.specs.declared.shell.Shell.{Shell}
use Rattle.sh_eval.specs.declared.streams.From.{From}
use Rattle.sh_eval.specs.declared.streams.From.TheVariants as from
use Rattle.sh_eval.specs.Shells.{with_status}
use Rattle.sh_eval.specs.States.{State, in_shell, leaves, left_in, to_read, reading, leaving, reads_to}
use Rattle.sh_eval.specs.Builtins.{line_in, behind_line, set_all, reads}
use Rattle.sh_eval.specs.Reading.{left_of, from_behind, told_behind, TakesLine, fields_of, all_set}
use Rattle.fl_engines.specs.Logs.{Log}
use Rattle.sh_eval.specs.Contract.{Seen, Faults, point_of, seen_of, drawn_of, then_ran, faults_of, Base, Has, Evaluates}
use Rattle.sh_eval.proofs.Steps.{no-fewer, held-none}

-- LINES. A text of a line, a newline and a rest
line-closed : (line rest : List ℕ) → has_newline line ≡ false → line_in (line ++ NEWLINE ∷ rest) ≡ line
line-closed [] rest plain = refl
line-closed (byte ∷ line) rest plain = by_byte (byte == NEWLINE) plain (line-closed line rest)
  where
    by_byte : (is : Bool) → (is || has_newline line) ≡ false → (has_newline line ≡ false → line_in (line ++ NEWLINE ∷ rest) ≡ line)
        → (if is then [] else byte ∷ line_in (line ++ NEWLINE ∷ rest)) ≡ byte ∷ line
    by_byte true plain inner = absurd (true≢false plain)
    by_byte false plain inner = ap (λ (it : List ℕ). byte ∷ it) (inner plain)

rest-closed : (line rest : List ℕ) → has_newline line ≡ false → behind_line (line ++ NEWLINE ∷ rest) ≡ rest
rest-closed [] rest plain = refl
rest-closed (byte ∷ line) rest plain = by_byte (byte == NEWLINE) plain (rest-closed line rest)
  where
    by_byte : (is : Bool) → (is || has_newline line) ≡ false → (has_newline line ≡ false → behind_line (line ++ NEWLINE ∷ rest) ≡ rest)
        → (if is then line ++ NEWLINE ∷ rest else behind_line (line ++ NEWLINE ∷ rest)) ≡ rest
    by_byte true plain inner = absurd (true≢false plain)
    by_byte false plain inner = inner plain

newline-closed : (line rest : List ℕ) → has_newline (line ++ NEWLINE ∷ rest) ≡ true
newline-closed [] rest = refl
newline-closed (byte ∷ line) rest = by_byte (byte == NEWLINE) (newline-closed line rest)
  where
    by_byte : (is : Bool) → has_newline (line ++ NEWLINE ∷ rest) ≡ true → (is || has_newline (line ++ NEWLINE ∷ rest)) ≡ true
    by_byte true inner = refl
    by_byte false inner = inner

-- and one without a newline
line-plain : (line : List ℕ) → has_newline line ≡ false → line_in line ≡ line
line-plain [] plain = refl
line-plain (byte ∷ line) plain = by_byte (byte == NEWLINE) plain (line-plain line)
  where
    by_byte : (is : Bool) → (is || has_newline line) ≡ false → (has_newline line ≡ false → line_in line ≡ line) → (if is then [] else byte ∷ line_in line) ≡ byte ∷ line
    by_byte true plain inner = absurd (true≢false plain)
    by_byte false plain inner = ap (λ (it : List ℕ). byte ∷ it) (inner plain)

rest-plain : (line : List ℕ) → has_newline line ≡ false → behind_line line ≡ []
rest-plain [] plain = refl
rest-plain (byte ∷ line) plain = by_byte (byte == NEWLINE) plain (rest-plain line)
  where
    by_byte : (is : Bool) → (is || has_newline line) ≡ false → (has_newline line ≡ false → behind_line line ≡ []) → (if is then line else behind_line line) ≡ []
    by_byte true plain inner = absurd (true≢false plain)
    by_byte false plain inner = inner plain

-- what a kept text gives
pub kept-closed : (text line rest : List ℕ) → has_newline line ≡ false → text ≡ line ++ NEWLINE ∷ rest → (line ≡ line_in text) × (rest ≡ behind_line text) × (true ≡ has_newline text)
kept-closed text line rest plain is = rw is (sym (line-closed line rest plain), sym (rest-closed line rest plain), sym (newline-closed line rest))

pub kept-plain : (text : List ℕ) → has_newline text ≡ false → (text ≡ line_in text) × ([] ≡ behind_line text) × (false ≡ has_newline text)
kept-plain text plain = (sym (line-plain text plain), sym (rest-plain text plain), sym plain)

-- where the rest stands in the whole text
pub rest-read : (items left line rest : List ℕ) (begun size : ℕ) → left ≡ drop begun items → left ≡ line ++ NEWLINE ∷ rest → size ≡ length items → drop (size - length rest) items ≡ rest
rest-read items left line rest begun size from is size_is =
    let front : List ℕ = take begun items ++ (line ++ NEWLINE ∷ []) in
    let whole : items ≡ front ++ rest =
    sym (take-append-drop begun items) ∙ ap (λ (it : List ℕ). take begun items ++ it) (sym from ∙ is ∙ sym (append_assoc line (NEWLINE ∷ []) rest))
    ∙ sym (append_assoc (take begun items) (line ++ NEWLINE ∷ []) rest) in
    let sizes : length items ≡ length front + length rest = ap length whole ∙ length-append front rest in
    let place : size - length rest ≡ length front = omega (arith, size_is, sizes) in
    ap (λ (it : ℕ). drop it items) place ∙ ap (λ (it : List ℕ). drop (length front) it) whole ∙ drop-append_seam front rest

-- what the standard input gives
took-told : (new : Option (List ℕ)) (line : List ℕ) (closed : Bool) → has_newline line ≡ false → (closed ≡ false → IsEnded new)
    → TakesLine from.Standard from.Standard (bytes_then (if closed then line ++ NEWLINE ∷ [] else line) new) new line closed
took-told None line closed plain ended = record { text = tt; ended = tt; kept = refl; left = refl }
took-told (Some rest) line true plain ended =
    let whole : (line ++ NEWLINE ∷ []) ++ rest ≡ line ++ NEWLINE ∷ rest = append_assoc line (NEWLINE ∷ []) rest in
    record {
      text = sym (ap line_in whole ∙ line-closed line rest plain);
      ended = sym (ap has_newline whole ∙ newline-closed line rest);
      kept = refl;
      left = ap Some (sym (ap behind_line whole ∙ rest-closed line rest plain));
    }
took-told (Some rest) line false plain ended =
    let none : rest ≡ [] = some-alone (ended refl) in
    rw none
    (record {
      text = sym (ap line_in (append-nil line) ∙ line-plain line plain);
      ended = sym (ap has_newline (append-nil line) ∙ plain);
      kept = refl;
      left = ap Some (sym (ap behind_line (append-nil line) ∙ rest-plain line plain));
    })
  where
    some-alone : Some rest ≡ Some [] → rest ≡ []
    some-alone is = ap (λ (it : Option (List ℕ)). either it) is
      where
        either : Option (List ℕ) → List ℕ
        either None = []
        either (Some text) = text

pub took-standard : (old new : Option (List ℕ)) (begun text : List ℕ) (closed : Bool) → begun ≡ [] → TookLine old new begun text closed → TakesLine from.Standard from.Standard old new text closed
took-standard old new begun text closed none took =
    let is : text ≡ took.line = took.to ∙ ap (λ (it : List ℕ). it ++ took.line) none in
    subst (λ (it : List ℕ). TakesLine from.Standard from.Standard old new it closed) (sym is)
    (subst (λ (it : Option (List ℕ)). TakesLine from.Standard from.Standard it new took.line closed) (sym took.from) (took-told new took.line closed took.plain took.ended))

-- VARIABLES
abbrev with_set : List (List ℕ) → List (List ℕ) → Shell → Shell
with_set names texts shell = record shell { variables = all_set names texts shell.variables }

set_all-is : (names texts : List (List ℕ)) (state : State) → set_all names texts state ≡ in_shell (with_set names texts) state
set_all-is [] texts state = refl
set_all-is (name ∷ names) [] state = refl
set_all-is (name ∷ names) (text ∷ texts) state = set_all-is names texts (in_shell (λ shell. record shell { variables = map.insert shell.variables name text }) state)

-- READ
left-so : (base : Base) (state : State) (change : Shell → Shell) (session : Session) (tree : TreeState) (left taken errors : Option (List ℕ)) (used : Option Log) (faults : Faults) (place : From) → state.session.streams.from ≡ place
    → session ≡ reading (from_behind place) state.session → left ≡ told_behind place (Some state.world.input) → used ≡ then_ran base.used state.world.ran → tree.home ≡ state.world.home → tree.held ≡ Some state.world.files
    → ChangesOnly state.world.written (Some base.files) tree.held → taken ≡ then_bytes base.taken state.world.output → errors ≡ then_bytes base.errors state.world.errors
    → Has base (point_of (change state.shell) session tree (seen_of (drawn_of left used) taken errors) faults) (in_shell change (leaving place (behind_line (left_in place state.world)) state))
left-so base state change session tree left taken errors used faults from.Standard is reads_on leaves_so uses home held kept writes tells =
    record {
      shell = refl;
      session = reads_on ∙ ap (λ (it : From). reading it state.session) (sym is);
      home = home;
      held = held;
      kept = kept;
      seen = λ i. seen_of (drawn_of (leaves_so i) (uses i)) (writes i) (tells i);
    }
left-so base state change session tree left taken errors used faults (from.Kept text) is reads_on leaves_so uses home held kept writes tells =
    record { shell = refl; session = reads_on; home = home; held = held; kept = kept; seen = λ i. seen_of (drawn_of (leaves_so i) (uses i)) (writes i) (tells i) }

to-read : (place : From) (left : Option (List ℕ)) (state : State) → left ≡ Some state.world.input → left_of place left ≡ Some (left_in place state.world)
to-read from.Standard left state is = is
to-read (from.Kept text) left state is = refl

pub read-so : (names : List (List ℕ)) (shell shell' : Shell) (session session' : Session) (tree : TreeState) (left left' taken errors : Option (List ℕ)) (used : Option Log) (faults : Faults) (line : List ℕ) (closed : Bool)
    → TakesLine session.streams.from session'.streams.from left left' line closed → session' ≡ reading session'.streams.from session
    → shell' ≡ with_status (if closed then 0 else 1) (record shell { variables = all_set names (fields_of shell.variables line names) shell.variables })
    → Evaluates (λ expansions. reads names) (point_of shell session tree (seen_of (drawn_of left used) taken errors) faults) (how.Gone flow.On) (point_of shell' session' tree (seen_of (drawn_of left' used) taken errors) faults)
read-so names shell shell' session session' tree left left' taken errors used faults line closed takes reads_on is =
    record {
      comes = λ expansions are base state has. record { flow = refl; has = lands base state has };
      keeps = λ gone.
          record {
            whole = λ whole. whole;
            files = held-none tree.held;
            output = ap (λ (it : Session). it.streams.to) reads_on;
            errors = ap (λ (it : Session). it.streams.errors_to) reads_on;
          };
      turns = rw reads_on (omega arith);
      later = no-fewer faults;
      cause = refl;
      lent = balanced-none tree;
    }
  where
    lands : (base : Base) (state : State) → Has base (point_of shell session tree (seen_of (drawn_of left used) taken errors) faults) state → Has base (point_of shell' session' tree (seen_of (drawn_of left' used) taken errors) faults) (reads names state).state
    lands base state has =
        let from_is : session.streams.from ≡ state.session.streams.from = ap (λ (it : Session). it.streams.from) has.session in
        let left_is : left ≡ Some state.world.input = ap (λ (it : Seen). it.drawn.left) has.seen in
        let text : List ℕ = to_read state in
        let gives : left_of session.streams.from left ≡ Some text = to-read session.streams.from left state left_is ∙ ap (λ (it : From). Some (left_in it state.world)) from_is in
        let line_is : line ≡ line_in text = subst (λ (it : Option (List ℕ)). IfSome it (λ text. line ≡ line_in text)) gives takes.text in
        let closed_is : closed ≡ has_newline text = subst (λ (it : Option (List ℕ)). IfSome it (λ text. closed ≡ has_newline text)) gives takes.ended in
        let fields : List (List ℕ) = fields_read (ifs_of state.shell.variables) (line_in text) (length names) in
        let change : Shell → Shell = λ inner. with_status (if has_newline text then 0 else 1) (with_set names fields inner) in
        let shell_is : shell' ≡ change state.shell =
        is ∙ ap (λ (it : Shell). with_status (if closed then 0 else 1) (record it { variables = all_set names (fields_of it.variables line names) it.variables })) has.shell
        ∙ ap (λ (it : List ℕ). with_status (if closed then 0 else 1) (with_set names (fields_read (ifs_of state.shell.variables) it (length names)) state.shell)) line_is
        ∙ ap (λ (it : Bool). with_status (if it then 0 else 1) (with_set names fields state.shell)) closed_is in
        let session_is : session' ≡ reading (from_behind state.session.streams.from) state.session =
        reads_on ∙ ap (λ (it : From). reading it session) (takes.kept ∙ ap from_behind from_is) ∙ ap (reading (from_behind state.session.streams.from)) has.session in
        let told_is : left' ≡ told_behind state.session.streams.from (Some state.world.input) =
        takes.left ∙ ap (λ (it : From). told_behind it left) from_is ∙ ap (told_behind state.session.streams.from) left_is in
        let there : Has base (point_of (change state.shell) session' tree (seen_of (drawn_of left' used) taken errors) faults) (in_shell change (reads_to (behind_line text) state)) =
        left-so base state change session' tree left' taken errors used faults state.session.streams.from refl session_is told_is (ap (λ (it : Seen). it.drawn.used) has.seen) has.home has.held has.kept
        (ap (λ (it : Seen). it.taken) has.seen) (ap (λ (it : Seen). it.errors) has.seen) in
        subst (λ (it : State). Has base (point_of shell' session' tree (seen_of (drawn_of left' used) taken errors) faults) (leaves (if has_newline text then 0 else 1) it)) (sym (set_all-is names fields (reads_to (behind_line text) state)))
        (subst (λ (it : Shell). Has base (point_of it session' tree (seen_of (drawn_of left' used) taken errors) faults) (in_shell change (reads_to (behind_line text) state))) (sym shell_is) there)

-- and no fault was counted
pub read-done : (names : List (List ℕ)) (shell shell' : Shell) (session session' : Session) (tree : TreeState) (left left' taken errors : Option (List ℕ)) (used : Option Log) (input input' of_output of_errors of_tree : ℕ) (line : List ℕ) (closed : Bool)
    → TakesLine session.streams.from session'.streams.from left left' line closed → session' ≡ reading session'.streams.from session
    → shell' ≡ with_status (if closed then 0 else 1) (record shell { variables = all_set names (fields_of shell.variables line names) shell.variables }) → input' ≡ input
    → Evaluates (λ expansions. reads names) (point_of shell session tree (seen_of (drawn_of left used) taken errors) (faults_of input of_output of_errors of_tree)) (how.Gone flow.On)
    (point_of shell' session' tree (seen_of (drawn_of left' used) taken errors) (faults_of input' of_output of_errors of_tree))
read-done names shell shell' session session' tree left left' taken errors used input input' of_output of_errors of_tree line closed takes reads_on is same =
    subst (λ (it : ℕ). Evaluates (λ expansions. reads names) (point_of shell session tree (seen_of (drawn_of left used) taken errors) (faults_of input of_output of_errors of_tree)) (how.Gone flow.On)
    (point_of shell' session' tree (seen_of (drawn_of left' used) taken errors) (faults_of it of_output of_errors of_tree))) (sym same)
    (read-so names shell shell' session session' tree left left' taken errors used (faults_of input of_output of_errors of_tree) line closed takes reads_on is)
