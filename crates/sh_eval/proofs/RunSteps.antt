-- What is run over its inputs is evaluated.
use Rattle.std.proofs.Common.{◌≡◌, ◌≤◌, ℕ, List, [], ◌∷◌, ◌++◌, Bool, true, false, ◌&&◌, inl, inr, Option, Some, None, IfSome, refl, sym, ap, ◌∙◌, subst, append_assoc, arith, if◌then◌else◌}
use Rattle.std.proofs.lemmas.Bool.{true≢false}
use Rattle.std.specs.Option.{option_map, unwrap_or}
use Rattle.ps_world.specs.Files.{Files, IsOneOf, NoWriterOut}
use Rattle.ps_world.specs.Paths.{Components}
use Rattle.ps_world.specs.Told.{then_bytes, GrewByPrefix}
use Rattle.ps_world.specs.TreeState.{TreeState}
use Rattle.ps_world.proofs.ToldLemmas.{then_bytes-append, grew_by_more, grew_by_whole}
use Rattle.ps_world.proofs.WritingLemmas.{no_writer_out-filled}
use Rattle.fl_engines.specs.Logs.{Log, log_of}
use Rattle.fl_segments.specs.Noted.{Noted, used_at}
use Rattle.fl_segments.specs.declared.stages.First.{First}
use Rattle.fl_segments.proofs.NotedLemmas.{used-append}
use Rattle.fl_commands.specs.Runs as runs
use Rattle.fl_commands.specs.Runs.{Asks, Runs, counts_of, left_behind}
use Rattle.fl_commands.specs.Writers.{AreFilesAt, AreFilled, ChangesOnly, filled}
use Rattle.fl_commands.specs.declared.runs.Ended.{Ended}
use Rattle.fl_commands.specs.declared.runs.Ended.TheVariants as ended
use Rattle.fl_commands.proofs.WriterLemmas.{only-more, only-same, only-within}
use Rattle.sh_eval.specs.declared.flows.Flow.TheVariants as flow
use Rattle.sh_eval.specs.declared.outcomes.How.{How}
use Rattle.sh_eval.specs.declared.outcomes.How.TheVariants as how
use Rattle.sh_eval.specs.declared.session.Session.{Session}
use Rattle.sh_eval.specs.declared.shell.Shell.{Shell}
use Rattle.sh_eval.specs.declared.streams.From.{From}
use Rattle.sh_eval.specs.declared.streams.From.TheVariants as from
use Rattle.sh_eval.specs.declared.streams.To.{To}
use Rattle.sh_eval.specs.declared.streams.To.TheVariants as to
use Rattle.sh_eval.specs.declared.utilities.Task.{Task}
use Rattle.sh_eval.specs.declared.utilities.Task.TheVariants as task
use Rattle.sh_eval.specs.Contract.{Seen, drawn_of, Faults, faults_of, Point, point_of, seen_of, Base, then_ran, Has, HasEnd, IsBehind, Comes, NoFewer, HasCause, IsGone, IsSound, HeldStays, Keeps, Meaning, Evaluates, Stay, goes_on}
use Rattle.sh_eval.specs.Inner.Inputs.{TakesStream, how_ended, is_own_input, shell_ended, taken_from, text_from}
use Rattle.sh_eval.specs.Inner.Runs.{AreMeant, Begins, CanRun, Does, IsMeant, asks_of, ended_with, given_all, takes, takes_in}
use Rattle.sh_eval.specs.Shells.{with_status}
use Rattle.sh_eval.specs.States.{State, in_world, leaves, leaving, left_in, on, puts, reading, write}
use Rattle.sh_eval.specs.Teeing.{spreads, writes}
use Rattle.sh_eval.specs.Utilities.{notes, taken_in}
use Rattle.sh_eval.specs.Writing.{added_to}
use Rattle.sh_eval.proofs.Growing.{adds-takes, grows-self, grows-writes}
use Rattle.sh_eval.proofs.KeptLemmas.{kept-more, kept-step, only-added}
use Rattle.sh_eval.proofs.Steps.{behind-told, followed, held-none, meant-at, sound-behind}
use Rattle.sh_eval.proofs.WritingLemmas.{stay-filled}

then-more : (base : Option Log) (first second : List Noted) → then_ran (then_ran base first) second ≡ then_ran base (first ++ second)
then-more None first second = refl
then-more (Some base) first second =
    ap (λ (words : List (List (List ℕ))). Some (log_of base.width words))
    (append_assoc base.words (used_at base.width first) (used_at base.width second) ∙ ap (λ (it : List (List (List ℕ))). base.words ++ it) (sym (used-append base.width first second)))

some-same : {one other : List ℕ} → Some one ≡ Some other → one ≡ other
some-same is = ap (λ (it : Option (List ℕ)). unwrap_or it []) is

-- STEPS OF A STATE, each with its point
module _ (base : Base) (shell : Shell) (session : Session) (tree : TreeState) (left taken errors : Option (List ℕ)) (used : Option Log) (faults : Faults) (state : State)
    (has : Has base (point_of shell session tree (seen_of (drawn_of left used) taken errors) faults) state) where
  left-is : left ≡ Some state.world.input
  left-is = ap (λ (it : Seen). it.drawn.left) has.seen

  used-is : used ≡ then_ran base.used state.world.ran
  used-is = ap (λ (it : Seen). it.drawn.used) has.seen

  taken-is : taken ≡ then_bytes base.taken state.world.output
  taken-is = ap (λ (it : Seen). it.taken) has.seen

  errors-is : errors ≡ then_bytes base.errors state.world.errors
  errors-is = ap (λ (it : Seen). it.errors) has.seen

  -- the standard input is taken to its end
  pub takes-so : (session' : Session) (tree' : TreeState) (left' : Option (List ℕ)) (faults' : Faults) (reads : Bool) (place : From) → state.session.streams.from ≡ place → tree'.home ≡ tree.home → tree'.held ≡ tree.held
      → session' ≡ (if reads then reading (taken_from place) state.session else state.session) → left' ≡ left_behind (reads && is_own_input place) left
      → Has base (point_of shell session' tree' (seen_of (drawn_of left' used) taken errors) faults') (if reads then leaving place [] state else state)
  takes-so session' tree' left' faults' true from.Standard is home held session_is left_is =
      record {
        shell = has.shell;
        session = session_is ∙ ap (λ (it : From). reading it state.session) (sym is);
        home = home ∙ has.home;
        held = held ∙ has.held;
        kept = only-more has.kept (only-same held);
        seen = λ i. seen_of (drawn_of ((left_is ∙ ap (option_map (λ _. [])) left-is) i) (used-is i)) (taken-is i) (errors-is i);
      }
  takes-so session' tree' left' faults' true (from.Kept text) is home held session_is left_is =
      record {
        shell = has.shell;
        session = session_is;
        home = home ∙ has.home;
        held = held ∙ has.held;
        kept = only-more has.kept (only-same held);
        seen = λ i. seen_of (drawn_of ((left_is ∙ left-is) i) (used-is i)) (taken-is i) (errors-is i);
      }
  takes-so session' tree' left' faults' false place is home held session_is left_is =
      record {
        shell = has.shell;
        session = session_is;
        home = home ∙ has.home;
        held = held ∙ has.held;
        kept = only-more has.kept (only-same held);
        seen = λ i. seen_of (drawn_of ((left_is ∙ left-is) i) (used-is i)) (taken-is i) (errors-is i);
      }

  -- what ran is noted
  notes-so : (used' : Option Log) (ran : List Noted) → used' ≡ then_ran used ran
      → Has base (point_of shell session tree (seen_of (drawn_of left used') taken errors) faults) (in_world (notes ran) state)
  notes-so used' ran used_is =
      record {
        shell = has.shell;
        session = has.session;
        home = has.home;
        held = has.held;
        kept = has.kept;
        seen = λ i. seen_of (drawn_of (left-is i) ((used_is ∙ ap (λ (it : Option Log). then_ran it ran) used-is ∙ then-more base.used state.world.ran ran) i)) (taken-is i) (errors-is i);
      }

  -- a status is left
  pub leaves-so : (shell' : Shell) (status meant : ℕ) → shell' ≡ with_status status shell → status ≡ meant
      → Has base (point_of shell' session tree (seen_of (drawn_of left used) taken errors) faults) (leaves meant state)
  leaves-so shell' status meant is same =
      record {
        shell = is ∙ ap (with_status status) has.shell ∙ ap (λ (it : ℕ). with_status it state.shell) same;
        session = has.session;
        home = has.home;
        held = has.held;
        kept = has.kept;
        seen = has.seen;
      }

  -- the output is written
  writes-so : (taken' : Option (List ℕ)) (bytes : List ℕ) → taken' ≡ then_bytes taken bytes
      → Has base (point_of shell session tree (seen_of (drawn_of left used) taken' errors) faults) (write to.Output bytes state)
  writes-so taken' bytes is =
      record {
        shell = has.shell;
        session = has.session;
        home = has.home;
        held = has.held;
        kept = has.kept;
        seen = λ i. seen_of (drawn_of (left-is i) (used-is i)) ((is ∙ ap (λ (it : Option (List ℕ)). then_bytes it bytes) taken-is ∙ then_bytes-append base.taken state.world.output bytes) i) (errors-is i);
      }

-- WHAT IS DONE
module _ (does : Does) where
  -- the streams lead where they led
  to-same : (reads : Bool) (place : From) (state : State) → (if reads then leaving place [] state else state).session.streams.to ≡ state.session.streams.to
  to-same true from.Standard state = refl
  to-same true (from.Kept text) state = refl
  to-same false place state = refl

  pub to-is : (state : State) → (takes_in does state).session.streams.to ≡ state.session.streams.to
  to-is state = to-same does.reads state.session.streams.from state

  -- nothing is written so far
  written-same : (reads : Bool) (place : From) (state : State)
      → ((if reads then leaving place [] state else state).world.output ≡ state.world.output) × ((if reads then leaving place [] state else state).world.errors ≡ state.world.errors)
  written-same true from.Standard state = (refl, refl)
  written-same true (from.Kept text) state = (refl, refl)
  written-same false place state = (refl, refl)

  pub nothing-written : (state : State) → ((takes_in does state).world.output ≡ state.world.output) × ((takes_in does state).world.errors ≡ state.world.errors)
  nothing-written state = written-same does.reads state.session.streams.from state

  written-still : (reads : Bool) (place : From) (state : State) → (if reads then leaving place [] state else state).world.written ≡ state.world.written
  written-still true from.Standard state = refl
  written-still true (from.Kept text) state = refl
  written-still false place state = refl

  none-written : (state : State) → (takes_in does state).world.written ≡ state.world.written
  none-written state = written-still does.reads state.session.streams.from state

  abbrev pub meant_by : List Components → Meaning
  meant_by files expansions state = takes files does state

-- what a run begins with
text-is : (place : From) (state : State) → left_in place state.world ≡ text_from place state.world.input
text-is from.Standard state = refl
text-is (from.Kept text) state = refl

module _ (asks : First → Asks) (reads : Bool) (does : Does) (first : First) (shell : Shell) (session session' : Session) (tree tree' : TreeState) (left left' : Option (List ℕ))
    (used used' : Option Log) (taken errors : Option (List ℕ)) (old new : Faults)
    (meant : AreMeant asks reads does tree) (stream : TakesStream reads session session' first) where
  abbrev before : Point
  before = point_of shell session tree (seen_of (drawn_of left used) taken errors) old

  module _ (base : Base) (state : State) (has : Has base before state) where
    from-is : session.streams.from ≡ state.session.streams.from
    from-is = ap (λ (it : Session). it.streams.from) has.session

    begins-so : Begins reads first state
    begins-so =
        record {
          text = λ is. stream.begins is state.world.input ∙ ap (λ (it : From). text_from it state.world.input) from-is ∙ sym (text-is state.session.streams.from state);
          own = λ is. stream.own is ∙ ap is_own_input from-is;
        }

    -- what is asked for is what is meant here
    pub meant-here : IsMeant (asks first) reads does state
    meant-here = meant first state has.held has.home begins-so

    session-so : session' ≡ (if does.reads then reading (taken_from state.session.streams.from) state.session else state.session)
    session-so =
        stream.session ∙ ap (λ (it : Session). if reads then reading (taken_from it.streams.from) it else it) has.session
        ∙ ap (λ (it : Bool). if it then reading (taken_from state.session.streams.from) state.session else state.session) meant-here.same

    -- what is left where it has come to its end
    pub ends-so : (shell' : Shell) (status : ℕ) → shell' ≡ with_status status shell → tree'.home ≡ tree.home → tree'.held ≡ tree.held
        → status ≡ (asks first).status state.world.input state.world.files → left' ≡ left_behind (asks first).reads left → used' ≡ then_ran used (asks first).noted
        → Has base (point_of shell' session' tree' (seen_of (drawn_of left' used') taken errors) new) (takes_in does state)
    ends-so shell' status is home held status_is read noted =
        let taken_state = takes-so base shell session tree left taken errors used old state has session' tree' left' new does.reads state.session.streams.from refl home held session-so
        (read ∙ ap (λ (it : Bool). left_behind it left) (meant-here.drawn ∙ ap (λ (it : Bool). it && is_own_input state.session.streams.from) meant-here.same)) in
        let noted_state = notes-so base shell session' tree' left' taken errors used new (taken_in does.reads state) taken_state used' (does.ran state)
        (noted ∙ ap (then_ran used) meant-here.noted) in
        leaves-so base shell session' tree' left' taken errors used' new (in_world (notes (does.ran state)) (taken_in does.reads state)) noted_state shell' status (does.status state) is (status_is ∙ meant-here.status)

-- WHAT THE SESSION KEEPS
keeps-to : (reads : Bool) (old new : Session) → new ≡ (if reads then reading (taken_from old.streams.from) old else old) → new.streams.to ≡ old.streams.to
keeps-to true old new is = ap (λ (it : Session). it.streams.to) is
keeps-to false old new is = ap (λ (it : Session). it.streams.to) is

keeps-errors : (reads : Bool) (old new : Session) → new ≡ (if reads then reading (taken_from old.streams.from) old else old) → new.streams.errors_to ≡ old.streams.errors_to
keeps-errors true old new is = ap (λ (it : Session). it.streams.errors_to) is
keeps-errors false old new is = ap (λ (it : Session). it.streams.errors_to) is

keeps-turns : (reads : Bool) (old new : Session) → new ≡ (if reads then reading (taken_from old.streams.from) old else old) → new.turns ≡ old.turns
keeps-turns true old new is = ap (λ (it : Session). it.turns) is
keeps-turns false old new is = ap (λ (it : Session). it.turns) is

-- COUNTS, those of the errors beside
abbrev all_counts : runs.Counts → ℕ → Faults
all_counts counts of_errors = faults_of counts.input counts.output of_errors counts.tree

later-so : (old new : runs.Counts) (of_errors : ℕ) → runs.NoFewer old new → NoFewer (all_counts old of_errors) (all_counts new of_errors)
later-so old new of_errors later = record { input = later.input; output = later.output; errors = omega arith; tree = later.tree }

cause-so : (came : Ended) (old new : runs.Counts) (of_errors : ℕ) → runs.HasCause came old new → HasCause (how_ended came) (all_counts old of_errors) (all_counts new of_errors)
cause-so (ended.Done status) old new of_errors cause = ap (λ (it : runs.Counts). all_counts it of_errors) cause
cause-so ended.Input old new of_errors cause = cause
cause-so ended.Output old new of_errors cause = inl cause
cause-so ended.Tree old new of_errors cause = cause
cause-so ended.Memory old new of_errors cause = tt

held-same : (old new : Option Files) → new ≡ old → HeldStays old new
held-same old new is = subst (λ (it : Option Files). HeldStays old it) (sym is) (held-none old)

-- FILES that a task writes beside its output: those that it is handed
pub own-files : (it : Task) (files : List Components) (tree : TreeState) → CanRun it files tree → (first : First) → (asks_of it files first).paths ≡ files
own-files (task.Utility inv operands) files tree can first = sym can.fileless
own-files (task.Tee inv status) files tree can first = refl
own-files (task.Pipeline members) files tree can first = can.teeless ∙ sym can.fileless

-- it runs without them too
none-there : (held : Option Files) → IfSome held (λ files. AreFilesAt files [])
none-there None = tt
none-there (Some files) = tt

pub runs-alone : (it : Task) (files : List Components) (tree : TreeState) → CanRun it files tree → CanRun it [] tree
runs-alone (task.Utility inv operands) files tree can = record { fileless = refl; built = can.built; named = can.named; few = can.few; stand = can.stand }
runs-alone (task.Tee inv status) files tree can = record { tee = can.tee; there = none-there tree.held }
runs-alone (task.Pipeline members) files tree can = record { fileless = refl; some = can.some; most = can.most; ready = can.ready; teeless = can.teeless; stand = can.stand }

pub files-there : (it : Task) (files : List Components) (tree : TreeState) → CanRun it files tree → IfSome tree.held (λ held. AreFilesAt held files)
files-there (task.Utility inv operands) files tree can = subst (λ (it : List Components). IfSome tree.held (λ held. AreFilesAt held it)) (sym can.fileless) (none-there tree.held)
files-there (task.Tee inv status) files tree can = can.there
files-there (task.Pipeline members) files tree can = subst (λ (it : List Components). IfSome tree.held (λ held. AreFilesAt held it)) (sym can.fileless) (none-there tree.held)

pub no-files : (it : Task) (files : List Components) (tree : TreeState) → CanRun it files tree → (first : First) → (asks_of it [] first).paths ≡ []
no-files it files tree can first = own-files it [] tree (runs-alone it files tree can) first

-- files that are filled are files still, and no writer is out
stay-all : (paths : List Components) (texts : List (List ℕ)) (files : Files) → Stay files (filled paths texts files)
stay-all [] texts files = record { files = λ path is. is }
stay-all (path ∷ paths) [] files = record { files = λ path is. is }
stay-all (path ∷ paths) (text ∷ texts) files =
    let rest = stay-all paths texts files in
    let here = stay-filled (filled paths texts files) path text in
    record { files = λ other is. here.files other (rest.files other is) }

whole-all : (paths : List Components) (texts : List (List ℕ)) (files : Files) → NoWriterOut files → NoWriterOut (filled paths texts files)
whole-all [] texts files whole = whole
whole-all (path ∷ paths) [] files whole = whole
whole-all (path ∷ paths) (text ∷ texts) files whole = no_writer_out-filled (filled paths texts files) path text (whole-all paths texts files whole)

stays-filled : (paths : List Components) (held held' : Option Files) → AreFilled paths held held' → HeldStays held held'
stays-filled paths None held' are = are.is
stays-filled paths (Some files) held' are = record { new = filled paths are.texts files; told = are.is; stay = stay-all paths are.texts files }

whole-filled : (paths : List Components) (held held' : Option Files) → AreFilled paths held held' → IfSome held NoWriterOut → IfSome held' NoWriterOut
whole-filled paths held held' are whole = subst (λ (it : Option Files). IfSome it NoWriterOut) (sym are.is) (by_held held whole)
  where
    by_held : (it : Option Files) → IfSome it NoWriterOut → IfSome (option_map (filled paths are.texts) it) NoWriterOut
    by_held None whole = tt
    by_held (Some files) whole = whole-all paths are.texts files whole

-- what is written to files is theirs alone
behind-writes : (files : List Components) (text : List ℕ) (base : Base) (held : Option Files) (seen : Seen) (state : State) → IsBehind base held seen state.world → IsBehind base held seen (writes files text state).world
behind-writes [] text base held seen state behind = behind
behind-writes (path ∷ files) text base held seen state behind =
    behind-writes files text base held seen (write (to.File path) text state) (record { kept = only-within (λ at one. inr one) behind.kept; output = behind.output; errors = behind.errors })

-- and they are written then
files-written : (files : List Components) (text : List ℕ) (state : State) (at : Components) → IsOneOf files at → IsOneOf (writes files text state).world.written at
files-written [] text state at one = absurd one
files-written (path ∷ files) text state at one =
    elim one [
      | inl same ↦ (grows-writes (write (to.File path) text state) files text (write (to.File path) text state) (grows-self (write (to.File path) text state))).written at (inl same)
      | inr others ↦ files-written files text (write (to.File path) text state) at others
    ]

files-so : (files : List Components) (text : List ℕ) (base : Base) (shell : Shell) (session : Session) (tree tree' : TreeState) (seen : Seen) (faults : Faults) (state : State) → Has base (point_of shell session tree seen faults) state
    → tree'.home ≡ tree.home → tree'.held ≡ Some (given_all files text state.world.files) → Has base (point_of shell session tree' seen faults) (writes files text state)
files-so [] text base shell session tree tree' seen faults state has home held =
    record { shell = has.shell; session = has.session; home = home ∙ has.home; held = held; kept = only-more has.kept (only-same (held ∙ sym has.held)); seen = has.seen }
files-so (path ∷ files) text base shell session tree tree' seen faults state has home held =
    files-so files text base shell session (record { home = tree.home; held = Some (added_to path text state.world.files); lent = tree.lent; back = tree.back }) tree' seen faults (write (to.File path) text state)
    (record {
      shell = has.shell;
      session = has.session;
      home = has.home;
      held = refl;
      kept = kept-step (Some base.files) tree.held state.world.written path (Some (added_to path text state.world.files)) has.kept
          (only-added path text tree.held (Some (added_to path text state.world.files)) (sym (ap (option_map (added_to path text)) has.held)));
      seen = has.seen;
    }) home held

-- what holds where a run has come to its end
of-done : (came : Ended) (P : Type 0) → IsGone (how_ended came) → runs.IfDone came (λ status. P) → P
of-done (ended.Done status) P gone holds = holds
of-done ended.Input P gone holds = absurd gone
of-done ended.Output P gone holds = absurd gone
of-done ended.Tree P gone holds = absurd gone
of-done ended.Memory P gone holds = absurd gone

-- a run leaves the status that it is told to
module _ (asks : Asks) (status : ℕ) (tree tree' : TreeState) (left left' taken taken' : Option (List ℕ)) (old new : runs.Counts) (used used' : Option Log) where
  abbrev Leaves : Ended → Type 0
  Leaves came = Runs (record asks { status = λ input files. status }) tree tree' left left' taken taken' old new used used' came

  leaves-by : (came : Ended) → Runs asks tree tree' left left' taken taken' old new used used' came
      → ((input : List ℕ) (files : Files) → tree.held ≡ Some files → left ≡ Some input → runs.IfDone came (λ its. its ≡ status)) → Leaves came
  leaves-by came ran left_is =
      record {
        output = ran.output;
        status = left_is;
        read = ran.read;
        noted = ran.noted;
        added = ran.added;
        filled = ran.filled;
        part = ran.part;
        held = ran.held;
        kept = ran.kept;
        lent = ran.lent;
        later = ran.later;
        cause = ran.cause;
      }

  leaves-with : (came : Ended) → Runs asks tree tree' left left' taken taken' old new used used' came → Leaves (ended_with status came)
  leaves-with (ended.Done its) ran =
      record {
        output = ran.output;
        status = λ input files told given. refl;
        read = ran.read;
        noted = ran.noted;
        added = ran.added;
        filled = ran.filled;
        part = ran.part;
        held = ran.held;
        kept = ran.kept;
        lent = ran.lent;
        later = ran.later;
        cause = ran.cause;
      }
  leaves-with ended.Input ran = leaves-by ended.Input ran (λ input files told given. tt)
  leaves-with ended.Output ran = leaves-by ended.Output ran (λ input files told given. tt)
  leaves-with ended.Tree ran = leaves-by ended.Tree ran (λ input files told given. tt)
  leaves-with ended.Memory ran = leaves-by ended.Memory ran (λ input files told given. tt)

  pub ran-with : (came its : Ended) → its ≡ ended_with status came → Runs asks tree tree' left left' taken taken' old new used used' came → Leaves its
  ran-with came its is ran = subst Leaves (sym is) (leaves-with came ran)

-- THE OUTPUT of the run takes what is written
module _ (asks : First → Asks) (reads : Bool) (does : Does) (first : First) (shell shell' : Shell) (session session' : Session) (tree tree' : TreeState) (left left' taken taken' errors : Option (List ℕ))
    (used used' : Option Log) (old new : runs.Counts) (of_errors : ℕ) (came : Ended)
    (meant : AreMeant asks reads does tree) (files : List Components) (own : (asks first).paths ≡ files) (stream : TakesStream reads session session' first) (shell-is : shell' ≡ shell_ended came shell)
    (ran : Runs (asks first) tree tree' left left' taken taken' old new used used' came) where
  abbrev old-point : Point
  old-point = point_of shell session tree (seen_of (drawn_of left used) taken errors) (all_counts old of_errors)

  abbrev new-point : Point
  new-point = point_of shell' session' tree' (seen_of (drawn_of left' used') taken' errors) (all_counts new of_errors)

  meant-so : (base : Base) (state : State) → Has base old-point state → IsMeant (asks first) reads does state
  meant-so base state has = meant-here asks reads does first shell session session' tree tree' left left' used used' taken errors (all_counts old of_errors) (all_counts new of_errors) meant stream base state has

  -- nothing else is changed than these files
  kept-so : (base : Base) (state : State) → Has base old-point state → ChangesOnly (takes files does state).state.world.written (Some base.files) tree'.held
  kept-so base state has =
      kept-more (Some base.files) tree.held state.world.written (takes files does state).state.world.written files tree'.held
      (adds-takes files does state).written (files-written files (does.written state) (puts (does.written state) (takes_in does state))) has.kept
      (subst (λ (it : List Components). ChangesOnly it tree.held tree'.held) own ran.kept)

  -- a front of the output is written, in the place of which this many bytes are meant
  behind-so : (base : Base) (state : State) → Has base old-point state → session.streams.to ≡ to.Output → IsBehind base tree'.held (seen_of (drawn_of left' used') taken' errors) (takes files does state).state.world
  behind-so base state has leads =
      let behind : IsBehind base tree.held (seen_of (drawn_of left' used') taken' errors) (takes files does state).state.world =
      behind-writes files (does.written state) base tree.held (seen_of (drawn_of left' used') taken' errors) (puts (does.written state) (takes_in does state))
      (subst (λ (it : To). IsBehind base tree.held (seen_of (drawn_of left' used') taken' errors) (write it (does.written state) (takes_in does state)).world)
      (sym (to-is does state ∙ sym (ap (λ (it : Session). it.streams.to) has.session) ∙ leads))
      (record {
        kept = subst (λ (it : List Components). ChangesOnly it (Some base.files) tree.held) (sym (none-written does state)) has.kept;
        output = subst (λ (it : List ℕ). GrewByPrefix base.taken taken' (it ++ does.written state)) (sym (nothing-written does state).0)
            (grew_by_more base.taken taken taken' state.world.output (does.written state) (ap (λ (it : Seen). it.taken) has.seen) part);
        errors = subst (λ (it : List ℕ). GrewByPrefix base.errors errors it) (sym (nothing-written does state).1) (grew_by_whole base.errors errors state.world.errors (ap (λ (it : Seen). it.errors) has.seen));
      })) in
      record { kept = kept-so base state has; output = behind.output; errors = behind.errors }
    where
      part : GrewByPrefix taken taken' (does.written state)
      part = subst (λ (it : List ℕ). GrewByPrefix taken taken' it) (meant-so base state has).output (ran.part state.world.input state.world.files has.held (ap (λ (it : Seen). it.drawn.left) has.seen))

  -- all that the meaning says comes of it
  comes-so : (came' : Ended) → came ≡ came' → session.streams.to ≡ to.Output → (base : Base) (state : State) → Has base old-point state → Comes base (how_ended came') new-point (takes files does state)
  comes-so (ended.Done status) is leads base state has =
      record {
        flow = refl;
        has = files-so files (does.written state) base shell' session' tree tree' (seen_of (drawn_of left' used') taken' errors) (all_counts new of_errors) (puts (does.written state) (takes_in does state)) put ran.lent.home
            (done _ ran.added ∙ ap Some ((meant-so base state has).added state.world.files ∙ ap (λ (it : List Components). given_all it (does.written state) state.world.files) own)
            ∙ ap (option_map (given_all files (does.written state))) (sym has.held ∙ put.held));
      }
    where
      done : (P : List ℕ → Files → ℕ → Type 0) → ((input : List ℕ) (files : Files) → tree.held ≡ Some files → left ≡ Some input → runs.IfDone came (P input files)) → P state.world.input state.world.files status
      done P clause = subst (λ (it : Ended). runs.IfDone it (P state.world.input state.world.files)) is (clause state.world.input state.world.files has.held (ap (λ (it : Seen). it.drawn.left) has.seen))

      whole : (P : ℕ → Type 0) → runs.IfDone came P → P status
      whole P clause = subst (λ (it : Ended). runs.IfDone it P) is clause

      -- before the files
      put : Has base (point_of shell' session' tree (seen_of (drawn_of left' used') taken' errors) (all_counts new of_errors)) (puts (does.written state) (takes_in does state))
      put =
          subst (λ (it : To). Has base (point_of shell' session' tree (seen_of (drawn_of left' used') taken' errors) (all_counts new of_errors)) (write it (does.written state) (takes_in does state)))
          (sym (to-is does state ∙ sym (ap (λ (it : Session). it.streams.to) has.session) ∙ leads))
          (writes-so base shell' session' tree left' taken errors used' (all_counts new of_errors) (takes_in does state)
          (ends-so asks reads does first shell session session' tree tree left left' used used' taken errors (all_counts old of_errors) (all_counts new of_errors) meant stream base state has
          shell' status (shell-is ∙ ap (λ (it : Ended). shell_ended it shell) is) refl refl (done _ ran.status) (whole _ ran.read) (whole _ ran.noted))
          taken' (does.written state) (done _ ran.output ∙ ap (then_bytes taken) (meant-so base state has).output))
  comes-so ended.Input is leads base state has = behind-so base state has leads
  comes-so ended.Output is leads base state has = behind-so base state has leads
  comes-so ended.Tree is leads base state has = behind-so base state has leads
  comes-so ended.Memory is leads base state has = behind-so base state has leads

  -- the run was evaluated
  pub written-out : session.streams.to ≡ to.Output → Evaluates (meant_by does files) old-point (how_ended came) new-point
  written-out leads =
      record {
        comes = λ expansions are base state has. comes-so came refl leads base state has;
        keeps = λ gone.
            record {
              whole = whole-filled (asks first).paths tree.held tree'.held (of-done came _ gone ran.filled);
              files = stays-filled (asks first).paths tree.held tree'.held (of-done came _ gone ran.filled);
              output = keeps-to reads session session' stream.session;
              errors = keeps-errors reads session session' stream.session;
            };
        turns = rw (keeps-turns reads session session' stream.session) (omega arith);
        later = later-so old new of_errors ran.later;
        cause = cause-so came old new of_errors ran.cause;
        lent = ran.lent;
      }

-- THE OUTPUT of the run is gathered: what is written is nothing so far
module _ (asks : First → Asks) (reads : Bool) (does : Does) (first : First) (shell shell' : Shell) (session session' : Session) (tree tree' : TreeState) (left left' taken errors : Option (List ℕ)) (text : List ℕ)
    (used used' : Option Log) (input input' of_output of_errors of_tree of_tree' : ℕ) (came : Ended)
    (meant : AreMeant asks reads does tree) (files : List Components) (none : (asks first).paths ≡ []) (stream : TakesStream reads session session' first) (shell-is : shell' ≡ shell_ended came shell)
    (ran : Runs (asks first) tree tree' left left' (Some []) (Some text) (counts_of input 0 of_tree) (counts_of input' 0 of_tree') used used' came) where
  abbrev kept-old : Point
  kept-old = point_of shell session tree (seen_of (drawn_of left used) taken errors) (faults_of input of_output of_errors of_tree)

  abbrev pub kept-new : Point
  kept-new = point_of shell' session' tree' (seen_of (drawn_of left' used') taken errors) (faults_of input' of_output of_errors of_tree')

  -- what is there is a front of all that is meant
  kept-behind : (base : Base) (state : State) → Has base kept-old state → IsBehind base tree'.held (seen_of (drawn_of left' used') taken errors) (takes files does state).state.world
  kept-behind base state has =
      let behind : IsBehind base tree.held (seen_of (drawn_of left used) taken errors) (takes files does state).state.world =
      behind-told base kept-old state (takes files does state).state has (adds-takes files does state) in
      record { kept = only-more behind.kept (only-same (ran.held none)); output = behind.output; errors = behind.errors }

  -- where the run has come to its end
  abbrev kept_by : Meaning
  kept_by expansions state = on (takes_in does state)

  gathered-so : (came' : Ended) → came ≡ came' → goes_on (how_ended came') ≡ true → (base : Base) (state : State) → Has base kept-old state
      → HasEnd base flow.On kept-new (on (takes_in does state)) × (text ≡ does.written state)
  gathered-so (ended.Done status) is gone base state has = (
    record {
      flow = refl;
      has = ends-so asks reads does first shell session session' tree tree' left left' used used' taken errors (faults_of input of_output of_errors of_tree) (faults_of input' of_output of_errors of_tree') meant stream base state has
          shell' status (shell-is ∙ ap (λ (it : Ended). shell_ended it shell) is) ran.lent.home (ran.held none) (done _ ran.status) (whole _ ran.read) (whole _ ran.noted);
    },
    some-same (done _ ran.output)
        ∙ (meant-here asks reads does first shell session session' tree tree' left left' used used' taken errors (faults_of input of_output of_errors of_tree) (faults_of input' of_output of_errors of_tree') meant stream base state has).output,
  )
    where
      done : (P : List ℕ → Files → ℕ → Type 0) → ((input : List ℕ) (files : Files) → tree.held ≡ Some files → left ≡ Some input → runs.IfDone came (P input files)) → P state.world.input state.world.files status
      done P clause = subst (λ (it : Ended). runs.IfDone it (P state.world.input state.world.files)) is (clause state.world.input state.world.files has.held (ap (λ (it : Seen). it.drawn.left) has.seen))

      whole : (P : ℕ → Type 0) → runs.IfDone came P → P status
      whole P clause = subst (λ (it : Ended). runs.IfDone it P) is clause
  gathered-so ended.Input is gone base state has = absurd (true≢false (sym gone))
  gathered-so ended.Output is gone base state has = absurd (true≢false (sym gone))
  gathered-so ended.Tree is gone base state has = absurd (true≢false (sym gone))
  gathered-so ended.Memory is gone base state has = absurd (true≢false (sym gone))

  -- the counts, of which that of the output stands
  kept-later : NoFewer kept-old.faults kept-new.faults
  kept-later = let a = ran.later.input in let b = ran.later.tree in record { input = a; output = omega arith; errors = omega arith; tree = b }

  kept-cause : (came' : Ended) → runs.HasCause came' (counts_of input 0 of_tree) (counts_of input' 0 of_tree') → HasCause (how_ended came') kept-old.faults kept-new.faults
  kept-cause (ended.Done status) cause = ap (λ (it : runs.Counts). faults_of it.input of_output of_errors it.tree) cause
  kept-cause ended.Input cause = cause
  kept-cause ended.Output cause = absurd (let none = cause in omega (arith, none))
  kept-cause ended.Tree cause = cause
  kept-cause ended.Memory cause = tt

  pub kept-keeps : Keeps kept-old kept-new
  kept-keeps =
      record {
        whole = λ whole. subst (λ (it : Option Files). IfSome it NoWriterOut) (sym (ran.held none)) whole;
        files = held-same tree.held tree'.held (ran.held none);
        output = keeps-to reads session session' stream.session;
        errors = keeps-errors reads session session' stream.session;
      }

  -- it has stopped
  stopped-comes : (came' : Ended) → goes_on (how_ended came') ≡ false → (base : Base) (state : State) → Has base kept-old state
      → Comes base (how_ended came') kept-new (takes files does state)
  stopped-comes (ended.Done status) gone base state has = absurd (true≢false gone)
  stopped-comes ended.Input gone base state has = kept-behind base state has
  stopped-comes ended.Output gone base state has = kept-behind base state has
  stopped-comes ended.Tree gone base state has = kept-behind base state has
  stopped-comes ended.Memory gone base state has = kept-behind base state has

  pub kept-stopped : goes_on (how_ended came) ≡ false → Evaluates (meant_by does files) kept-old (how_ended came) kept-new
  kept-stopped gone =
      record {
        comes = λ expansions are base state has. stopped-comes came gone base state has;
        keeps = λ is. kept-keeps;
        turns = rw (keeps-turns reads session session' stream.session) (omega arith);
        later = kept-later;
        cause = kept-cause came ran.cause;
        lent = ran.lent;
      }

  -- or its output is put where descriptor 1 leads
  pub kept-put : goes_on (how_ended came) ≡ true → (put_how : How) (last : Point) → Evaluates (λ expansions. spreads files text) kept-new put_how last
      → Evaluates (meant_by does files) kept-old put_how last
  kept-put gone put_how last put =
      meant-at (meant_by does files) (λ expansions state. spreads files text (takes_in does state)) kept-old last put_how
      (λ expansions base state has. ap (λ (it : List ℕ). spreads files it (takes_in does state)) (sym (gathered-so came refl gone base state has).1))
      (followed kept_by (λ expansions. spreads files text) kept-old kept-new last (how.Gone flow.On) put_how refl ran-whole put)
    where
      ran-whole : Evaluates kept_by kept-old (how.Gone flow.On) kept-new
      ran-whole =
          record {
            comes = λ expansions are base state has. (gathered-so came refl gone base state has).0;
            keeps = λ is. kept-keeps;
            turns = rw (keeps-turns reads session session' stream.session) (omega arith);
            later = kept-later;
            cause = done-cause came gone ran.cause;
            lent = ran.lent;
          }
        where
          done-cause : (came' : Ended) → goes_on (how_ended came') ≡ true → runs.HasCause came' (counts_of input 0 of_tree) (counts_of input' 0 of_tree') → kept-new.faults ≡ kept-old.faults
          done-cause (ended.Done status) is cause = ap (λ (it : runs.Counts). faults_of it.input of_output of_errors it.tree) cause
          done-cause ended.Input is cause = absurd (true≢false (sym is))
          done-cause ended.Output is cause = absurd (true≢false (sym is))
          done-cause ended.Tree is cause = absurd (true≢false (sym is))
          done-cause ended.Memory is cause = absurd (true≢false (sym is))

-- what a run gives to the evaluation of its inputs, by where descriptor 1 leads
module _ (asks : First → Asks) (reads : Bool) (does : Does) (first : First) (shell shell' : Shell) (session session' : Session) (tree tree' : TreeState) (left left' taken errors : Option (List ℕ))
    (used used' : Option Log) (came : Ended) (came_how : How)
    (meant : AreMeant asks reads does tree) (files : List Components) (stream : TakesStream reads session session' first) (shell-is : shell' ≡ shell_ended came shell) (how-is : came_how ≡ how_ended came) where
  pub ran-out : (own : (asks first).paths ≡ files) (taken' : Option (List ℕ)) (input input' output output' of_errors of_tree of_tree' : ℕ) → session'.streams.to ≡ to.Output
      → Runs (asks first) tree tree' left left' taken taken' (counts_of input output of_tree) (counts_of input' output' of_tree') used used' came
      → Evaluates (meant_by does files) (point_of shell session tree (seen_of (drawn_of left used) taken errors) (faults_of input output of_errors of_tree)) came_how
      (point_of shell' session' tree' (seen_of (drawn_of left' used') taken' errors) (faults_of input' output' of_errors of_tree'))
  ran-out own taken' input input' output output' of_errors of_tree of_tree' leads ran =
      rw how-is
      (written-out asks reads does first shell shell' session session' tree tree' left left' taken taken' errors used used' (counts_of input output of_tree) (counts_of input' output' of_tree') of_errors came
      meant files own stream shell-is ran (sym (keeps-to reads session session' stream.session) ∙ leads))

  module _ (none : (asks first).paths ≡ []) (text : List ℕ) (input input' of_output of_errors of_tree of_tree' : ℕ)
      (ran : Runs (asks first) tree tree' left left' (Some []) (Some text) (counts_of input 0 of_tree) (counts_of input' 0 of_tree') used used' came) where
    pub ran-stopped : goes_on came_how ≡ false
        → Evaluates (meant_by does files) (point_of shell session tree (seen_of (drawn_of left used) taken errors) (faults_of input of_output of_errors of_tree)) came_how
        (point_of shell' session' tree' (seen_of (drawn_of left' used') taken errors) (faults_of input' of_output of_errors of_tree'))
    ran-stopped gone =
        rw how-is
        (kept-stopped asks reads does first shell shell' session session' tree tree' left left' taken errors text used used' input input' of_output of_errors of_tree of_tree' came
        meant files none stream shell-is ran (subst (λ (it : How). goes_on it ≡ false) how-is gone))

    pub ran-put : goes_on came_how ≡ true → (put_how : How) (last : Point)
        → Evaluates (λ expansions. spreads files text) (point_of shell' session' tree' (seen_of (drawn_of left' used') taken errors) (faults_of input' of_output of_errors of_tree')) put_how last
        → Evaluates (meant_by does files) (point_of shell session tree (seen_of (drawn_of left used) taken errors) (faults_of input of_output of_errors of_tree)) put_how last
    ran-put gone put_how last put =
        kept-put asks reads does first shell shell' session session' tree tree' left left' taken errors text used used' input input' of_output of_errors of_tree of_tree' came
        meant files none stream shell-is ran (subst (λ (it : How). goes_on it ≡ true) how-is gone) put_how last put

    -- what is put can be put
    pub sound-so : IsSound session tree → IsSound session' tree'
    sound-so sound = sound-behind (point_of shell session tree (seen_of (drawn_of left used) taken errors) (faults_of input of_output of_errors of_tree))
        (point_of shell' session' tree' (seen_of (drawn_of left' used') taken errors) (faults_of input' of_output of_errors of_tree'))
        (kept-keeps asks reads does first shell shell' session session' tree tree' left left' taken errors text used used' input input' of_output of_errors of_tree of_tree' came meant files none stream shell-is ran) sound

pub put-so : (files : List Components) (slice text : List ℕ) (old new : Point) (came : How) → slice ≡ text → Evaluates (λ expansions. spreads files slice) old came new → Evaluates (λ expansions. spreads files text) old came new
put-so files slice text old new came same one = subst (λ (it : List ℕ). Evaluates (λ expansions. spreads files it) old came new) same one

pub gathered-ran : (asks : Asks) (tree tree' : TreeState) (left left' taken taken' : Option (List ℕ)) (text : List ℕ) (old new : runs.Counts) (used used' : Option Log) (came : Ended)
    → taken ≡ Some [] → Some text ≡ taken' → Runs asks tree tree' left left' taken taken' old new used used' came → Runs asks tree tree' left left' (Some []) (Some text) old new used used' came
gathered-ran asks tree tree' left left' taken taken' text old new used used' came before after ran =
    subst (λ (it : Option (List ℕ)). Runs asks tree tree' left left' it (Some text) old new used used' came) before
    (subst (λ (it : Option (List ℕ)). Runs asks tree tree' left left' taken it old new used used' came) (sym after) ran)
