-- tee: its files are begun one after the other, and what was copied is written to each.
use Rattle.std.proofs.Common.{◌≡◌, ℕ, ◌≤◌, ◌<◌, ◌+◌, add-one, List, [], ◌∷◌, ◌++◌, length, drop, get_or, Bool, true, false, if◌then◌else◌, Option, Some, None, IfSome, Result, Ok, Err, OnOk, refl, sym, ap, ◌∙◌, subst, arith}
use Rattle.std.proofs.Math.ListN.{drop_of_length-le}
use Rattle.std.proofs.Math.Seq.{drop-cons}
use Rattle.std.specs.Global.{Vec}
use Rattle.std.specs.Option.{option_map}
use Rattle.ps_lines.specs.Texts.{texts_of}
use Rattle.ps_world.specs.Counts.{Rose}
use Rattle.ps_world.specs.Files.{Files, IsFileAt, NoWriterOut, bytes_at}
use Rattle.ps_world.specs.Paths.{Components}
use Rattle.ps_world.specs.Places.{resolve}
use Rattle.ps_world.specs.TreeState.{Balanced, TreeState}
use Rattle.ps_world.specs.declared.error.WorldErr.{WorldErr}
use Rattle.ps_world.specs.declared.error.WorldErr.TheVariants as error
use Rattle.ps_world.specs.declared.places.Place.{Place}
use Rattle.ps_world.proofs.TreeStateLemmas.{balanced-more, balanced-none}
use Rattle.ut_args.specs.Inputs.{files_by}
use Rattle.fl_commands.specs.Writers.{AreFilesAt, ChangesOnly}
use Rattle.fl_commands.proofs.WriterLemmas.{only-more, only-same, only-within}
use Rattle.sh_expand.specs.Outcomes.{Expansions}
use Rattle.sh_eval.specs.declared.flows.Flow.TheVariants as flow
use Rattle.sh_eval.specs.declared.outcomes.How.{How}
use Rattle.sh_eval.specs.declared.outcomes.How.TheVariants as how
use Rattle.sh_eval.specs.declared.session.Session.{Session}
use Rattle.sh_eval.specs.declared.shell.Shell.{Shell}
use Rattle.sh_eval.specs.declared.streams.Streams.{Streams}
use Rattle.sh_eval.specs.declared.streams.To.TheVariants as to
use Rattle.sh_eval.specs.Contract.{Comes, Evaluates, HasCause, HeldStays, Keeps, NoFewer, Point, Seen, Stands, Stay, faults_of, goes_on, point_of}
use Rattle.sh_eval.specs.Growth.{Adds}
use Rattle.sh_eval.specs.Inner.Opening.{how_of}
use Rattle.sh_eval.specs.Inner.Teeing.{Begins, Fails, Making}
use Rattle.sh_eval.specs.Leading.{begun_at}
use Rattle.sh_eval.specs.Redirections.{file_begun, named_by}
use Rattle.sh_eval.specs.States.{State, Ends, Means, in_world, on, puts, write}
use Rattle.sh_eval.specs.Teeing.{Made, begins_anew, copies, making, making_at, making_one, none_made, spreads, tees, tells_and_copies, with_file, writes}
use Rattle.sh_eval.specs.Utilities.{Called, tells_some}
use Rattle.sh_eval.proofs.EndingLemmas.{blamed}
use Rattle.sh_eval.proofs.Growing.{adds-copies, adds-making, adds-tells_and_copies, adds-tees, grows-self, grows-writes}
use Rattle.sh_eval.proofs.KeptLemmas.{kept-step, only-begun}
use Rattle.sh_eval.proofs.RedirectionSteps.{file-here, stays-begun, whole-begun}
use Rattle.sh_eval.proofs.Steps.{followed, held-none, held-more, keeps-more, nothing, sound-behind, stopped}
use Rattle.sh_eval.proofs.WritingLemmas.{stay-filled}

-- what a result says, said otherwise
pub on_ok : {Value Error P Q : Type 0} (result : Result Value Error) → (P → Q) → OnOk result P → OnOk result Q
on_ok (Ok value) gives fact = gives fact
on_ok (Err error) gives fact = tt

-- FILES ARE BEGUN. Nothing is begun yet
pub begins-same : (first second : Making) (tree : TreeState) → ((next : Made → Means) (state : State) → first next state ≡ second next state) → Begins first second tree tree
begins-same first second tree same =
    record {
      at = λ state held home. record { files = state.world.files; written = state.world.written; told = held; kept = λ begun kept. kept; same = λ next. same next state };
      whole = λ whole. whole;
      files = held-none tree.held;
      lent = balanced-none tree;
    }

pub begins-none : (anew : Bool) (name : List ℕ) (texts : List (List ℕ)) (files : List Components) (lines : List ℕ) (tree : TreeState) → files ≡ [] → lines ≡ []
    → Begins (making anew name texts none_made) (making anew name texts (record { files = files; lines = lines; is_whole = true })) tree tree
begins-none anew name texts files lines tree none none' =
    begins-same (making anew name texts none_made) (making anew name texts (record { files = files; lines = lines; is_whole = true })) tree
    (λ next state. λ i. making anew name texts (record { files = sym none i; lines = sym none' i; is_whole = true }) next state)

begins-more : (first second third : Making) (old mid new : TreeState) → Begins first second old mid → Begins second third mid new → Begins first third old new
begins-more first second third old mid new one two =
    record {
      at = λ state held home.
          let here = one.at state held home in
          let there = two.at (in_world (λ world. record world { files = here.files; written = here.written }) state) here.told (one.lent.home ∙ home) in
          record { files = there.files; written = there.written; told = there.told; kept = λ begun kept. there.kept begun (here.kept begun kept); same = λ next. here.same next ∙ there.same next };
      whole = λ whole. two.whole (one.whole whole);
      files = held-more old.held mid.held new.held one.files two.files;
      lent = balanced-more old mid new one.lent two.lent;
    }

-- the next of some files
begins-step : (anew : Bool) (name text : List ℕ) (rest : List (List ℕ)) (made made' : Made) (old new : TreeState) → Begins (making_one anew name text made) (λ next. next made') old new
    → Begins (making anew name (text ∷ rest) made) (making anew name rest made') old new
begins-step anew name text rest made made' old new one =
    record {
      at = λ state held home.
          let here = one.at state held home in
          record { files = here.files; written = here.written; told = here.told; kept = here.kept; same = λ next. here.same (λ behind. making anew name rest behind next) };
      whole = one.whole;
      files = one.files;
      lent = one.lent;
    }

texts-cut : (texts : List (Vec ℕ)) (place : ℕ) (one : Vec ℕ) → one ≡ get_or texts place one → place < length texts → texts_of (drop place texts) ≡ one.items ∷ texts_of (drop (place + 1) texts)
texts-cut texts place one here below =
    let is : drop place texts ≡ get_or texts place one ∷ drop (place + 1) texts = rw add-one (drop-cons texts place one below) in
    ap texts_of (is ∙ ap (λ (it : Vec ℕ). it ∷ drop (place + 1) texts) (sym here))

pub begins-next : (anew : Bool) (name text : List ℕ) (texts : List (Vec ℕ)) (place : ℕ) (one : Vec ℕ) (first : Making) (made made' : Made) (old mid new : TreeState) → one ≡ get_or texts place one → place < length texts → text ≡ one.items
    → Begins first (making anew name (texts_of (drop place texts)) made) old mid → Begins (making_one anew name text made) (λ next. next made') mid new
    → Begins first (making anew name (texts_of (drop (place + 1) texts)) made') old new
begins-next anew name text texts place one first made made' old mid new here below same begins step =
    begins-more first (making anew name (one.items ∷ texts_of (drop (place + 1) texts)) made) (making anew name (texts_of (drop (place + 1) texts)) made') old mid new
    (subst (λ (it : List (List ℕ)). Begins first (making anew name it made) old mid) (texts-cut texts place one here below) begins)
    (begins-step anew name one.items (texts_of (drop (place + 1) texts)) made made' mid new (subst (λ (it : List ℕ). Begins (making_one anew name it made) (λ next. next made') mid new) same step))

pub begins-done : (anew : Bool) (name : List ℕ) (texts : List (Vec ℕ)) (place : ℕ) (first : Making) (made : Made) (old new : TreeState) → length texts ≤ place
    → Begins first (making anew name (texts_of (drop place texts)) made) old new → Begins first (λ next. next made) old new
begins-done anew name texts place first made old new over begins =
    subst (λ (it : List (Vec ℕ)). Begins first (making anew name (texts_of it) made) old new) (drop_of_length-le texts over) begins

-- what stands at a place
pub begins-at : (anew : Bool) (name text : List ℕ) (here found : Place) (made made' : Made) (old new : TreeState) → here ≡ found → Begins (making_at anew name text found made) (λ next. next made') old new
    → Begins (making_at anew name text here made) (λ next. next made') old new
begins-at anew name text here found made made' old new is begins = subst (λ (it : Place). Begins (making_at anew name text it made) (λ next. next made') old new) (sym is) begins

pub begins-still : (anew : Bool) (name text : List ℕ) (here found : Place) (made made' meant : Made) (tree : TreeState) → here ≡ found → ((next : Made → Means) (state : State) → making_at anew name text found made next state ≡ next meant state) → made' ≡ meant
    → Begins (making_at anew name text here made) (λ next. next made') tree tree
begins-still anew name text here found made made' meant tree is same made_is =
    begins-at anew name text here found made made' tree tree is
    (begins-same (making_at anew name text found made) (λ next. next made') tree (λ next state. same next state ∙ ap (λ (it : Made). next it state) (sym made_is)))

pub begins-named : (anew : Bool) (name text : List ℕ) (found : Place) (made : Made) (second : Making) (tree mid new : TreeState) → IfSome tree.held (λ files. found ≡ resolve files tree.home text) → mid ≡ tree
    → Begins (making_at anew name text found made) second mid new → Begins (making_one anew name text made) second tree new
begins-named anew name text found made second tree mid new is same begins =
    let here : Begins (making_at anew name text found made) second tree new = subst (λ (it : TreeState). Begins (making_at anew name text found made) second it new) same begins in
    record {
      at = λ state held home.
          let one = here.at state held home in
          let named : found ≡ named_by state text = subst (λ (it : Option Files). IfSome it (λ files. found ≡ resolve files tree.home text)) held is ∙ ap (λ (it : Components). resolve state.world.files it text) home in
          record { files = one.files; written = one.written; told = one.told; kept = one.kept; same = λ next. ap (λ (it : Place). making_at anew name text it made next state) (sym named) ∙ one.same next };
      whole = here.whole;
      files = here.files;
      lent = here.lent;
    }

-- the file at a path
pub begins-file : (anew : Bool) (path : Components) (made made' : Made) (old new : TreeState) → new.held ≡ option_map (begun_at anew path) old.held → Balanced old new → made' ≡ with_file path made
    → Begins (λ next state. next (with_file path made) (in_world (file_begun anew path) state)) (λ next. next made') old new
begins-file anew path made made' old new held lent made_is =
    record {
      at = λ state told home. record {
        files = begun_at anew path state.world.files;
        written = path ∷ state.world.written;
        kept = λ begun kept. kept-step begun old.held state.world.written path new.held kept (only-begun anew path old.held new.held held);
        told = held ∙ ap (option_map (begun_at anew path)) told;
        same = λ next. ap (λ (it : Made). next it (in_world (file_begun anew path) state)) (sym made_is);
      };
      whole = λ whole. subst (λ (it : Option Files). IfSome it NoWriterOut) (sym held) (whole-begun anew path old.held whole);
      files = subst (HeldStays old.held) (sym held) (stays-begun anew path old.held);
      lent = lent;
    }

-- FILES that can be written
takes-still : (paths : List Components) (old new : Files) → Stay old new → AreFilesAt old paths → AreFilesAt new paths
takes-still [] old new stay are = tt
takes-still (path ∷ paths) old new stay are = (stay.files path are.0, takes-still paths old new stay are.1)

takes-more : (paths : List Components) (path : Components) (files : Files) → AreFilesAt files paths → IsFileAt files path → AreFilesAt files (paths ++ path ∷ [])
takes-more [] path files are is = (is, tt)
takes-more (first ∷ paths) path files are is = (are.0, takes-more paths path files are.1 is)

takes-kept : (paths : List Components) (old new : Option Files) → HeldStays old new → IfSome old (λ held. AreFilesAt held paths) → IfSome new (λ held. AreFilesAt held paths)
takes-kept paths None new stays are = subst (λ (it : Option Files). IfSome it (λ held. AreFilesAt held paths)) (sym stays) tt
takes-kept paths (Some files) new stays are = subst (λ (it : Option Files). IfSome it (λ held. AreFilesAt held paths)) (sym stays.told) (takes-still paths files stays.new stays.stay are)

pub there-file : (anew : Bool) (path : Components) (paths paths' : List Components) (old new : Option Files) → new ≡ option_map (begun_at anew path) old → paths' ≡ paths ++ path ∷ []
    → IfSome old (λ held. AreFilesAt held paths) → IfSome new (λ held. AreFilesAt held paths')
there-file anew path paths paths' old new held is are =
    subst (λ (it : List Components). IfSome new (λ held. AreFilesAt held it)) (sym is) (subst (λ (it : Option Files). IfSome it (λ held. AreFilesAt held (paths ++ path ∷ []))) (sym held) (by_held old are))
  where
    by_held : (it : Option Files) → IfSome it (λ held. AreFilesAt held paths) → IfSome (option_map (begun_at anew path) it) (λ held. AreFilesAt held (paths ++ path ∷ []))
    by_held None are = tt
    by_held (Some files) are =
        let bytes : List ℕ = if anew then [] else bytes_at files path in
        takes-more paths path (begun_at anew path files) (takes-still paths files (begun_at anew path files) (stay-filled files path bytes) are) (file-here files path bytes)

pub there-same : (paths paths' : List Components) (old new : Option Files) → new ≡ old → paths' ≡ paths → IfSome old (λ held. AreFilesAt held paths) → IfSome new (λ held. AreFilesAt held paths')
there-same paths paths' old new held is are =
    subst (λ (it : List Components). IfSome new (λ held. AreFilesAt held it)) (sym is) (subst (λ (it : Option Files). IfSome it (λ held. AreFilesAt held paths)) (sym held) are)

pub there-none : (paths : List Components) (held : Option Files) → paths ≡ [] → IfSome held (λ held. AreFilesAt held paths)
there-none paths held none = subst (λ (it : List Components). IfSome held (λ held. AreFilesAt held it)) (sym none) (by_held held)
  where
    by_held : (it : Option Files) → IfSome it (λ held. AreFilesAt held [])
    by_held None = tt
    by_held (Some files) = tt

-- what it is over with: nothing else is changed than what it writes
abbrev pub FailsKept : Making → TreeState → TreeState → Type 0
FailsKept part old new =
    (next : Made → Means) → ((made : Made) → Adds (next made)) → (state : State) → old.held ≡ Some state.world.files → old.home ≡ state.world.home
    → (begun : Option Files) → ChangesOnly state.world.written begun old.held → ChangesOnly (part next state).state.world.written begun new.held

pub fails-by : (part : Making) (why : WorldErr) (came : How) (old new : TreeState) (before now : ℕ) → FailsKept part old new → came ≡ how_of why → Balanced old new → before ≤ now → (why ≡ error.Failed → Rose before now)
    → Fails part came old new before now
fails-by part why came old new before now kept is lent later failed = subst (λ (it : How). Fails part it old new before now) (sym is) (by_why why failed)
  where
    by_why : (it : WorldErr) → (it ≡ error.Failed → Rose before now) → Fails part (how_of it) old new before now
    by_why error.Failed failed = record { kept = kept; off = λ gone. gone; later = later; cause = λ input output errors. failed refl; lent = lent }
    by_why error.Memory failed = record { kept = kept; off = λ gone. gone; later = later; cause = λ input output errors. tt; lent = lent }

pub fails-wanted : (part : Making) (came : How) (old new : TreeState) (before now : ℕ) → FailsKept part old new → came ≡ how.Memory → Balanced old new → now ≡ before → Fails part came old new before now
fails-wanted part came old new before now kept is lent same =
    subst (λ (it : How). Fails part it old new before now) (sym is) (record { kept = kept; off = λ gone. gone; later = omega (arith, same); cause = λ input output errors. tt; lent = lent })

-- the files are as they were
pub kept-same_files : (part : Making) (old new : TreeState) → ((next : Made → Means) → ((made : Made) → Adds (next made)) → Adds (part next)) → new.held ≡ old.held → FailsKept part old new
kept-same_files part old new adds same next goes_on state held home begun kept = only-more (only-within (adds next goes_on state).written kept) (only-same same)

-- but for one, which was begun
pub kept-begun : (anew : Bool) (path : Components) (made : Made) (old new : TreeState) → ChangesOnly (path ∷ []) old.held new.held
    → FailsKept (λ next state. next (with_file path made) (in_world (file_begun anew path) state)) old new
kept-begun anew path made old new only next adds state held home begun kept =
    only-within (adds (with_file path made) (in_world (file_begun anew path) state)).written (kept-step begun old.held state.world.written path new.held kept only)

-- behind files that were begun
pub fails-behind : (first second : Making) (came : How) (old mid new : TreeState) (before between now : ℕ) → Begins first second old mid → between ≡ before → Fails second came mid new between now → Fails first came old new before now
fails-behind first second came old mid new before between now begins same fails =
    let here : Fails second came mid new before now = subst (λ (it : ℕ). Fails second came mid new it now) same fails in
    record {
      kept = λ next adds state held home begun kept.
          let one = begins.at state held home in
          subst (λ (it : Ends). ChangesOnly it.state.world.written begun new.held) (sym (one.same next))
          (here.kept next adds (in_world (λ world. record world { files = one.files; written = one.written }) state) one.told (begins.lent.home ∙ home) begun (one.kept begun kept));
      off = here.off;
      later = here.later;
      cause = here.cause;
      lent = balanced-more old mid new begins.lent here.lent;
    }

-- the next of some files
fails-step : (anew : Bool) (name text : List ℕ) (rest : List (List ℕ)) (made : Made) (came : How) (old new : TreeState) (before now : ℕ) → Fails (making_one anew name text made) came old new before now
    → Fails (making anew name (text ∷ rest) made) came old new before now
fails-step anew name text rest made came old new before now fails =
    record {
      kept = λ next adds. fails.kept (λ behind. making anew name rest behind next) (λ behind. adds-making anew name rest behind next adds);
      off = fails.off;
      later = fails.later;
      cause = fails.cause;
      lent = fails.lent;
    }

pub fails-next : (anew : Bool) (name text : List ℕ) (texts : List (Vec ℕ)) (place : ℕ) (one : Vec ℕ) (first : Making) (made : Made) (came : How) (old mid new : TreeState) (before between now : ℕ)
    → one ≡ get_or texts place one → place < length texts → text ≡ one.items
    → Begins first (making anew name (texts_of (drop place texts)) made) old mid → between ≡ before → Fails (making_one anew name text made) came mid new between now → Fails first came old new before now
fails-next anew name text texts place one first made came old mid new before between now here below same begins calm fails =
    fails-behind first (making anew name (one.items ∷ texts_of (drop (place + 1) texts)) made) came old mid new before between now
    (subst (λ (it : List (List ℕ)). Begins first (making anew name it made) old mid) (texts-cut texts place one here below) begins) calm
    (fails-step anew name one.items (texts_of (drop (place + 1) texts)) made came mid new between now (subst (λ (it : List ℕ). Fails (making_one anew name it made) came mid new between now) same fails))

-- what stands at a place
pub fails-at : (anew : Bool) (name text : List ℕ) (here found : Place) (made : Made) (came : How) (old new : TreeState) (before now : ℕ) → here ≡ found → Fails (making_at anew name text found made) came old new before now
    → Fails (making_at anew name text here made) came old new before now
fails-at anew name text here found made came old new before now is fails = subst (λ (it : Place). Fails (making_at anew name text it made) came old new before now) (sym is) fails

pub fails-named : (anew : Bool) (name text : List ℕ) (found : Place) (made : Made) (came : How) (tree mid new : TreeState) (before between now : ℕ) → IfSome tree.held (λ files. found ≡ resolve files tree.home text) → mid ≡ tree
    → between ≡ before → Fails (making_at anew name text found made) came mid new between now → Fails (making_one anew name text made) came tree new before now
fails-named anew name text found made came tree mid new before between now is same calm fails =
    fails-behind (making_one anew name text made) (making_at anew name text found made) came tree mid new before between now
    (begins-named anew name text found made (making_at anew name text found made) tree mid mid is same (begins-same (making_at anew name text found made) (making_at anew name text found made) mid (λ next state. refl))) calm fails

-- WHAT IS EVALUATED BEHIND THE FILES
module _ (first : Making) (made : Made) (next : Made → Means) (shell : Shell) (session : Session) (tree mid : TreeState) (seen : Seen) (input output errors count between : ℕ) (begins : Begins first (λ next. next made) tree mid) (same : between ≡ count) where
  abbrev at_first : Point
  at_first = point_of shell session tree seen (faults_of input output errors count)

  abbrev behind_files : Point
  behind_files = point_of shell session mid seen (faults_of input output errors between)

  keeps-begun : Keeps at_first behind_files
  keeps-begun = record { whole = begins.whole; files = begins.files; output = refl; errors = refl }

  pub sound-begun : IfSome tree.held (Stands session.streams) → IfSome mid.held (Stands session.streams)
  sound-begun sound = sound-behind at_first behind_files keeps-begun sound

  pub evaluates-begun : (new : Point) (came : How) → Evaluates (λ expansions. next made) behind_files came new → Evaluates (λ expansions. first next) at_first came new
  evaluates-begun new came one =
      record {
        comes = λ expansions are base state has.
            let here = begins.at state has.held has.home in
            subst (λ (it : Ends). Comes base came new it) (sym (here.same next))
            (one.comes expansions are base (in_world (λ world. record world { files = here.files; written = here.written }) state)
            (record {
              shell = has.shell;
              session = has.session;
              home = begins.lent.home ∙ has.home;
              held = here.told;
              kept = here.kept (Some base.files) has.kept;
              seen = has.seen;
            }));
        keeps = λ gone. keeps-more at_first behind_files new keeps-begun (one.keeps gone);
        turns = one.turns;
        later = subst (λ (it : ℕ). NoFewer (faults_of input output errors it) new.faults) same one.later;
        cause = subst (λ (it : ℕ). HasCause came (faults_of input output errors it) new.faults) same one.cause;
        lent = balanced-more tree mid new.tree begins.lent one.lent;
      }

pub tees-failed : (name : List ℕ) (called : Called) (anew : Bool) (texts : List (List ℕ)) (shell : Shell) (session : Session) (tree new : TreeState) (seen : Seen) (input output errors before now : ℕ) (came : How) → anew ≡ begins_anew called.command → texts ≡ files_by called.command
    → Fails (making anew name texts none_made) came tree new before now
    → Evaluates (λ expansions. tees name called) (point_of shell session tree seen (faults_of input output errors before)) came (point_of shell session new seen (faults_of input output errors now))
tees-failed name called anew texts shell session tree new seen input output errors before now came anew_is texts_are found =
    let fails : Fails (making (begins_anew called.command) name (files_by called.command) none_made) came tree new before now =
    subst (λ (it : Bool). Fails (making it name (files_by called.command) none_made) came tree new before now) anew_is
    (subst (λ (it : List (List ℕ)). Fails (making anew name it none_made) came tree new before now) texts_are found) in
    let later = fails.later in
    blamed (λ expansions. tees name called) (point_of shell session tree seen (faults_of input output errors before)) (point_of shell session new seen (faults_of input output errors now)) came (λ expansions. adds-tees name called)
    fails.off refl refl (λ expansions base state has. fails.kept (tells_and_copies called) (adds-tells_and_copies called) state has.held has.home (Some base.files) has.kept) (omega arith) (record { input = omega arith; output = omega arith; errors = omega arith; tree = later }) (fails.cause input output errors) fails.lent

-- the files of an invocation, by those that were looked at
pub tees-so : (name : List ℕ) (called : Called) (anew : Bool) (texts : List (List ℕ)) (made : Made) (shell : Shell) (session : Session) (tree mid : TreeState) (seen : Seen) (input output errors count between : ℕ) (new : Point) (came : How)
    → anew ≡ begins_anew called.command → texts ≡ files_by called.command → Begins (making anew name texts none_made) (λ next. next made) tree mid → between ≡ count
    → Evaluates (λ expansions. tells_and_copies called made) (point_of shell session mid seen (faults_of input output errors between)) came new
    → Evaluates (λ expansions. tees name called) (point_of shell session tree seen (faults_of input output errors count)) came new
tees-so name called anew texts made shell session tree mid seen input output errors count between new came anew_is texts_are begins same one =
    evaluates-begun (making (begins_anew called.command) name (files_by called.command) none_made) made (tells_and_copies called) shell session tree mid seen input output errors count between
    (subst (λ (it : Bool). Begins (making it name (files_by called.command) none_made) (λ next. next made) tree mid) anew_is
    (subst (λ (it : List (List ℕ)). Begins (making anew name it none_made) (λ next. next made) tree mid) texts_are begins)) same new came one

-- LINES ARE TOLD, and the input is copied
module _ (called : Called) (made : Made) (lines : List ℕ) (lines_are : lines ≡ made.lines) where
  tells-so : (old new : Point) (came : How) → Evaluates (λ expansions state. on (tells_some lines state)) old came new → Evaluates (λ expansions state. on (tells_some made.lines state)) old came new
  tells-so old new came one = subst (λ (it : List ℕ). Evaluates (λ expansions state. on (tells_some it state)) old came new) lines_are one

  pub told-stopped : (old new : Point) (came : How) → goes_on came ≡ false → Evaluates (λ expansions state. on (tells_some lines state)) old came new → Evaluates (λ expansions. tells_and_copies called made) old came new
  told-stopped old new came off one =
      stopped (λ expansions state. on (tells_some made.lines state)) (λ expansions. copies called made.files made.is_whole) old new came off (λ expansions. adds-copies called made.files made.is_whole) (tells-so old new came one)

  pub told-copied : (files : List Components) (old mid new : Point) (came then_how : How) → files ≡ made.files → goes_on came ≡ true → Evaluates (λ expansions state. on (tells_some lines state)) old came mid
      → Evaluates (λ expansions. copies called files made.is_whole) mid then_how new → Evaluates (λ expansions. tells_and_copies called made) old then_how new
  told-copied files old mid new came then_how are is one other =
      followed (λ expansions state. on (tells_some made.lines state)) (λ expansions. copies called made.files made.is_whole) old mid new came then_how is (tells-so old mid came one)
      (subst (λ (it : List Components). Evaluates (λ expansions. copies called it made.is_whole) mid then_how new) are other)

-- files can be written still behind a command that goes on
pub there-kept : (paths slice : List Components) (old new : Point) → slice ≡ paths → Keeps old new → IfSome old.tree.held (λ held. AreFilesAt held paths) → IfSome new.tree.held (λ held. AreFilesAt held slice)
there-kept paths slice old new same keeps are =
    subst (λ (it : List Components). IfSome new.tree.held (λ held. AreFilesAt held it)) (sym same) (takes-kept paths old.tree.held new.tree.held keeps.files are)

-- IT IS WRITTEN TO EACH FILE
adds-writes : (files : List Components) (text : List ℕ) → Adds (λ state. on (writes files text state))
adds-writes files text state = grows-writes state files text state (grows-self state)

pub spread-stopped : (files : List Components) (text : List ℕ) (old new : Point) (came : How) → goes_on came ≡ false → Evaluates (λ expansions state. on (puts text state)) old came new → Evaluates (λ expansions. spreads files text) old came new
spread-stopped files text old new came off one = stopped (λ expansions state. on (puts text state)) (λ expansions state. on (writes files text state)) old new came off (λ expansions. adds-writes files text) one

pub spread-so : (files : List Components) (text : List ℕ) (old mid new : Point) (came then_how : How) → goes_on came ≡ true → Evaluates (λ expansions state. on (puts text state)) old came mid
    → Evaluates (λ expansions state. on (writes files text state)) mid then_how new → Evaluates (λ expansions. spreads files text) old then_how new
spread-so files text old mid new came then_how is one other = followed (λ expansions state. on (puts text state)) (λ expansions state. on (writes files text state)) old mid new came then_how is one other

files-cut : (files : List Components) (number : ℕ) (one : Components) → one ≡ get_or files number one → number < length files → drop number files ≡ one ∷ drop (number + 1) files
files-cut files number one here below =
    let is : drop number files ≡ get_or files number one ∷ drop (number + 1) files = rw add-one (drop-cons files number one below) in
    is ∙ ap (λ (it : Components). it ∷ drop (number + 1) files) (sym here)

module _ (files : List Components) (number : ℕ) (path : Components) (text : List ℕ) (here : path ≡ get_or files number path) (below : number < length files) where
  pub each-stopped : (old new : Point) (came : How) → goes_on came ≡ false → Evaluates (λ expansions state. on (write (to.File path) text state)) old came new
      → Evaluates (λ expansions state. on (writes (drop number files) text state)) old came new
  each-stopped old new came off one =
      subst (λ (it : List Components). Evaluates (λ expansions state. on (writes it text state)) old came new) (sym (files-cut files number path here below))
      (stopped (λ expansions state. on (write (to.File path) text state)) (λ expansions state. on (writes (drop (number + 1) files) text state)) old new came off (λ expansions. adds-writes (drop (number + 1) files) text) one)

  pub each-so : (old mid new : Point) (came then_how : How) → goes_on came ≡ true → Evaluates (λ expansions state. on (write (to.File path) text state)) old came mid
      → Evaluates (λ expansions state. on (writes (drop (number + 1) files) text state)) mid then_how new → Evaluates (λ expansions state. on (writes (drop number files) text state)) old then_how new
  each-so old mid new came then_how is one other =
      subst (λ (it : List Components). Evaluates (λ expansions state. on (writes it text state)) old then_how new) (sym (files-cut files number path here below))
      (followed (λ expansions state. on (write (to.File path) text state)) (λ expansions state. on (writes (drop (number + 1) files) text state)) old mid new came then_how is one other)

  all-here : (held : Option Files) → IfSome held (λ held. AreFilesAt held (drop number files)) → IfSome held (λ held. AreFilesAt held (path ∷ drop (number + 1) files))
  all-here held are = subst (λ (it : List Components). IfSome held (λ held. AreFilesAt held it)) (files-cut files number path here below) are

  first-of : (held : Option Files) → IfSome held (λ held. AreFilesAt held (path ∷ drop (number + 1) files)) → IfSome held (λ held. IsFileAt held path)
  first-of None are = tt
  first-of (Some it) are = are.0

  others-of : (held : Option Files) → IfSome held (λ held. AreFilesAt held (path ∷ drop (number + 1) files)) → IfSome held (λ held. AreFilesAt held (drop (number + 1) files))
  others-of None are = tt
  others-of (Some it) are = are.1

  pub is-here : (held : Option Files) → IfSome held (λ held. AreFilesAt held (drop number files)) → IfSome held (λ held. IsFileAt held path)
  is-here held are = first-of held (all-here held are)

  pub are-others : (old new : Option Files) → HeldStays old new → IfSome old (λ held. AreFilesAt held (drop number files)) → IfSome new (λ held. AreFilesAt held (drop (number + 1) files))
  are-others old new stays are = takes-kept (drop (number + 1) files) old new stays (others-of old (all-here old are))

pub each-done : (files : List Components) (number : ℕ) (text : List ℕ) (at : Point) → length files ≤ number → Evaluates (λ expansions state. on (writes (drop number files) text state)) at (how.Gone flow.On) at
each-done files number text at over = subst (λ (it : List Components). Evaluates (λ expansions state. on (writes it text state)) at (how.Gone flow.On) at) (sym (drop_of_length-le files over)) (nothing at)
