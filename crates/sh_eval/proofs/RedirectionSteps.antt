-- Redirections, one after the other.
use Rattle.std.proofs.Common.{◌≡◌, ℕ, ◌≤◌, ◌==◌, List, [], ◌∷◌, Bool, true, false, if◌then◌else◌, Option, Some, None, IfSome, Result, Ok, Err, codes, nat_eq, refl, sym, ap, ◌∙◌, subst, arith}
use Rattle.std.specs.FinMap as map
use Rattle.std.specs.Option.{option_map}
use Rattle.ps_world.specs.Counts.{Rose}
use Rattle.ps_world.specs.Paths.{Components}
use Rattle.ps_world.specs.Files.{Files, Bytes, IsFile, IsOneOf, NoWriterOut, bytes_at}
use Rattle.ps_world.specs.Places.{resolve}
use Rattle.ps_world.specs.TreeState.{TreeState, Balanced, OnlyLent}
use Rattle.ps_world.specs.declared.error.WorldErr.{WorldErr}
use Rattle.ps_world.specs.declared.error.WorldErr.TheVariants as error
use Rattle.ps_world.specs.declared.places.Place.{Place}
use Rattle.ps_world.specs.declared.places.Place.TheVariants as place
use Rattle.ps_world.proofs.TreeStateLemmas.{balanced-none, balanced-only_lent}
use Rattle.ps_world.proofs.WritingLemmas.{no_writer_out-filled, set_at}
use Rattle.sh_eval.specs.declared.session.Session.{Session}
use Rattle.sh_eval.specs.declared.shell.Shell.{Shell}
use Rattle.sh_eval.specs.declared.stops.RedirectionError.{RedirectionError}
use Rattle.sh_eval.specs.declared.stops.RedirectionError.TheVariants as stop
use Rattle.sh_eval.specs.declared.streams.From.{From}
use Rattle.sh_eval.specs.declared.streams.From.TheVariants as from
use Rattle.sh_eval.specs.declared.streams.Streams.{Streams}
use Rattle.sh_eval.specs.declared.streams.To.{To}
use Rattle.sh_eval.specs.declared.streams.To.TheVariants as to
use Rattle.sh_eval.specs.States.{State, in_session, in_streams, in_world, reading}
use Rattle.sh_eval.specs.Redirections.{Redirected, led, stopped, named_by, read_from, reading_at, writing_at, leads_to, led_to, leading, file_begun, redirected}
use Rattle.sh_eval.specs.Targets.{Target}
use Rattle.sh_tree.specs.declared.commands.How.{How}
use Rattle.std.specs.Cmp.Lexicographic.{pointwise}
use Rattle.sh_eval.specs.Contract.{Seen, Faults, Point, point_of, faults_of, Base, Has, CanTake, Stands, Stay, HeldStays}
use Rattle.sh_eval.specs.Leading.{begun_at}
use Rattle.sh_eval.specs.Redirecting.{Led, Breaks, Does, TellsLine, left_off, of_tree, wrote_by}
use Rattle.fl_commands.specs.Writers.{ChangesOnly}
use Rattle.fl_commands.proofs.WriterLemmas.{only-more, only-same, only-within}
use Rattle.sh_eval.proofs.Growing.{grows-reading, grows-writing, wrote-more}
use Rattle.sh_eval.proofs.KeptLemmas.{kept-step, only-begun}
use Rattle.sh_eval.proofs.Steps.{can-take, no-fewer, held-none}
use Rattle.sh_eval.proofs.WritingLemmas.{stay-filled}

-- READING. What is written goes where it went
stands-read : (held : Option Files) (streams : Streams) (source : From) → IfSome held (Stands streams) → IfSome held (Stands (record streams { from = source }))
stands-read None streams source stands = tt
stands-read (Some files) streams source stands = record { whole = stands.whole; output = stands.output; errors = stands.errors }

led-read : (text : List ℕ) (does : State → Redirected) (shell : Shell) (session session' : Session) (tree tree' : TreeState) (seen : Seen) (faults faults' : Faults) → session' ≡ reading (from.Kept text) session → OnlyLent tree tree'
    → faults' ≡ faults → ((base : Base) (state : State) → Has base (point_of shell session tree seen faults) state → does state ≡ read_from text state)
    → Led does (point_of shell session tree seen faults) (point_of shell session' tree' seen faults')
led-read text does shell session session' tree tree' seen faults faults' is only same_faults same =
    record {
      at = λ base state has.
          record {
            behind = in_session (reading (from.Kept text)) state;
            has =
                record {
                  shell = has.shell;
                  session = is ∙ ap (reading (from.Kept text)) has.session;
                  home = only.home ∙ has.home;
                  held = only.held ∙ has.held;
                  kept = only-more has.kept (only-same only.held);
                  seen = has.seen;
                };
            same = same base state has;
          };
      leaves_on =
          record {
            whole = λ whole. subst (λ (it : Option Files). IfSome it NoWriterOut) (sym only.held) whole;
            files = subst (HeldStays tree.held) (sym only.held) (held-none tree.held);
            sound = λ sound.
                subst (λ (it : Option Files). IfSome it (Stands session'.streams)) (sym only.held)
                (subst (λ (it : Session). IfSome tree.held (Stands it.streams)) (sym is) (stands-read tree.held session.streams (from.Kept text) sound));
            turns = subst (λ (it : Session). session.turns ≤ it.turns) (sym is) (omega arith);
            faults = same_faults;
            lent = balanced-only_lent tree tree' only;
          };
    }

-- a file is read
pub led-file : (path : Components) (text bytes : List ℕ) (shell : Shell) (session session' : Session) (tree tree' : TreeState) (seen : Seen) (faults faults' : Faults) → IfSome tree.held (λ files. bytes ≡ bytes_at files path)
    → session' ≡ reading (from.Kept bytes) session → OnlyLent tree tree' → faults' ≡ faults → Led (reading_at text (place.File path)) (point_of shell session tree seen faults) (point_of shell session' tree' seen faults')
led-file path text bytes shell session session' tree tree' seen faults faults' is session_is only same_faults =
    led-read bytes (reading_at text (place.File path)) shell session session' tree tree' seen faults faults' session_is only same_faults
    (λ base state has.
    let here : bytes ≡ bytes_at state.world.files path = subst (λ (it : Option Files). IfSome it (λ files. bytes ≡ bytes_at files path)) has.held is in
    ap (λ (it : List ℕ). read_from it state) (sym here))

-- the null device is read
pub led-null : (text bytes : List ℕ) (shell : Shell) (session session' : Session) (tree : TreeState) (seen : Seen) (faults : Faults) → bytes ≡ [] → session' ≡ reading (from.Kept bytes) session
    → Led (reading_at text place.Null) (point_of shell session tree seen faults) (point_of shell session' tree seen faults)
led-null text bytes shell session session' tree seen faults none session_is =
    led-read bytes (reading_at text place.Null) shell session session' tree tree seen faults faults session_is (record { home = refl; held = refl; times = 0; lent = refl; back = refl }) refl
    (λ base state has. ap (λ (it : List ℕ). read_from it state) (sym none))

-- WRITING. What descriptors lead to is there
stands-led : (streams : Streams) (number : ℕ) (place : To) (old new : Files) → Stay old new → NoWriterOut new → CanTake new place → Stands streams old → Stands (leads_to number place streams) new
stands-led streams number place old new stay whole can stands = by_number (number == 2)
  where
    by_number : (is_errors : Bool) → Stands (if is_errors then record streams { errors_to = place } else record streams { to = place }) new
    by_number true = record { whole = whole; output = can-take streams.to old new stay stands.output; errors = can }
    by_number false = record { whole = whole; output = can; errors = can-take streams.errors_to old new stay stands.errors }

pub file-here : (files : Files) (path : Components) (bytes : List ℕ) → CanTake (map.insert files path (Bytes bytes)) (to.File path)
file-here files path bytes = subst IsFile (sym (set_at files path (Bytes bytes)).here) tt

stands-begun : (held : Option Files) (streams : Streams) (number : ℕ) (anew : Bool) (path : Components) → IfSome held (Stands streams) → IfSome (option_map (begun_at anew path) held) (Stands (leads_to number (to.File path) streams))
stands-begun None streams number anew path stands = tt
stands-begun (Some files) streams number anew path stands =
    let bytes : List ℕ = if anew then [] else bytes_at files path in
    stands-led streams number (to.File path) files (begun_at anew path files) (stay-filled files path bytes) (no_writer_out-filled files path bytes stands.whole) (file-here files path bytes) stands

pub stays-begun : (anew : Bool) (path : Components) (held : Option Files) → HeldStays held (option_map (begun_at anew path) held)
stays-begun anew path None = refl
stays-begun anew path (Some files) = record { new = begun_at anew path files; told = refl; stay = stay-filled files path (if anew then [] else bytes_at files path) }

pub whole-begun : (anew : Bool) (path : Components) (held : Option Files) → IfSome held NoWriterOut → IfSome (option_map (begun_at anew path) held) NoWriterOut
whole-begun anew path None whole = tt
whole-begun anew path (Some files) whole = no_writer_out-filled files path (if anew then [] else bytes_at files path) whole

turns-led : (number : ℕ) (place : To) (session session' : Session) → session' ≡ in_streams (leads_to number place) session → session.turns ≤ session'.turns
turns-led number place session session' is = subst (λ (it : Session). session.turns ≤ it.turns) (sym is) (omega arith)

-- a file is begun, and a descriptor leads to its end
pub led-begun : (does : State → Redirected) (anew : Bool) (number : ℕ) (path : Components) (shell : Shell) (session session' : Session) (tree tree' : TreeState) (seen : Seen) (faults faults' : Faults)
    → ((state : State) → does state ≡ led (in_session (in_streams (leads_to number (to.File path))) (in_world (file_begun anew path) state)))
    → session' ≡ in_streams (leads_to number (to.File path)) session → tree'.held ≡ option_map (begun_at anew path) tree.held → Balanced tree tree' → faults' ≡ faults
    → Led does (point_of shell session tree seen faults) (point_of shell session' tree' seen faults')
led-begun does anew number path shell session session' tree tree' seen faults faults' same is held lent same_faults =
    record {
      at = λ base state has.
          record {
            behind = in_session (in_streams (leads_to number (to.File path))) (in_world (file_begun anew path) state);
            has =
                record {
                  shell = has.shell;
                  session = is ∙ ap (in_streams (leads_to number (to.File path))) has.session;
                  home = lent.home ∙ has.home;
                  held = held ∙ ap (option_map (begun_at anew path)) has.held;
                  kept = kept-step (Some base.files) tree.held state.world.written path tree'.held has.kept (only-begun anew path tree.held tree'.held held);
                  seen = has.seen;
                };
            same = same state;
          };
      leaves_on =
          record {
            whole = λ whole. subst (λ (it : Option Files). IfSome it NoWriterOut) (sym held) (whole-begun anew path tree.held whole);
            files = subst (HeldStays tree.held) (sym held) (stays-begun anew path tree.held);
            sound = λ sound.
                subst (λ (it : Option Files). IfSome it (Stands session'.streams)) (sym held)
                (subst (λ (it : Session). IfSome (option_map (begun_at anew path) tree.held) (Stands it.streams)) (sym is) (stands-begun tree.held session.streams number anew path sound));
            turns = turns-led number (to.File path) session session' is;
            faults = same_faults;
            lent = lent;
          };
    }

stands-still : (held : Option Files) (streams : Streams) (number : ℕ) (place : To) → ((files : Files) → Stands streams files → CanTake files place) → IfSome held (Stands streams) → IfSome held (Stands (leads_to number place streams))
stands-still None streams number place can stands = tt
stands-still (Some files) streams number place can stands = stands-led streams number place files files (record { files = λ path is. is }) stands.whole (can files stands) stands

-- a descriptor leads to what is there
pub led-still : (does : State → Redirected) (number : ℕ) (place : To) (shell : Shell) (session session' : Session) (tree : TreeState) (seen : Seen) (faults : Faults)
    → ((base : Base) (state : State) → Has base (point_of shell session tree seen faults) state → does state ≡ led (in_session (in_streams (leads_to number place)) state))
    → ((files : Files) → Stands session.streams files → CanTake files place) → session' ≡ in_streams (leads_to number place) session
    → Led does (point_of shell session tree seen faults) (point_of shell session' tree seen faults)
led-still does number place shell session session' tree seen faults same can is =
    record {
      at = λ base state has.
          record {
            behind = in_session (in_streams (leads_to number place)) state;
            has = record { shell = has.shell; session = is ∙ ap (in_streams (leads_to number place)) has.session; home = has.home; held = has.held; kept = has.kept; seen = has.seen };
            same = same base state has;
          };
      leaves_on =
          record {
            whole = λ whole. whole;
            files = held-none tree.held;
            sound = λ sound. subst (λ (it : Session). IfSome tree.held (Stands it.streams)) (sym is) (stands-still tree.held session.streams number place can sound);
            turns = turns-led number place session session' is;
            faults = refl;
            lent = balanced-none tree;
          };
    }

-- STOPPING. What was written before stays so
abbrev pub WritesMore : (State → Redirected) → Type 0
WritesMore does = (state : State) (path : Components) → IsOneOf state.world.written path → IsOneOf (wrote_by does state) path

breaks-none : (does : State → Redirected) (at : Point) → WritesMore does → Breaks (wrote_by does) at at
breaks-none does at more = record { kept = λ base state has. only-within (more state) has.kept; taken = refl; turns = omega arith; later = no-fewer at.faults; lent = balanced-none at.tree }

breaks-by : (does : State → Redirected) (shell : Shell) (session : Session) (tree tree' : TreeState) (seen : Seen) (input output errors count count' : ℕ)
    → ((base : Base) (state : State) → Has base (point_of shell session tree seen (faults_of input output errors count)) state → ChangesOnly (wrote_by does state) (Some base.files) tree'.held) → Balanced tree tree' → count ≤ count'
    → Breaks (wrote_by does) (point_of shell session tree seen (faults_of input output errors count)) (point_of shell session tree' seen (faults_of input output errors count'))
breaks-by does shell session tree tree' seen input output errors count count' kept lent later =
    record { kept = kept; taken = refl; turns = omega arith; later = record { input = omega arith; output = omega arith; errors = omega arith; tree = later }; lent = lent }

-- the files are as they were
pub breaks-tree : (does : State → Redirected) (shell : Shell) (session : Session) (tree tree' : TreeState) (seen : Seen) (input output errors count count' : ℕ) → WritesMore does → tree'.held ≡ tree.held → Balanced tree tree' → count ≤ count'
    → Breaks (wrote_by does) (point_of shell session tree seen (faults_of input output errors count)) (point_of shell session tree' seen (faults_of input output errors count'))
breaks-tree does shell session tree tree' seen input output errors count count' more same lent later =
    breaks-by does shell session tree tree' seen input output errors count count' (λ base state has. only-more (only-within (more state) has.kept) (only-same same)) lent later

-- but for one, which it begins
pub breaks-begun : (number : ℕ) (anew : Bool) (path : Components) (shell : Shell) (session : Session) (tree tree' : TreeState) (seen : Seen) (input output errors count count' : ℕ)
    → ChangesOnly (path ∷ []) tree.held tree'.held → Balanced tree tree' → count ≤ count'
    → Breaks (wrote_by (λ state. leading number (to.File path) (in_world (file_begun anew path) state))) (point_of shell session tree seen (faults_of input output errors count))
    (point_of shell session tree' seen (faults_of input output errors count'))
breaks-begun number anew path shell session tree tree' seen input output errors count count' only lent later =
    breaks-by (λ state. leading number (to.File path) (in_world (file_begun anew path) state)) shell session tree tree' seen input output errors count count'
    (λ base state has. kept-step (Some base.files) tree.held state.world.written path tree'.held has.kept only) lent later

pub reading-more : (text : List ℕ) (place : Place) → WritesMore (reading_at text place)
reading-more text place state = wrote-more (reading_at text place state) state (grows-reading text place state)

pub reads-more : (text : List ℕ) → WritesMore (λ state. reading_at text (named_by state text) state)
reads-more text state = reading-more text (named_by state text) state

pub writes-more : (anew : Bool) (number : ℕ) (text : List ℕ) → WritesMore (λ state. writing_at anew number text (named_by state text) state)
writes-more anew number text state = wrote-more (writing_at anew number text (named_by state text) state) state (grows-writing anew number text (named_by state text) state)

more-stopped : (does : State → Redirected) (wanted : List ℕ) → ((state : State) → does state ≡ stopped wanted) → WritesMore does
more-stopped does wanted same state path one = subst (λ (it : Redirected). IsOneOf (left_off it state).world.written path) (sym (same state)) one

pub stops-line : (does : State → Redirected) (why : RedirectionError) (wanted : List ℕ) (old : Point) → TellsLine why wanted → ((state : State) → does state ≡ stopped wanted) → Does does old old (Err why)
stops-line does (stop.Line line) wanted old told same = record { at = λ base state has. same state ∙ ap stopped (sym told); same = refl }
stops-line does stop.Tree wanted old told same = absurd told
stops-line does stop.Memory wanted old told same = breaks-none does old (more-stopped does wanted same)

stops-by : (does : State → Redirected) (old new : Point) (why : WorldErr) → Breaks (wrote_by does) old new → (why ≡ error.Failed → Rose old.faults.tree new.faults.tree) → Does does old new (Err (of_tree why))
stops-by does old new error.Failed breaks failed = (breaks, failed refl)
stops-by does old new error.Memory breaks failed = breaks

pub stops-tree : (does : State → Redirected) (old new : Point) (why : WorldErr) (told : RedirectionError) → told ≡ of_tree why → Breaks (wrote_by does) old new → (why ≡ error.Failed → Rose old.faults.tree new.faults.tree)
    → Does does old new (Err told)
stops-tree does old new why told is breaks failed = subst (λ (it : RedirectionError). Does does old new (Err it)) (sym is) (stops-by does old new why breaks failed)

-- what stands at a place is this
pub at-place : (by : Place → State → Redirected) (here found : Place) (old new : Point) (result : Result (Option From) RedirectionError) → here ≡ found → Does (by found) old new result → Does (by here) old new result
at-place by here found old new result is done = subst (λ (it : Place). Does (by it) old new result) (sym is) done

pub line-at : (by : Place → State → Redirected) (here found : Place) (why : RedirectionError) (wanted : List ℕ) (old : Point) → here ≡ found → TellsLine why wanted → ((state : State) → by found state ≡ stopped wanted) → Does (by here) old old (Err why)
line-at by here found why wanted old is told same = at-place by here found old old (Err why) is (stops-line (by found) why wanted old told same)

-- what is the same redirection writes the same
breaks-so : (does other : State → Redirected) (old new : Point) → ((base : Base) (state : State) → Has base old state → other state ≡ does state) → Breaks (wrote_by does) old new → Breaks (wrote_by other) old new
breaks-so does other old new same breaks =
    record {
      kept = λ base state has. subst (λ (it : Redirected). ChangesOnly (left_off it state).world.written (Some base.files) new.tree.held) (sym (same base state has)) (breaks.kept base state has);
      taken = breaks.taken;
      turns = breaks.turns;
      later = breaks.later;
      lent = breaks.lent;
    }

how-so : (target : Target) (here : How) (does : State → Redirected) → target.how ≡ here → ((state : State) → does state ≡ redirected target here (named_by state target.text) state)
    → (state : State) → redirected target target.how (named_by state target.text) state ≡ does state
how-so target here does is same state = ap (λ (it : How). redirected target it (named_by state target.text) state) is ∙ sym (same state)

pub at-how : (target : Target) (here : How) (does : State → Redirected) (old new : Point) (result : Result (Option From) RedirectionError) → target.how ≡ here → ((state : State) → does state ≡ redirected target here (named_by state target.text) state)
    → Does does old new result → Does (λ state. redirected target target.how (named_by state target.text) state) old new result
at-how target here does old new (Ok value) is same done =
    record {
      at = λ base state has.
          let one = done.at base state has in
          record { behind = one.behind; has = one.has; same = ap (λ (it : How). redirected target it (named_by state target.text) state) is ∙ sym (same state) ∙ one.same };
      leaves_on = done.leaves_on;
    }
at-how target here does old new (Err (stop.Line line)) is same done =
    record { at = λ base state has. ap (λ (it : How). redirected target it (named_by state target.text) state) is ∙ sym (same state) ∙ done.at base state has; same = done.same }
at-how target here does old new (Err stop.Tree) is same done =
    (breaks-so does (λ state. redirected target target.how (named_by state target.text) state) old new (λ base state has. how-so target here does is same state) done.0, done.1)
at-how target here does old new (Err stop.Memory) is same done =
    breaks-so does (λ state. redirected target target.how (named_by state target.text) state) old new (λ base state has. how-so target here does is same state) done

-- a descriptor that is copied leads to what is there
pub can-copy : (text : List ℕ) (streams : Streams) (files : Files) → Stands streams files → CanTake files (led_to text streams)
can-copy text streams files stands = by_text (pointwise nat_eq text (codes "2"))
  where
    by_text : (is : Bool) → CanTake files (if is then streams.errors_to else streams.to)
    by_text true = stands.errors
    by_text false = stands.output

pub copied : (number : ℕ) (text : List ℕ) (to_here : To) (shell : Shell) (session session' : Session) (tree : TreeState) (seen : Seen) (faults : Faults) → to_here ≡ led_to text session.streams → session' ≡ in_streams (leads_to number to_here) session
    → Led (λ state. leading number (led_to text state.session.streams) state) (point_of shell session tree seen faults) (point_of shell session' tree seen faults)
copied number text to_here shell session session' tree seen faults is session_is =
    led-still (λ state. leading number (led_to text state.session.streams) state) number to_here shell session session' tree seen faults
    (λ base state has. ap (λ (it : To). leading number it state) (ap (λ (it : Session). led_to text it.streams) (sym has.session) ∙ sym is))
    (λ files stands. subst (CanTake files) (sym is) (can-copy text session.streams files stands)) session_is

pub wants-memory : (does : State → Redirected) (at : Point) → WritesMore does → Does does at at (Err stop.Memory)
wants-memory does at more = breaks-none does at more

-- LOOKING UP. What a text names was looked up
named-so : (text : List ℕ) (found : Place) (old : Point) (base : Base) (state : State) → IfSome old.tree.held (λ files. found ≡ resolve files old.tree.home text) → Has base old state → found ≡ named_by state text
named-so text found old base state is has =
    let here : found ≡ resolve state.world.files old.tree.home text = subst (λ (it : Option Files). IfSome it (λ files. found ≡ resolve files old.tree.home text)) has.held is in
    here ∙ ap (λ (it : Components). resolve state.world.files it text) has.home

does-named : (by : Place → State → Redirected) (text : List ℕ) (found : Place) (old new : Point) (result : Result (Option From) RedirectionError) → IfSome old.tree.held (λ files. found ≡ resolve files old.tree.home text) → Does (by found) old new result
    → Does (λ state. by (named_by state text) state) old new result
does-named by text found old new (Ok value) is done =
    record {
      at = λ base state has.
          let one = done.at base state has in
          record { behind = one.behind; has = one.has; same = ap (λ (it : Place). by it state) (sym (named-so text found old base state is has)) ∙ one.same };
      leaves_on = done.leaves_on;
    }
does-named by text found old new (Err (stop.Line line)) is done =
    record { at = λ base state has. ap (λ (it : Place). by it state) (sym (named-so text found old base state is has)) ∙ done.at base state has; same = done.same }
does-named by text found old new (Err stop.Tree) is done =
    (breaks-so (by found) (λ state. by (named_by state text) state) old new (λ base state has. ap (λ (it : Place). by it state) (sym (named-so text found old base state is has))) done.0, done.1)
does-named by text found old new (Err stop.Memory) is done =
    breaks-so (by found) (λ state. by (named_by state text) state) old new (λ base state has. ap (λ (it : Place). by it state) (sym (named-so text found old base state is has))) done

pub does-looked : (by : Place → State → Redirected) (text : List ℕ) (found : Place) (shell : Shell) (session : Session) (tree mid : TreeState) (seen : Seen) (input output errors count count_mid : ℕ) (new : Point) (result : Result (Option From) RedirectionError)
    → IfSome tree.held (λ files. found ≡ resolve files tree.home text) → mid ≡ tree → count_mid ≡ count → Does (by found) (point_of shell session mid seen (faults_of input output errors count_mid)) new result
    → Does (λ state. by (named_by state text) state) (point_of shell session tree seen (faults_of input output errors count)) new result
does-looked by text found shell session tree mid seen input output errors count count_mid new result is same counts done =
    does-named by text found (point_of shell session tree seen (faults_of input output errors count)) new result is
    (subst (λ (it : TreeState). Does (by found) (point_of shell session it seen (faults_of input output errors count)) new result) same
    (subst (λ (it : ℕ). Does (by found) (point_of shell session mid seen (faults_of input output errors it)) new result) counts done))
