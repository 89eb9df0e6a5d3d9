-- What is written to each place is what it means.
use Rattle.std.proofs.Common.{◌≡◌, ℕ, zero, suc, ◌<◌, ◌≤◌, List, [], ◌∷◌, ◌++◌, length, get_or, slice_set, Bool, true, false, cond, inl, inr, Option, Some, None, IfSome, Result, Ok, Err, IsErrOf, OnOk, OnErr, refl, sym, ap, ◌∙◌, subst, arith}
use Rattle.std.proofs.lemmas.Bool.{true≢false}
use Rattle.std.specs.Global.{Vec}
use Rattle.std.specs.FinMap as map
use Rattle.std.specs.Option.{option_map}
use Rattle.std.specs.Ordering.{eq_by_cmp}
use Rattle.ps_lines.specs.Texts.{texts_of}
use Rattle.ps_world.specs.Counts.{Counts, Rose}
use Rattle.ps_world.specs.Paths.{Components, path_cmp, path_cmp_total}
use Rattle.ps_world.specs.Files.{Files, Bytes, IsFile, NoWriterOut, Node, bytes_at}
use Rattle.ps_world.specs.Told.{then_bytes, GrewByPrefix}
use Rattle.ps_world.specs.TreeState.{TreeState, Balanced, IsFilled, lend, take_out, take_back, fill}
use Rattle.ps_world.specs.declared.error.WorldErr.{WorldErr}
use Rattle.ps_world.specs.declared.error.WorldErr.TheVariants as error
use Rattle.ps_world.proofs.ToldLemmas.{then_bytes-append, grew_by_more, grew_by_whole}
use Rattle.ps_world.proofs.TreeStateLemmas.{balanced-none, balanced-written}
use Rattle.ps_world.proofs.WritingLemmas.{no_writer_out-filled, fill-take_out}
use Rattle.fl_commands.specs.Writers.{ChangesOnly}
use Rattle.sh_expand.specs.Outcomes.{Expansions}
use Rattle.sh_eval.specs.declared.flows.Flow.TheVariants as flow
use Rattle.sh_eval.specs.declared.outcomes.How.{How}
use Rattle.sh_eval.specs.declared.outcomes.How.TheVariants as how
use Rattle.sh_eval.specs.declared.session.Session.{Session}
use Rattle.sh_eval.specs.declared.shell.Shell.{Shell}
use Rattle.sh_eval.specs.declared.streams.To.{To}
use Rattle.sh_eval.specs.declared.streams.To.TheVariants as to
use Rattle.sh_eval.specs.States.{State, Ends, on, write, puts, tells, grown_at}
use Rattle.sh_eval.specs.Contract.{Drawn, Seen, Faults, Point, point_of, seen_of, faults_of, Base, Has, IsBehind, Comes, HasCause, IsGone, Stay, HeldStays, NoFewer, Meaning, Evaluates, goes_on}
use Rattle.sh_eval.specs.Writing.{written, kept, added_to}
use Rattle.sh_eval.proofs.Growing.{grows-write}
use Rattle.sh_eval.proofs.KeptLemmas.{kept-step}
use Rattle.sh_eval.proofs.Steps.{nothing, wanted, no-fewer, held-none}

-- what is meant may be said otherwise, where it is the same at every state of the point
pub meant : (first second : Meaning) (old new : Point) (came : How) → ((expansions : Expansions) (base : Base) (state : State) → Has base old state → first expansions state ≡ second expansions state)
    → Evaluates first old came new → Evaluates second old came new
meant first second old new came same one =
    record {
      comes = λ expansions are base state has. subst (λ (it : Ends). Comes base came new it) (same expansions base state has) (one.comes expansions are base state has);
      keeps = one.keeps;
      turns = one.turns;
      later = one.later;
      cause = one.cause;
      lent = one.lent;
    }

-- output and diagnostics go where the descriptors lead
pub put-there : (bytes : List ℕ) (place : To) (old new : Point) (came : How) → place ≡ old.session.streams.to → Evaluates (λ expansions state. on (write place bytes state)) old came new
    → Evaluates (λ expansions state. on (puts bytes state)) old came new
put-there bytes place old new came leads one =
    meant (λ expansions state. on (write place bytes state)) (λ expansions state. on (puts bytes state)) old new came
    (λ expansions base state has. ap (λ (it : To). on (write it bytes state)) (leads ∙ ap (λ (it : Session). it.streams.to) has.session)) one

pub told-there : (bytes : List ℕ) (place : To) (old new : Point) (came : How) → place ≡ old.session.streams.errors_to → Evaluates (λ expansions state. on (write place bytes state)) old came new
    → Evaluates (λ expansions state. on (tells bytes state)) old came new
told-there bytes place old new came leads one =
    meant (λ expansions state. on (write place bytes state)) (λ expansions state. on (tells bytes state)) old new came
    (λ expansions base state has. ap (λ (it : To). on (write it bytes state)) (leads ∙ ap (λ (it : Session). it.streams.errors_to) has.session)) one

-- PIPES
pub grown_at-set : (texts : List (Vec ℕ)) (place : ℕ) (bytes : List ℕ) (none item new : Vec ℕ) → place < length texts → item ≡ get_or texts place none → new.items ≡ item.items ++ bytes
    → texts_of (slice_set texts place new) ≡ grown_at place bytes (texts_of texts)
grown_at-set [] place bytes none item new within here is = absurd (omega (arith, within))
grown_at-set (text ∷ texts) zero bytes none item new within here is = ap (λ (it : List ℕ). it ∷ texts_of texts) (is ∙ ap (λ (it : Vec ℕ). it.items ++ bytes) here)
grown_at-set (text ∷ texts) (suc place) bytes none item new within here is =
    ap (λ (rest : List (List ℕ)). text.items ∷ rest) (grown_at-set texts place bytes none item new (omega (arith, within)) here is)

-- a text that is set to its own bytes
pub texts-same : (texts : List (Vec ℕ)) (place : ℕ) (none item new : Vec ℕ) → place < length texts → item ≡ get_or texts place none → new.items ≡ item.items → texts_of (slice_set texts place new) ≡ texts_of texts
texts-same [] place none item new within here is = absurd (omega (arith, within))
texts-same (text ∷ texts) zero none item new within here is = ap (λ (it : List ℕ). it ∷ texts_of texts) (is ∙ ap (λ (it : Vec ℕ). it.items) here)
texts-same (text ∷ texts) (suc place) none item new within here is =
    ap (λ (rest : List (List ℕ)). text.items ∷ rest) (texts-same texts place none item new (omega (arith, within)) here is)

pub grown_at-past : (texts : List (Vec ℕ)) (place : ℕ) (bytes : List ℕ) → length texts ≤ place → texts_of texts ≡ grown_at place bytes (texts_of texts)
grown_at-past [] place bytes past = refl
grown_at-past (text ∷ texts) zero bytes past = absurd (omega (arith, past))
grown_at-past (text ∷ texts) (suc place) bytes past = ap (λ (rest : List (List ℕ)). text.items ∷ rest) (grown_at-past texts place bytes (omega (arith, past)))

-- THE STANDARD OUTPUT AND ERROR
module _ (shell : Shell) (session : Session) (tree : TreeState) (drawn : Drawn) (input of_tree : ℕ) (bytes : List ℕ) where
  grew : (base before now : Option (List ℕ)) (text : List ℕ) → before ≡ then_bytes base text → now ≡ then_bytes before bytes → now ≡ then_bytes base (text ++ bytes)
  grew base before now text was is = is ∙ ap (λ (it : Option (List ℕ)). then_bytes it bytes) was ∙ then_bytes-append base text bytes

  grew-partly : (base before now : Option (List ℕ)) (text : List ℕ) → before ≡ then_bytes base text → GrewByPrefix before now bytes → GrewByPrefix base now (text ++ bytes)
  grew-partly base before now text was front = grew_by_more base before now text bytes was front

  module _ (taken taken' errors : Option (List ℕ)) (of_output of_output' of_errors : ℕ) where
    abbrev pub output-old : Point
    output-old = point_of shell session tree (seen_of drawn taken errors) (faults_of input of_output of_errors of_tree)

    abbrev pub output-new : Point
    output-new = point_of shell session tree (seen_of drawn taken' errors) (faults_of input of_output' of_errors of_tree)

    output-behind : GrewByPrefix taken taken' bytes → (base : Base) (state : State) → Has base output-old state → IsBehind base tree.held output-new.seen (write to.Output bytes state).world
    output-behind front base state has =
        record {
          kept = has.kept;
          output = grew-partly base.taken taken taken' state.world.output (ap (λ (seen : Seen). seen.taken) has.seen) front;
          errors = grew_by_whole base.errors errors state.world.errors (ap (λ (seen : Seen). seen.errors) has.seen);
        }

    pub written-output : (outcome : Result Unit WorldErr) → OnOk outcome (taken' ≡ then_bytes taken bytes) → OnErr outcome (GrewByPrefix taken taken' bytes) → Counts of_output of_output' outcome
        → Evaluates (λ expansions state. on (write to.Output bytes state)) output-old (written outcome) output-new
    written-output (Ok value) whole front counts =
        record {
          comes = λ expansions are base state has.
              record {
                flow = refl;
                has =
                    record {
                      shell = has.shell;
                      session = has.session;
                      home = has.home;
                      held = has.held;
                      kept = has.kept;
                      seen = λ i. seen_of ((ap (λ (seen : Seen). seen.drawn) has.seen) i) ((grew base.taken taken taken' state.world.output (ap (λ (seen : Seen). seen.taken) has.seen) whole) i) ((ap (λ (seen : Seen). seen.errors) has.seen) i);
                    };
              };
          keeps = λ gone. record { whole = λ whole. whole; files = held-none tree.held; output = refl; errors = refl };
          turns = omega arith;
          later = no-fewer-output counts.later;
          cause = ap (λ (count : ℕ). faults_of input count of_errors of_tree) counts.ok;
          lent = balanced-none tree;
        }
      where
        no-fewer-output : of_output ≤ of_output' → NoFewer output-old.faults output-new.faults
        no-fewer-output later = record { input = omega arith; output = later; errors = omega arith; tree = omega arith }
    written-output (Err error.Failed) whole front counts =
        record {
          comes = λ expansions are base state has. output-behind front base state has;
          keeps = λ gone. absurd gone;
          turns = omega arith;
          later = record { input = omega arith; output = counts.later; errors = omega arith; tree = omega arith };
          cause = inl (counts.failed refl);
          lent = balanced-none tree;
        }
    written-output (Err error.Memory) whole front counts =
        record {
          comes = λ expansions are base state has. output-behind front base state has;
          keeps = λ gone. absurd gone;
          turns = omega arith;
          later = record { input = omega arith; output = counts.later; errors = omega arith; tree = omega arith };
          cause = tt;
          lent = balanced-none tree;
        }

  module _ (taken errors errors' : Option (List ℕ)) (of_output of_errors of_errors' : ℕ) where
    abbrev pub errors-old : Point
    errors-old = point_of shell session tree (seen_of drawn taken errors) (faults_of input of_output of_errors of_tree)

    abbrev pub errors-new : Point
    errors-new = point_of shell session tree (seen_of drawn taken errors') (faults_of input of_output of_errors' of_tree)

    errors-behind : GrewByPrefix errors errors' bytes → (base : Base) (state : State) → Has base errors-old state → IsBehind base tree.held errors-new.seen (write to.Errors bytes state).world
    errors-behind front base state has =
        record {
          kept = has.kept;
          output = grew_by_whole base.taken taken state.world.output (ap (λ (seen : Seen). seen.taken) has.seen);
          errors = grew-partly base.errors errors errors' state.world.errors (ap (λ (seen : Seen). seen.errors) has.seen) front;
        }

    pub written-errors : (outcome : Result Unit WorldErr) → OnOk outcome (errors' ≡ then_bytes errors bytes) → OnErr outcome (GrewByPrefix errors errors' bytes) → Counts of_errors of_errors' outcome
        → Evaluates (λ expansions state. on (write to.Errors bytes state)) errors-old (written outcome) errors-new
    written-errors (Ok value) whole front counts =
        record {
          comes = λ expansions are base state has.
              record {
                flow = refl;
                has =
                    record {
                      shell = has.shell;
                      session = has.session;
                      home = has.home;
                      held = has.held;
                      kept = has.kept;
                      seen = λ i. seen_of ((ap (λ (seen : Seen). seen.drawn) has.seen) i) ((ap (λ (seen : Seen). seen.taken) has.seen) i) ((grew base.errors errors errors' state.world.errors (ap (λ (seen : Seen). seen.errors) has.seen) whole) i);
                    };
              };
          keeps = λ gone. record { whole = λ whole. whole; files = held-none tree.held; output = refl; errors = refl };
          turns = omega arith;
          later = record { input = omega arith; output = omega arith; errors = counts.later; tree = omega arith };
          cause = ap (λ (count : ℕ). faults_of input of_output count of_tree) counts.ok;
          lent = balanced-none tree;
        }
    written-errors (Err error.Failed) whole front counts =
        record {
          comes = λ expansions are base state has. errors-behind front base state has;
          keeps = λ gone. absurd gone;
          turns = omega arith;
          later = record { input = omega arith; output = omega arith; errors = counts.later; tree = omega arith };
          cause = inr (counts.failed refl);
          lent = balanced-none tree;
        }
    written-errors (Err error.Memory) whole front counts =
        record {
          comes = λ expansions are base state has. errors-behind front base state has;
          keeps = λ gone. absurd gone;
          turns = omega arith;
          later = record { input = omega arith; output = omega arith; errors = counts.later; tree = omega arith };
          cause = tt;
          lent = balanced-none tree;
        }

-- A PIPE
module _ (shell : Shell) (session : Session) (tree : TreeState) (seen : Seen) (faults : Faults) (number : ℕ) (bytes : List ℕ) (pipes : List (List ℕ)) where
  pub written-pipe : pipes ≡ grown_at number bytes session.pipes
      → Evaluates (λ expansions state. on (write (to.Pipe number) bytes state)) (point_of shell session tree seen faults) (how.Gone flow.On) (point_of shell (record session { pipes = pipes }) tree seen faults)
  written-pipe grown =
      record {
        comes = λ expansions are base state has.
            record {
              flow = refl;
              has =
                  record {
                    shell = has.shell;
                    session =
                        ap (λ (it : List (List ℕ)). record session { pipes = it }) grown
                        ∙ ap (λ (it : Session). record it { pipes = grown_at number bytes it.pipes }) has.session;
                    home = has.home;
                    held = has.held;
                    kept = has.kept;
                    seen = has.seen;
                  };
            };
        keeps = λ gone. record { whole = λ held. held; files = held-none tree.held; output = refl; errors = refl };
        turns = omega arith;
        later = no-fewer faults;
        cause = refl;
        lent = balanced-none tree;
      }

-- memory was wanted in the middle
pub wanted-pipe : (place : To) (bytes : List ℕ) (shell : Shell) (session : Session) (tree : TreeState) (seen : Seen) (faults : Faults) (pipes : List (List ℕ))
    → Evaluates (λ expansions state. on (write place bytes state)) (point_of shell session tree seen faults) how.Memory (point_of shell (record session { pipes = pipes }) tree seen faults)
wanted-pipe place bytes shell session tree seen faults pipes =
    let one = wanted (λ expansions state. on (write place bytes state)) (point_of shell session tree seen faults) (λ expansions state. grows-write place bytes state) in
    record { comes = λ expansions are base state has. one.comes expansions are base state has; keeps = λ gone. absurd gone; turns = omega arith; later = no-fewer faults; cause = tt; lent = balanced-none tree }

-- what was written anywhere else leaves the pipes as they were
pub same-pipes : (means : Meaning) (old : Point) (came : How) (shell : Shell) (session : Session) (tree : TreeState) (seen : Seen) (faults : Faults) (pipes : List (List ℕ)) → session.pipes ≡ pipes
    → Evaluates means old came (point_of shell session tree seen faults) → Evaluates means old came (point_of shell (record session { pipes = pipes }) tree seen faults)
same-pipes means old came shell session tree seen faults pipes same one =
    subst (λ (it : List (List ℕ)). Evaluates means old came (point_of shell (record session { pipes = it }) tree seen faults)) same one

-- nothing is written to the null device
pub written-null : (bytes : List ℕ) (at : Point) → Evaluates (λ expansions state. on (write to.Null bytes state)) at (how.Gone flow.On) at
written-null bytes at = nothing at

-- A FILE
is-file-here : (here : Bool) (bytes : List ℕ) (before : Option Node) → IsFile before → IsFile (cond here (Some (Bytes bytes)) before)
is-file-here true bytes before is = tt
is-file-here false bytes before is = is

-- files stay files where one of them is written
pub stay-filled : (files : Files) (path : Components) (bytes : List ℕ) → Stay files (map.insert files path (Bytes bytes))
stay-filled files path bytes =
    record {
      files = λ other is.
          subst IsFile (sym (map.get-insert path_cmp_total files path (Bytes bytes) other)) (is-file-here (eq_by_cmp path_cmp other path) bytes (map.get files other) is);
    }

-- what the files are when the writer of one has come back
pub held-filled : (old mid new : TreeState) (path : Components) (bytes : List ℕ) (first last : Option (List ℕ)) → IfSome old.held (λ files. first ≡ Some (bytes_at files path)) → mid ≡ lend (take_out path old)
    → last ≡ then_bytes first bytes → IsFilled path last mid new → new.held ≡ option_map (added_to path bytes) old.held
held-filled old mid new path bytes first last begins out wrote filled =
    ap (λ (state : TreeState). state.held)
    (filled.state ∙ ap (λ (state : TreeState). take_back (fill path filled.bytes state)) out ∙ ap (λ (state : TreeState). take_back (lend state)) (fill-take_out old path filled.bytes))
    ∙ by_held old.held begins
  where
    by_held : (held : Option Files) → IfSome held (λ files. first ≡ Some (bytes_at files path))
        → option_map (λ (files : Files). map.insert files path (Bytes filled.bytes)) held ≡ option_map (added_to path bytes) held
    by_held None begins = refl
    by_held (Some files) begins =
        let all : last ≡ Some (bytes_at files path ++ bytes) = wrote ∙ ap (λ (told : Option (List ℕ)). then_bytes told bytes) begins in
        let same : filled.bytes ≡ bytes_at files path ++ bytes = subst (λ (told : Option (List ℕ)). IfSome told (λ written. filled.bytes ≡ written)) all filled.told in
        ap (λ (it : List ℕ). Some (map.insert files path (Bytes it))) same

pub held-filled-where : (old mid new : TreeState) (path : Components) (bytes : List ℕ) (first last : Option (List ℕ)) (outcome : Result Unit WorldErr) → IfSome old.held (λ files. first ≡ Some (bytes_at files path))
    → mid ≡ lend (take_out path old) → last ≡ then_bytes first bytes → OnOk outcome (IsFilled path last mid new) → OnOk outcome (new.held ≡ option_map (added_to path bytes) old.held)
held-filled-where old mid new path bytes first last (Ok value) begins out wrote filled = held-filled old mid new path bytes first last begins out wrote filled
held-filled-where old mid new path bytes first last (Err fault) begins out wrote filled = tt

-- a writer comes back however its return ends
pub given-back : (old mid new : TreeState) (path : Components) (taken : Option (List ℕ)) (outcome : Result Unit WorldErr) → mid ≡ lend (take_out path old) → OnOk outcome (IsFilled path taken mid new)
    → (IsErrOf outcome error.Failed → IsFilled path None mid new) → (IsErrOf outcome error.Memory → new ≡ take_back mid) → Balanced old new
given-back old mid new path taken (Ok value) out filled failed memory =
    balanced-written old mid new path taken (subst (λ (it : TreeState). Balanced (lend (take_out path old)) it) (sym out) (balanced-none (lend (take_out path old)))) filled
given-back old mid new path taken (Err error.Failed) out filled failed memory =
    balanced-written old mid new path None (subst (λ (it : TreeState). Balanced (lend (take_out path old)) it) (sym out) (balanced-none (lend (take_out path old)))) (failed refl)
given-back old mid new path taken (Err error.Memory) out filled failed memory =
    subst (Balanced old) (sym (memory refl ∙ ap take_back out)) (record { home = refl; times = 1; lent = refl; back = refl })

whole-added : (path : Components) (bytes : List ℕ) (held : Option Files) → IfSome held NoWriterOut → IfSome (option_map (added_to path bytes) held) NoWriterOut
whole-added path bytes None whole = tt
whole-added path bytes (Some files) whole = no_writer_out-filled files path (bytes_at files path ++ bytes) whole

stays-added : (path : Components) (bytes : List ℕ) (held : Option Files) → HeldStays held (option_map (added_to path bytes) held)
stays-added path bytes None = refl
stays-added path bytes (Some files) = record { new = added_to path bytes files; told = refl; stay = stay-filled files path (bytes_at files path ++ bytes) }

module _ (shell : Shell) (session : Session) (old new : TreeState) (seen : Seen) (input of_output of_errors of_tree of_tree' : ℕ) (path : Components) (bytes : List ℕ) where
  abbrev pub file-old : Point
  file-old = point_of shell session old seen (faults_of input of_output of_errors of_tree)

  abbrev pub file-new : Point
  file-new = point_of shell session new seen (faults_of input of_output of_errors of_tree')

  -- a file that couldn't be written
  file-stopped : (came : How) → (IsGone came → ⊥) → ChangesOnly (path ∷ []) old.held new.held → HasCause came file-old.faults file-new.faults → Balanced old new → of_tree ≤ of_tree' → Evaluates (λ expansions state. on (write (to.File path) bytes state)) file-old how.Memory file-old
      → ((expansions : Expansions) (base : Base) (state : State) → IsBehind base new.held seen (write (to.File path) bytes state).world → Comes base came file-new (on (write (to.File path) bytes state)))
      → Evaluates (λ expansions state. on (write (to.File path) bytes state)) file-old came file-new
  file-stopped came off only cause lent later none here =
      record {
        comes = λ expansions are base state has.
            let behind : IsBehind base old.held seen (write (to.File path) bytes state).world = none.comes expansions are base state has in
            here expansions base state
            (record { kept = kept-step (Some base.files) old.held state.world.written path new.held has.kept only; output = behind.output; errors = behind.errors });
        keeps = λ gone. absurd (off gone);
        turns = omega arith;
        later = record { input = omega arith; output = omega arith; errors = omega arith; tree = later };
        cause = cause;
        lent = lent;
      }

  pub written-file : (outcome : Result Unit WorldErr) → ChangesOnly (path ∷ []) old.held new.held → OnOk outcome (new.held ≡ option_map (added_to path bytes) old.held) → Balanced old new → of_tree ≤ of_tree' → OnOk outcome (of_tree' ≡ of_tree)
      → (IsErrOf outcome error.Failed → Rose of_tree of_tree') → Evaluates (λ expansions state. on (write (to.File path) bytes state)) file-old (kept outcome) file-new
  written-file (Ok value) only held lent later ok failed =
      record {
        comes = λ expansions are base state has.
            record {
              flow = refl;
              has =
                  record {
                    shell = has.shell;
                    session = has.session;
                    home = lent.home ∙ has.home;
                    held = held ∙ ap (option_map (added_to path bytes)) has.held;
                    kept = kept-step (Some base.files) old.held state.world.written path new.held has.kept only;
                    seen = has.seen;
                  };
            };
        keeps = λ gone.
            record {
              whole = λ whole. subst (λ (it : Option Files). IfSome it NoWriterOut) (sym held) (whole-added path bytes old.held whole);
              files = subst (HeldStays old.held) (sym held) (stays-added path bytes old.held);
              output = refl;
              errors = refl;
            };
        turns = omega arith;
        later = record { input = omega arith; output = omega arith; errors = omega arith; tree = later };
        cause = ap (λ (count : ℕ). faults_of input of_output of_errors count) ok;
        lent = lent;
      }
  written-file (Err error.Failed) only held lent later ok failed =
      file-stopped how.TreeFault (λ gone. gone) only (failed refl) lent later (wanted (λ expansions state. on (write (to.File path) bytes state)) file-old (λ expansions state. grows-write (to.File path) bytes state))
      (λ expansions base state behind. behind)
  written-file (Err error.Memory) only held lent later ok failed =
      file-stopped how.Memory (λ gone. gone) only tt lent later (wanted (λ expansions state. on (write (to.File path) bytes state)) file-old (λ expansions state. grows-write (to.File path) bytes state))
      (λ expansions base state behind. behind)

-- how a command goes on behind it
pub kept-file : (shell : Shell) (session : Session) (old new : TreeState) (seen : Seen) (input of_output of_errors of_tree of_tree' : ℕ) (path : Components) (bytes : List ℕ) (outcome : Result Unit WorldErr) (came : How) → came ≡ kept outcome
    → ChangesOnly (path ∷ []) old.held new.held → OnOk outcome (new.held ≡ option_map (added_to path bytes) old.held) → Balanced old new → of_tree ≤ of_tree' → OnOk outcome (of_tree' ≡ of_tree) → (IsErrOf outcome error.Failed → Rose of_tree of_tree')
    → Evaluates (λ expansions state. on (write (to.File path) bytes state)) (point_of shell session old seen (faults_of input of_output of_errors of_tree)) came (point_of shell session new seen (faults_of input of_output of_errors of_tree'))
kept-file shell session old new seen input of_output of_errors of_tree of_tree' path bytes outcome came is only held lent later ok failed =
    rw is (written-file shell session old new seen input of_output of_errors of_tree of_tree' path bytes outcome only held lent later ok failed)

-- files are files still where it goes on
pub kept-stays : (old new : Option Files) (path : Components) (bytes : List ℕ) (outcome : Result Unit WorldErr) (came : How) → came ≡ kept outcome → goes_on came ≡ true → OnOk outcome (new ≡ option_map (added_to path bytes) old) → HeldStays old new
kept-stays old new path bytes (Ok value) came is goes held = subst (HeldStays old) (sym held) (stays-added path bytes old)
kept-stays old new path bytes (Err error.Failed) came is goes held = absurd (true≢false (sym goes ∙ ap goes_on is))
kept-stays old new path bytes (Err error.Memory) came is goes held = absurd (true≢false (sym goes ∙ ap goes_on is))
