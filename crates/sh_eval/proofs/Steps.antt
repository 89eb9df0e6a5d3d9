-- Evaluations one behind the other.
use Rattle.std.proofs.Common.{◌≡◌, ℕ, List, ◌++◌, Bool, true, false, Option, Some, None, IfSome, refl, sym, ap, ◌∙◌, subst, append_assoc, length, drop, arith}
use Rattle.std.proofs.lemmas.Bool.{true≢false}
use Rattle.ps_lines.specs.Texts.{BeginsWith}
use Rattle.ps_lines.proofs.TextsLemmas.{begins-whole}
use Rattle.ps_world.specs.Files.{Files, NoWriterOut}
use Rattle.ps_world.specs.Told.{then_bytes, GrewByPrefix}
use Rattle.ps_world.specs.TreeState.{TreeState}
use Rattle.ps_world.proofs.TreeStateLemmas.{balanced-none, balanced-more}
use Rattle.fl_commands.proofs.WriterLemmas.{only-within}
use Rattle.sh_expand.specs.Outcomes.{AreExpansions, Expansions}
use Rattle.sh_eval.specs.declared.flows.Flow.{Flow}
use Rattle.sh_eval.specs.declared.flows.Flow.TheVariants as flow
use Rattle.sh_eval.specs.declared.outcomes.How.{How}
use Rattle.sh_eval.specs.declared.outcomes.How.TheVariants as how
use Rattle.sh_eval.specs.declared.streams.Streams.{Streams}
use Rattle.sh_eval.specs.declared.streams.To.{To}
use Rattle.sh_eval.specs.declared.streams.To.TheVariants as to
use Rattle.sh_eval.specs.declared.session.Session.{Session}
use Rattle.sh_eval.specs.declared.shell.Shell.{Shell}
use Rattle.sh_eval.specs.States.{State, Ends, Means, ends, on, after, followed_by, in_shell}
use Rattle.sh_eval.specs.Growth.{Grows, Adds}
use Rattle.sh_eval.specs.Contract.{Seen, Faults, Point, Base, told, Has, HasEnd, IsBehind, Comes, NoFewer, HasCause, IsGone, CanTake, Stands, IsSound, Stay, StayIn, HeldStays, Keeps, gone_by, goes_on, goes_on_by, going, changed_by, point_of, Meaning, Evaluates}
use Rattle.sh_eval.proofs.Growing.{adds-followed}

-- fronts of texts that grow
front-more : (base seen : Option (List ℕ)) (text whole : List ℕ) → BeginsWith whole text → GrewByPrefix base seen text → GrewByPrefix base seen whole
front-more base seen text whole begins (rest, written) = (
  rest ++ drop (length text) whole,
  record {
    part = written.part;
    whole = begins-whole whole text begins ∙ ap (λ front. front ++ drop (length text) whole) written.whole ∙ append_assoc written.part rest (drop (length text) whole);
    grew = written.grew;
  },
)

front-told : (base seen : Option (List ℕ)) (text whole : List ℕ) → seen ≡ then_bytes base text → BeginsWith whole text → GrewByPrefix base seen whole
front-told base seen text whole told begins =
    (drop (length text) whole, record { part = text; whole = begins-whole whole text begins; grew = told })

behind-more : (base : Base) (held : Option Files) (seen : Seen) (old new : State) → Grows old new → IsBehind base held seen old.world → IsBehind base held seen new.world
behind-more base held seen old new grows behind =
    record {
      kept = only-within grows.written behind.kept;
      output = front-more base.taken seen.taken old.world.output new.world.output grows.output behind.output;
      errors = front-more base.errors seen.errors old.world.errors new.world.errors grows.errors behind.errors;
    }

-- where nothing more was written, what is there is a front of all that is meant
pub behind-told : (base : Base) (at : Point) (old new : State) → Has base at old → Grows old new → IsBehind base at.tree.held at.seen new.world
behind-told base at old new has grows =
    record {
      kept = only-within grows.written has.kept;
      output = front-told base.taken at.seen.taken old.world.output new.world.output (ap (λ (seen : Seen). seen.taken) has.seen) grows.output;
      errors = front-told base.errors at.seen.errors old.world.errors new.world.errors (ap (λ (seen : Seen). seen.errors) has.seen) grows.errors;
    }

-- counts
pub no-fewer : (faults : Faults) → NoFewer faults faults
no-fewer faults = record { input = omega arith; output = omega arith; errors = omega arith; tree = omega arith }

no-fewer-trans : (old mid new : Faults) → NoFewer old mid → NoFewer mid new → NoFewer old new
no-fewer-trans old mid new first second =
    let a = first.input in let b = second.input in let c = first.output in let d = second.output in
    let e = first.errors in let f = second.errors in let g = first.tree in let h = second.tree in
    record { input = omega arith; output = omega arith; errors = omega arith; tree = omega arith }

-- what the next command needs
pub can-take : (place : To) (old new : Files) → Stay old new → CanTake old place → CanTake new place
can-take to.Output old new stay can = can
can-take to.Errors old new stay can = can
can-take (to.Pipe number) old new stay can = can
can-take (to.File path) old new stay can = stay.files path can
can-take to.Null old new stay can = can

pub held-none : (held : Option Files) → HeldStays held held
held-none None = refl
held-none (Some files) = record { new = files; told = refl; stay = record { files = λ path is. is } }

pub held-more : (old mid new : Option Files) → HeldStays old mid → HeldStays mid new → HeldStays old new
held-more None mid new first second = subst (λ (held : Option Files). HeldStays held new) first second
held-more (Some files) mid new first second =
    let next : StayIn new first.new = subst (λ (held : Option Files). HeldStays held new) first.told second in
    record { new = next.new; told = next.told; stay = record { files = λ path is. next.stay.files path (first.stay.files path is) } }

pub keeps-none : (at : Point) → Keeps at at
keeps-none at = record { whole = λ held. held; files = held-none at.tree.held; output = refl; errors = refl }

pub keeps-more : (old mid new : Point) → Keeps old mid → Keeps mid new → Keeps old new
keeps-more old mid new first second =
    record {
      whole = λ held. second.whole (first.whole held);
      files = held-more old.tree.held mid.tree.held new.tree.held first.files second.files;
      output = second.output ∙ first.output;
      errors = second.errors ∙ first.errors;
    }

stands-wholly : (streams : Streams) (held : Option Files) → IfSome held (Stands streams) → IfSome held NoWriterOut
stands-wholly streams None stands = tt
stands-wholly streams (Some files) stands = stands.whole

sound-in : (streams streams' : Streams) (old new : Option Files) → (IfSome old NoWriterOut → IfSome new NoWriterOut) → HeldStays old new → streams'.to ≡ streams.to → streams'.errors_to ≡ streams.errors_to
    → IfSome old (Stands streams) → IfSome new (Stands streams')
sound-in streams streams' None new whole stays output errors stands = subst (λ (held : Option Files). IfSome held (Stands streams')) (sym stays) tt
sound-in streams streams' (Some files) new whole stays output errors stands =
    let no_writer : IfSome (Some stays.new) NoWriterOut = subst (λ (held : Option Files). IfSome held NoWriterOut) stays.told (whole stands.whole) in
    subst (λ (held : Option Files). IfSome held (Stands streams')) (sym stays.told)
    (record {
      whole = no_writer;
      output = subst (CanTake stays.new) (sym output) (can-take streams.to files stays.new stays.stay stands.output);
      errors = subst (CanTake stays.new) (sym errors) (can-take streams.errors_to files stays.new stays.stay stands.errors);
    })

pub sound-behind : (old new : Point) → Keeps old new → IsSound old.session old.tree → IsSound new.session new.tree
sound-behind old new keeps sound = sound-in old.session.streams new.session.streams old.tree.held new.tree.held keeps.whole keeps.files keeps.output keeps.errors sound

pub gone-so : (test : Flow → Bool) (came : How) → gone_by test came ≡ true → IsGone came
gone-so test (how.Gone came) is = tt
gone-so test how.ReadFault is = absurd (true≢false (sym is))
gone-so test how.WriteFault is = absurd (true≢false (sym is))
gone-so test how.TreeFault is = absurd (true≢false (sym is))
gone-so test how.Memory is = absurd (true≢false (sym is))

pub goes-gone : (came : How) → goes_on came ≡ true → IsGone came
goes-gone came is = gone-so goes_on_by came is

cause-behind : (came : How) (old mid new : Faults) → mid ≡ old → HasCause came mid new → HasCause came old new
cause-behind came old mid new same cause = subst (λ (faults : Faults). HasCause came faults new) same cause

-- COMMANDS ONE BEHIND THE OTHER. What comes of an evaluation hangs on how it goes on
abbrev pub then_by : Meaning → (Expansions → Flow → Means) → Meaning
then_by first next expansions state = next expansions (first expansions state).flow (first expansions state).state

-- it goes on to the second
pub follow : (first second : Meaning) (next : Expansions → Flow → Means) (goes : Flow → Bool)
    → ((expansions : Expansions) (it : Flow) (state : State) → goes it ≡ true → next expansions it state ≡ second expansions state)
    → (old mid new : Point) (came then_how : How) → gone_by goes came ≡ true → Evaluates first old came mid → Evaluates second mid then_how new
    → Evaluates (then_by first next) old then_how new
follow first second next goes law old mid new (how.Gone it) then_how is one other =
    let turns_one = one.turns in
    let turns_other = other.turns in
    record {
      comes = λ expansions are base state has.
          let ended : HasEnd base it mid (first expansions state) = one.comes expansions are base state has in
          subst (λ (came : Flow). Comes base then_how new (next expansions came (first expansions state).state)) ended.flow
          (subst (λ (left : Ends). Comes base then_how new left) (sym (law expansions it (first expansions state).state is))
          (other.comes expansions are base (first expansions state).state ended.has));
      keeps = λ ended. keeps-more old mid new (one.keeps tt) (other.keeps ended);
      turns = omega arith;
      later = no-fewer-trans old.faults mid.faults new.faults one.later other.later;
      cause = cause-behind then_how old.faults mid.faults new.faults one.cause other.cause;
      lent = balanced-more old.tree mid.tree new.tree one.lent other.lent;
    }
follow first second next goes law old mid new how.ReadFault then_how is one other = absurd (true≢false (sym is))
follow first second next goes law old mid new how.WriteFault then_how is one other = absurd (true≢false (sym is))
follow first second next goes law old mid new how.TreeFault then_how is one other = absurd (true≢false (sym is))
follow first second next goes law old mid new how.Memory then_how is one other = absurd (true≢false (sym is))

-- or ends with it, where only the shell is changed
module _ (first : Meaning) (next : Expansions → Flow → Means) (goes : Flow → Bool) (turned : Flow → Flow) (change : Flow → Shell → Shell)
    (law : (expansions : Expansions) (it : Flow) (state : State) → goes it ≡ false → next expansions it state ≡ ends (turned it) (in_shell (change it) state))
    (grows : (expansions : Expansions) (it : Flow) → Adds (next expansions it)) where
  ended-so : (old : Point) (it : Flow) (shell : Shell) (session : Session) (tree : TreeState) (seen : Seen) (faults : Faults) → goes it ≡ false
      → Evaluates first old (how.Gone it) (point_of shell session tree seen faults) → Evaluates (then_by first next) old (how.Gone (turned it)) (point_of (change it shell) session tree seen faults)
  ended-so old it shell session tree seen faults is one =
      record {
        comes = λ expansions are base state has.
            let ended : HasEnd base it (point_of shell session tree seen faults) (first expansions state) = one.comes expansions are base state has in
            subst (λ (came : Flow). HasEnd base (turned it) (point_of (change it shell) session tree seen faults) (next expansions came (first expansions state).state)) ended.flow
            (subst (λ (left : Ends). HasEnd base (turned it) (point_of (change it shell) session tree seen faults) left) (sym (law expansions it (first expansions state).state is))
            (record { flow = refl; has = record { shell = ap (change it) ended.has.shell; session = ended.has.session; home = ended.has.home; held = ended.has.held; kept = ended.has.kept; seen = ended.has.seen } }));
        keeps = λ gone. let keeps = one.keeps tt in record { whole = keeps.whole; files = keeps.files; output = keeps.output; errors = keeps.errors };
        turns = one.turns;
        later = one.later;
        cause = one.cause;
        lent = one.lent;
      }

  pub remade : (old : Point) (came came' : How) (shell shell' : Shell) (session : Session) (tree : TreeState) (seen : Seen) (faults : Faults) → gone_by goes came ≡ false
      → came' ≡ going turned came → shell' ≡ changed_by change came shell
      → Evaluates first old came (point_of shell session tree seen faults) → Evaluates (then_by first next) old came' (point_of shell' session tree seen faults)
  remade old (how.Gone it) came' shell shell' session tree seen faults is came_is shell_is one =
      rw came_is rw shell_is (ended-so old it shell session tree seen faults is one)
  remade old how.ReadFault came' shell shell' session tree seen faults is came_is shell_is one = rw came_is rw shell_is
      (record { comes = λ expansions are base state has. behind-more base tree.held seen (first expansions state).state (then_by first next expansions state).state (grows expansions (first expansions state).flow (first expansions state).state) (one.comes expansions are base state has); keeps = λ gone. absurd gone; turns = one.turns; later = one.later; cause = one.cause; lent = one.lent })
  remade old how.WriteFault came' shell shell' session tree seen faults is came_is shell_is one = rw came_is rw shell_is
      (record { comes = λ expansions are base state has. behind-more base tree.held seen (first expansions state).state (then_by first next expansions state).state (grows expansions (first expansions state).flow (first expansions state).state) (one.comes expansions are base state has); keeps = λ gone. absurd gone; turns = one.turns; later = one.later; cause = one.cause; lent = one.lent })
  remade old how.TreeFault came' shell shell' session tree seen faults is came_is shell_is one = rw came_is rw shell_is
      (record { comes = λ expansions are base state has. behind-more base tree.held seen (first expansions state).state (then_by first next expansions state).state (grows expansions (first expansions state).flow (first expansions state).state) (one.comes expansions are base state has); keeps = λ gone. absurd gone; turns = one.turns; later = one.later; cause = one.cause; lent = one.lent })
  remade old how.Memory came' shell shell' session tree seen faults is came_is shell_is one = rw came_is rw shell_is
      (record { comes = λ expansions are base state has. behind-more base tree.held seen (first expansions state).state (then_by first next expansions state).state (grows expansions (first expansions state).flow (first expansions state).state) (one.comes expansions are base state has); keeps = λ gone. absurd gone; turns = one.turns; later = one.later; cause = one.cause; lent = one.lent })

-- the next command is evaluated where the first goes on to it
only-on : (next : Means) (it : Flow) (state : State) → goes_on_by it ≡ true → followed_by next it state ≡ next state
only-on next flow.On state is = refl
only-on next (flow.Break count) state is = absurd (true≢false (sym is))
only-on next (flow.Continue count) state is = absurd (true≢false (sym is))
only-on next flow.Exit state is = absurd (true≢false (sym is))
only-on next (flow.Refused cause) state is = absurd (true≢false (sym is))

pub followed : (first next : Meaning) (old mid new : Point) (came then_how : How) → goes_on came ≡ true → Evaluates first old came mid → Evaluates next mid then_how new
    → Evaluates (λ expansions state. after (first expansions state) (next expansions)) old then_how new
followed first next old mid new came then_how is one other =
    follow first next (λ expansions. followed_by (next expansions)) goes_on_by (λ expansions. only-on (next expansions)) old mid new came then_how is one other

-- where it doesn't, what it means is what both mean, or a front of it
passed-on : (next : Means) (it : Flow) (state : State) → goes_on_by it ≡ false → followed_by next it state ≡ ends it (in_shell (λ shell. shell) state)
passed-on next flow.On state off = absurd (true≢false off)
passed-on next (flow.Break count) state off = refl
passed-on next (flow.Continue count) state off = refl
passed-on next flow.Exit state off = refl
passed-on next (flow.Refused cause) state off = refl

pub same-how : (came : How) → came ≡ going (λ it. it) came
same-how (how.Gone it) = refl
same-how how.ReadFault = refl
same-how how.WriteFault = refl
same-how how.TreeFault = refl
same-how how.Memory = refl

pub same-shell : (came : How) (shell : Shell) → shell ≡ changed_by (λ it shell. shell) came shell
same-shell (how.Gone it) shell = refl
same-shell how.ReadFault shell = refl
same-shell how.WriteFault shell = refl
same-shell how.TreeFault shell = refl
same-shell how.Memory shell = refl

pub stopped : (first next : Meaning) (old new : Point) (came : How) → goes_on came ≡ false → ((expansions : Expansions) → Adds (next expansions)) → Evaluates first old came new
    → Evaluates (λ expansions state. after (first expansions state) (next expansions)) old came new
stopped first next old new came off adds one =
    remade first (λ expansions. followed_by (next expansions)) goes_on_by (λ it. it) (λ it shell. shell) (λ expansions. passed-on (next expansions))
    (λ expansions it state. adds-followed (next expansions) (adds expansions) it state)
    old came came new.shell new.shell new.session new.tree new.seen new.faults off (same-how came) (same-shell came new.shell) one

-- what is meant is the same where it begins
pub meant-where : (first second : Meaning) (old new : Point) (came : How)
    → ((expansions : Expansions) → AreExpansions expansions → (base : Base) (state : State) → Has base old state → first expansions state ≡ second expansions state)
    → Evaluates second old came new → Evaluates first old came new
meant-where first second old new came same one =
    record {
      comes = λ expansions are base state has. subst (λ (left : Ends). Comes base came new left) (sym (same expansions are base state has)) (one.comes expansions are base state has);
      keeps = one.keeps;
      turns = one.turns;
      later = one.later;
      cause = one.cause;
      lent = one.lent;
    }

pub meant-at : (first second : Meaning) (old new : Point) (came : How) → ((expansions : Expansions) (base : Base) (state : State) → Has base old state → first expansions state ≡ second expansions state)
    → Evaluates second old came new → Evaluates first old came new
meant-at first second old new came same one = meant-where first second old new came (λ expansions are base state has. same expansions base state has) one

-- the shell alone is changed
pub changed : (it : Flow) (change : Shell → Shell) (shell shell' : Shell) (session : Session) (tree : TreeState) (seen : Seen) (faults : Faults) → shell' ≡ change shell
    → Evaluates (λ expansions state. ends it (in_shell change state)) (point_of shell session tree seen faults) (how.Gone it) (point_of shell' session tree seen faults)
changed it change shell shell' session tree seen faults is =
    record {
      comes = λ expansions are base state has. record {
        flow = refl;
        has = record { shell = is ∙ ap change has.shell; session = has.session; home = has.home; held = has.held; kept = has.kept; seen = has.seen };
      };
      keeps = λ gone. record { whole = λ held. held; files = held-none tree.held; output = refl; errors = refl };
      turns = omega arith;
      later = no-fewer faults;
      cause = refl;
      lent = balanced-none tree;
    }

-- what is evaluated behind a change of the shell
pub changed-before : (means : Meaning) (change : Shell → Shell) (shell inner : Shell) (session : Session) (tree : TreeState) (seen : Seen) (faults : Faults) (came : How) (new : Point) → inner ≡ change shell
    → Evaluates means (point_of inner session tree seen faults) came new → Evaluates (λ expansions state. means expansions (in_shell change state)) (point_of shell session tree seen faults) came new
changed-before means change shell inner session tree seen faults came new is found =
    let one : Evaluates means (point_of (change shell) session tree seen faults) came new = subst (λ (it : Shell). Evaluates means (point_of it session tree seen faults) came new) is found in
    record {
      comes = λ expansions are base state has. one.comes expansions are base (in_shell change state)
          (record { shell = ap change has.shell; session = has.session; home = has.home; held = has.held; kept = has.kept; seen = has.seen });
      keeps = λ gone. let keeps = one.keeps gone in record { whole = keeps.whole; files = keeps.files; output = keeps.output; errors = keeps.errors };
      turns = one.turns;
      later = one.later;
      cause = one.cause;
      lent = one.lent;
    }

-- nothing is done
pub nothing : (at : Point) → Evaluates (λ expansions. on) at (how.Gone flow.On) at
nothing at = changed flow.On (λ shell. shell) at.shell at.shell at.session at.tree at.seen at.faults refl

-- memory was wanted before anything was done
pub wanted : (means : Meaning) (at : Point) → ((expansions : Expansions) → Adds (means expansions)) → Evaluates means at how.Memory at
wanted means at adds =
    record {
      comes = λ expansions are base state has. behind-told base at state (means expansions state).state has (adds expansions state);
      keeps = λ gone. keeps-none at;
      turns = omega arith;
      later = no-fewer at.faults;
      cause = tt;
      lent = balanced-none at.tree;
    }

-- the tree failed, or memory was wanted, before anything was done
early-comes : (means : Meaning) → ((expansions : Expansions) → Adds (means expansions)) → (base : Base) (old : Point) (shell : Shell) (faults : Faults) (came : How) → (IsGone came → ⊥) → (expansions : Expansions) (state : State) → Has base old state
    → Comes base came (point_of shell old.session old.tree old.seen faults) (means expansions state)
early-comes means adds base old shell faults (how.Gone it) off expansions state has = absurd (off tt)
early-comes means adds base old shell faults how.ReadFault off expansions state has = behind-told base old state (means expansions state).state has (adds expansions state)
early-comes means adds base old shell faults how.WriteFault off expansions state has = behind-told base old state (means expansions state).state has (adds expansions state)
early-comes means adds base old shell faults how.TreeFault off expansions state has = behind-told base old state (means expansions state).state has (adds expansions state)
early-comes means adds base old shell faults how.Memory off expansions state has = behind-told base old state (means expansions state).state has (adds expansions state)

pub failed-early : (means : Meaning) → ((expansions : Expansions) → Adds (means expansions)) → (shell shell' : Shell) (session : Session) (tree : TreeState) (seen : Seen) (faults faults' : Faults) (came : How) → (IsGone came → ⊥)
    → NoFewer faults faults' → HasCause came faults faults' → Evaluates means (point_of shell session tree seen faults) came (point_of shell' session tree seen faults')
failed-early means adds shell shell' session tree seen faults faults' came off later cause =
    record {
      comes = λ expansions are base state has. early-comes means adds base (point_of shell session tree seen faults) shell' faults' came off expansions state has;
      keeps = λ gone. absurd (off gone);
      turns = omega arith;
      later = later;
      cause = cause;
      lent = balanced-none tree;
    }
