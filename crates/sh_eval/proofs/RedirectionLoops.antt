-- All redirections of a command.
use Rattle.std.proofs.Common.{◌≡◌, ℕ, ◌≤◌, ◌<◌, ◌+◌, add-one, Bool, true, false, ◌||◌, if◌then◌else◌, List, ◌∷◌, drop, length, get_or, Option, Some, None, Err, refl, sym, ap, ◌∙◌, subst, arith}
use Rattle.std.proofs.Math.ListN.{drop_of_length-le}
use Rattle.std.proofs.Math.Seq.{drop-cons}
use Rattle.std.proofs.lemmas.Bool.{true≢false}
use Rattle.std.specs.Option.{unwrap_or}
use Rattle.ps_world.specs.Counts.{Rose}
use Rattle.ps_world.proofs.TreeStateLemmas.{balanced-none, balanced-more}
use Rattle.fl_commands.specs.Writers.{ChangesOnly}
use Rattle.fl_commands.proofs.WriterLemmas.{only-within}
use Rattle.sh_eval.specs.declared.flows.Flow.{Flow}
use Rattle.sh_eval.specs.declared.flows.Flow.TheVariants as flow
use Rattle.sh_eval.specs.declared.stops.RedirectionError.{RedirectionError}
use Rattle.sh_eval.specs.declared.stops.RedirectionError.TheVariants as stop
use Rattle.sh_eval.specs.declared.streams.From.{From}
use Rattle.sh_eval.specs.declared.streams.Streams.{Streams}
use Rattle.sh_eval.specs.declared.session.Session.{Session}
use Rattle.sh_eval.specs.declared.outcomes.How.{How}
use Rattle.sh_eval.specs.declared.outcomes.How.TheVariants as how
use Rattle.sh_eval.specs.Targets.{Target}
use Rattle.sh_eval.specs.States.{State, Means, Ends, in_streams, on}
use Rattle.sh_eval.specs.Redirections.{Redirected, redirected, named_by, redirecting, goes_on_in, skipped, is_read, led_back, within, in_redirections}
use Rattle.sh_eval.specs.Contract.{Faults, Point, point_of, Base, HasCause, Comes, NoFewer, Meaning, Evaluates}
use Rattle.sh_eval.specs.Redirecting.{LeavesOn, Led, TellsWhy, Breaks, Does, wrote_by}
use Rattle.sh_eval.specs.Reaching.{Reaches, DoesAll, Remembers, RemembersSome, has_read, written_by}
use Rattle.sh_eval.specs.Leading.{kept_by, keeping, before_in, put_back}
use Rattle.sh_eval.specs.declared.leading.Before.{Before}
use Rattle.sh_eval.proofs.Growing.{adds-on, adds-redirecting, wrote-on}
use Rattle.sh_eval.proofs.Steps.{held-none, held-more}

pub leaves-none : (at : Point) → LeavesOn at at
leaves-none at = record { whole = λ whole. whole; files = held-none at.tree.held; sound = λ sound. sound; turns = omega arith; faults = refl; lent = balanced-none at.tree }

leaves-more : (old mid new : Point) → LeavesOn old mid → LeavesOn mid new → LeavesOn old new
leaves-more old mid new first second =
    let one = first.turns in
    let other = second.turns in
    record {
      whole = λ whole. second.whole (first.whole whole);
      files = held-more old.tree.held mid.tree.held new.tree.held first.files second.files;
      sound = λ sound. second.sound (first.sound sound);
      turns = omega arith;
      faults = second.faults ∙ first.faults;
      lent = balanced-more old.tree mid.tree new.tree first.lent second.lent;
    }

-- nothing is done yet
pub reaches-none : (first : Flow → Means → Means) (at : Point) → Reaches first first at at
reaches-none first at = record { at = λ way next base state has. record { behind = state; has = has; same = refl }; leaves_on = leaves-none at }

-- what one redirection does
abbrev pub by_target : Target → State → Redirected
by_target target state = redirected target target.how (named_by state target.text) state

-- the next redirection is done
pub reaches-led : (first : Flow → Means → Means) (target : Target) (targets : List Target) (old mid new : Point) → Reaches first (λ way. redirecting way (target ∷ targets)) old mid → Led (by_target target) mid new
    → Reaches first (λ way. redirecting way targets) old new
reaches-led first target targets old mid new reaches led =
    record {
      at = λ way next base state has.
          let one = reaches.at way next base state has in
          let two = led.at base one.behind one.has in
          record { behind = two.behind; has = two.has; same = one.same ∙ ap (λ (it : Redirected). goes_on_in way (redirecting way targets next) it one.behind) two.same };
      leaves_on = leaves-more old mid new reaches.leaves_on led.leaves_on;
    }

-- the next one stops
pub reaches-line : (first : Flow → Means → Means) (target : Target) (targets : List Target) (line : List ℕ) (old mid new : Point) → Reaches first (λ way. redirecting way (target ∷ targets)) old mid → TellsWhy (by_target target) line mid new
    → Reaches first (λ way next. skipped way line) old new
reaches-line first target targets line old mid new reaches tells =
    subst (λ (it : Point). Reaches first (λ way next. skipped way line) old it) (sym tells.same)
    (record {
      at = λ way next base state has.
          let one = reaches.at way next base state has in
          record { behind = one.behind; has = one.has; same = one.same ∙ ap (λ (it : Redirected). goes_on_in way (redirecting way targets next) it one.behind) (tells.at base one.behind one.has) };
      leaves_on = reaches.leaves_on;
    })

breaks-more : (targets rest : List Target) (target : Target) (old mid new : Point) → mid.seen ≡ old.seen → Reaches (λ way. redirecting way targets) (λ way. redirecting way (target ∷ rest)) old mid
    → Breaks (wrote_by (by_target target)) mid new → Breaks (written_by targets) old new
breaks-more targets rest target old mid new seen reaches breaks =
    let leaves = reaches.leaves_on in
    let one = leaves.turns in
    let other = breaks.turns in
    record {
      kept = λ base state has.
          let there = reaches.at flow.On on base state has in
          subst (λ (it : Ends). ChangesOnly it.state.world.written (Some base.files) new.tree.held) (sym there.same)
          (only-within (wrote-on flow.On (redirecting flow.On rest on) (adds-redirecting flow.On rest on adds-on) (by_target target there.behind) there.behind) (breaks.kept base there.behind there.has));
      taken = breaks.taken ∙ seen;
      turns = omega arith;
      later = subst (λ (it : Faults). NoFewer it new.faults) leaves.faults breaks.later;
      lent = balanced-more old.tree mid.tree new.tree leaves.lent breaks.lent;
    }

-- all of them, where one stops
pub all-stopped : (targets rest : List Target) (target : Target) (old mid new : Point) (why : RedirectionError) → mid.seen ≡ old.seen → Reaches (λ way. redirecting way targets) (λ way. redirecting way (target ∷ rest)) old mid
    → Does (by_target target) mid new (Err why) → DoesAll targets old new (Err why)
all-stopped targets rest target old mid new (stop.Line line) seen reaches does = reaches-line (λ way. redirecting way targets) target rest line old mid new reaches does
all-stopped targets rest target old mid new stop.Tree seen reaches does =
    (breaks-more targets rest target old mid new seen reaches does.0, subst (λ (it : Faults). Rose it.tree new.faults.tree) reaches.leaves_on.faults does.1)
all-stopped targets rest target old mid new stop.Memory seen reaches does = breaks-more targets rest target old mid new seen reaches does

-- all of them are done
pub all-done : (targets : List Target) (place : ℕ) (old new : Point) → length targets ≤ place → Reaches (λ way. redirecting way targets) (λ way. redirecting way (drop place targets)) old new
    → Reaches (λ way. redirecting way targets) (λ way next. next) old new
all-done targets place old new over reaches =
    subst (λ (it : List Target). Reaches (λ way. redirecting way targets) (λ way. redirecting way it) old new) (drop_of_length-le targets over) reaches

-- what descriptor 0 read
kept-step : (reads_other reads_now : Bool) (from mid new : From) (first before before' : Before) (read : Option From) → Remembers reads_other from mid first before → read ≡ (if reads_now then Some mid else None)
    → before' ≡ kept_by read before → (reads_now ≡ false → new ≡ mid) → first.from ≡ None → Remembers (reads_other || reads_now) from new first before'
kept-step true true from mid new first before before' read kept is keeps still fresh =
    record { is = keeps ∙ ap (λ (it : Option From). kept_by it before) is ∙ ap (λ (it : Before). keeping mid it) kept.is; same = λ off. absurd (true≢false off) }
kept-step true false from mid new first before before' read kept is keeps still fresh =
    record { is = keeps ∙ ap (λ (it : Option From). kept_by it before) is ∙ kept.is; same = λ off. absurd (true≢false off) }
kept-step false true from mid new first before before' read kept is keeps still fresh =
    record {
      is =
          keeps ∙ ap (λ (it : Option From). kept_by it before) is ∙ ap (λ (it : Before). keeping mid it) kept.is
          ∙ ap (λ (it : Option From). record first { from = Some (unwrap_or it mid) }) fresh ∙ ap (λ (it : From). record first { from = Some it }) (kept.same refl);
      same = λ off. absurd (true≢false off);
    }
kept-step false false from mid new first before before' read kept is keeps still fresh =
    record { is = keeps ∙ ap (λ (it : Option From). kept_by it before) is ∙ kept.is; same = λ off. still refl ∙ kept.same refl }

or-more : (reads_other reads_now : Bool) (rest : Bool) → (reads_other || (reads_now || rest)) ≡ ((reads_other || reads_now) || rest)
or-more true reads_now rest = refl
or-more false reads_now rest = refl

or-front : (reads_other rest : Bool) → reads_other ≡ true → (reads_other || rest) ≡ true
or-front true rest is = refl
or-front false rest is = absurd (true≢false (sym is))

or-none : (reads_other : Bool) → (reads_other || false) ≡ reads_other
or-none true = refl
or-none false = refl

-- the redirections that are left, and what was read
pub record Kept (targets left : List Target) (from now : From) (first before : Before) : Type 0 where
  pub reads_other : Bool
  pub so_far : has_read targets ≡ (reads_other || has_read left)
  pub remembers : Remembers reads_other from now first before

pub kept-none : (targets : List Target) (from : From) (first : Before) → Kept targets targets from from first first
kept-none targets from first = record { reads_other = false; so_far = refl; remembers = record { is = refl; same = λ off. refl } }

pub cut : (targets : List Target) (place : ℕ) (one : Target) → one ≡ get_or targets place one → place < length targets → drop place targets ≡ one ∷ drop (place + 1) targets
cut targets place one here below =
    let is : drop place targets ≡ get_or targets place one ∷ drop (place + 1) targets = rw add-one (drop-cons targets place one below) in
    is ∙ ap (λ (it : Target). it ∷ drop (place + 1) targets) (sym here)

pub kept-more : (targets : List Target) (place : ℕ) (one : Target) (from mid new : From) (first before before' : Before) (read : Option From) → one ≡ get_or targets place one → place < length targets
    → Kept targets (drop place targets) from mid first before → read ≡ (if is_read one.how then Some mid else None) → before' ≡ kept_by read before → (is_read one.how ≡ false → new ≡ mid) → first.from ≡ None
    → Kept targets (drop (place + 1) targets) from new first before'
kept-more targets place one from mid new first before before' read here below kept is keeps still fresh =
    record {
      reads_other = kept.reads_other || is_read one.how;
      so_far =
          kept.so_far ∙ ap (λ (it : List Target). kept.reads_other || has_read it) (cut targets place one here below)
          ∙ or-more kept.reads_other (is_read one.how) (has_read (drop (place + 1) targets));
      remembers = kept-step kept.reads_other (is_read one.how) from mid new first before before' read kept.remembers is keeps still fresh;
    }

pub kept-all : (targets : List Target) (place : ℕ) (from now : From) (first before : Before) → length targets ≤ place → Kept targets (drop place targets) from now first before → Remembers (has_read targets) from now first before
kept-all targets place from now first before over kept =
    let all : has_read targets ≡ kept.reads_other = kept.so_far ∙ ap (λ (it : List Target). kept.reads_other || has_read it) (drop_of_length-le targets over) ∙ or-none kept.reads_other in
    subst (λ (it : Bool). Remembers it from now first before) (sym all) kept.remembers

pub kept-some : (targets left : List Target) (from mid now : From) (first before : Before) → now ≡ mid → Kept targets left from mid first before → RemembersSome targets from now first before
kept-some targets left from mid now first before is kept =
    record {
      reads_other = kept.reads_other;
      of_them = λ reads. kept.so_far ∙ or-front kept.reads_other (has_read left) reads;
      remembers = record { is = kept.remembers.is; same = λ off. is ∙ kept.remembers.same off };
    }

-- the next redirection in its place
pub all-led : (targets : List Target) (place : ℕ) (one : Target) (old mid new : Point) → one ≡ get_or targets place one → place < length targets → Reaches (λ way. redirecting way targets) (λ way. redirecting way (drop place targets)) old mid
    → Led (by_target one) mid new → Reaches (λ way. redirecting way targets) (λ way. redirecting way (drop (place + 1) targets)) old new
all-led targets place one old mid new here below reaches led =
    reaches-led (λ way. redirecting way targets) one (drop (place + 1) targets) old mid new
    (subst (λ (it : List Target). Reaches (λ way. redirecting way targets) (λ way. redirecting way it) old mid) (cut targets place one here below) reaches) led

pub all-stopped-at : (targets : List Target) (place : ℕ) (one : Target) (old mid new : Point) (why : RedirectionError) → one ≡ get_or targets place one → place < length targets → mid.seen ≡ old.seen
    → Reaches (λ way. redirecting way targets) (λ way. redirecting way (drop place targets)) old mid → Does (by_target one) mid new (Err why) → DoesAll targets old new (Err why)
all-stopped-at targets place one old mid new why here below seen reaches does =
    all-stopped targets (drop (place + 1) targets) one old mid new why seen
    (subst (λ (it : List Target). Reaches (λ way. redirecting way targets) (λ way. redirecting way it) old mid) (cut targets place one here below) reaches) does

-- AROUND A COMMAND. Behind it the descriptors lead where they led
pub put-back : (reads : Bool) (streams new : Streams) (before : Before) → before ≡ (if reads then record (before_in streams) { from = Some streams.from } else before_in streams)
    → put_back before new ≡ (if reads then streams else record streams { from = new.from })
put-back true streams new before is = ap (λ (it : Before). put_back it new) is
put-back false streams new before is = ap (λ (it : Before). put_back it new) is

outputs-back : (reads : Bool) (old new : Streams) → ((if reads then old else record old { from = new.from }).to ≡ old.to) × ((if reads then old else record old { from = new.from }).errors_to ≡ old.errors_to)
outputs-back true old new = (refl, refl)
outputs-back false old new = (refl, refl)

comes-back : (targets : List Target) (streams : Streams) (base : Base) (came : How) (last : Point) (session : Session) (left : Ends) → session ≡ in_streams (led_back targets streams) last.session → Comes base came last left
    → Comes base came (point_of last.shell session last.tree last.seen last.faults) (within targets streams left)
comes-back targets streams base (how.Gone way) last session left is comes =
    record {
      flow = comes.flow;
      has =
          record {
            shell = comes.has.shell;
            session = is ∙ ap (in_streams (led_back targets streams)) comes.has.session;
            home = comes.has.home;
            held = comes.has.held;
            kept = comes.has.kept;
            seen = comes.has.seen;
          };
    }
comes-back targets streams base how.ReadFault last session left is comes = comes
comes-back targets streams base how.WriteFault last session left is comes = comes
comes-back targets streams base how.TreeFault last session left is comes = comes
comes-back targets streams base how.Memory last session left is comes = comes

-- a command that is evaluated in its redirections, or the line of the one that stops. `second` is what comes of them at the state behind
pub around-back : (way : Flow) (target : Target) (targets : List Target) (second : Flow → Means → Means) (next : Meaning) (old mid last : Point) (came : How) (session : Session)
    → Reaches (λ way. redirecting way (target ∷ targets)) second old mid → Evaluates (λ expansions. second way (next expansions)) mid came last
    → session ≡ in_streams (led_back (target ∷ targets) old.session.streams) last.session
    → Evaluates (λ expansions. in_redirections way (target ∷ targets) (next expansions)) old came (point_of last.shell session last.tree last.seen last.faults)
around-back way target targets second next old mid last came session reaches one back =
    let turns_in = reaches.leaves_on.turns in
    let turns_on = one.turns in
    let outputs = outputs-back (has_read (target ∷ targets)) old.session.streams last.session.streams in
    record {
      comes = λ expansions are base state has.
          let there = reaches.at way (next expansions) base state has in
          let is : session ≡ in_streams (led_back (target ∷ targets) state.session.streams) last.session =
          back ∙ ap (λ (it : Session). in_streams (led_back (target ∷ targets) it.streams) last.session) has.session in
          subst (λ (it : Ends). Comes base came (point_of last.shell session last.tree last.seen last.faults) (within (target ∷ targets) state.session.streams it)) (sym there.same)
          (comes-back (target ∷ targets) state.session.streams base came last session (second way (next expansions) there.behind) is (one.comes expansions are base there.behind there.has));
      keeps = λ gone.
          let kept = one.keeps gone in
          record {
            whole = λ whole. kept.whole (reaches.leaves_on.whole whole);
            files = held-more old.tree.held mid.tree.held last.tree.held reaches.leaves_on.files kept.files;
            output = ap (λ (it : Session). it.streams.to) back ∙ outputs.0;
            errors = ap (λ (it : Session). it.streams.errors_to) back ∙ outputs.1;
          };
      turns = subst (λ (it : Session). old.session.turns ≤ it.turns) (sym back) (omega arith);
      later = subst (λ (it : Faults). NoFewer it last.faults) reaches.leaves_on.faults one.later;
      cause = subst (λ (it : Faults). HasCause came it last.faults) reaches.leaves_on.faults one.cause;
      lent = balanced-more old.tree mid.tree last.tree reaches.leaves_on.lent one.lent;
    }

led-back-so : (targets : List Target) (streams : Streams) (now : From) (first before : Before) (last session : Session) → first ≡ before_in streams → Remembers (has_read targets) streams.from now first before
    → session ≡ in_streams (put_back before) last → session ≡ in_streams (led_back targets streams) last
led-back-so targets streams now first before last session begun kept back =
    let is : before ≡ (if has_read targets then record (before_in streams) { from = Some streams.from } else before_in streams) =
    kept.is ∙ ap (λ (it : Before). if has_read targets then record it { from = Some streams.from } else it) begun in
    back ∙ ap (λ (it : Streams). in_streams (λ streams. it) last) (put-back (has_read targets) streams last.streams before is)

-- the command in its redirections, where all of them are done
pub around : (way : Flow) (target : Target) (targets : List Target) (next : Meaning) (old mid last : Point) (came : How) (first before : Before) (session : Session) → first ≡ before_in old.session.streams
    → Remembers (has_read (target ∷ targets)) old.session.streams.from mid.session.streams.from first before → Reaches (λ way. redirecting way (target ∷ targets)) (λ way next. next) old mid → Evaluates next mid came last
    → session ≡ in_streams (put_back before) last.session
    → Evaluates (λ expansions. in_redirections way (target ∷ targets) (next expansions)) old came (point_of last.shell session last.tree last.seen last.faults)
around way target targets next old mid last came first before session begun kept reaches one back =
    around-back way target targets (λ way next. next) next old mid last came session reaches one
    (led-back-so (target ∷ targets) old.session.streams mid.session.streams.from first before last.session session begun kept back)
