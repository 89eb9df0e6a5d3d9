-- Commands that are skipped.
use Rattle.std.proofs.Common.{◌≡◌, ℕ, ◌≤◌, List, ◌∷◌, Bool, true, false, if◌then◌else◌, Some, Err, refl, sym, ap, ◌∙◌, subst}
use Rattle.std.proofs.lemmas.Bool.{true≢false}
use Rattle.ps_world.specs.Counts.{Rose}
use Rattle.ps_world.specs.TreeState.{TreeState}
use Rattle.sh_expand.specs.Outcomes.{Expansions}
use Rattle.sh_eval.specs.declared.flows.Flow.{Flow}
use Rattle.sh_eval.specs.declared.outcomes.How.{How}
use Rattle.sh_eval.specs.declared.outcomes.How.TheVariants as how
use Rattle.sh_eval.specs.declared.session.Session.{Session}
use Rattle.sh_eval.specs.declared.shell.Shell.{Shell}
use Rattle.sh_eval.specs.declared.stops.RedirectionError.{RedirectionError}
use Rattle.sh_eval.specs.declared.stops.RedirectionError.TheVariants as stop
use Rattle.sh_eval.specs.declared.streams.From.{From}
use Rattle.sh_eval.specs.declared.streams.Streams.{Streams}
use Rattle.sh_eval.specs.declared.leading.Before.{Before}
use Rattle.sh_eval.specs.Targets.{Target}
use Rattle.sh_eval.specs.States.{on, tells, in_streams}
use Rattle.sh_eval.specs.Growth.{Adds}
use Rattle.sh_eval.specs.Redirections.{skipped, led_back, in_redirections}
use Rattle.sh_eval.specs.Contract.{Seen, Faults, Point, point_of, Meaning, Evaluates}
use Rattle.sh_eval.specs.Ending.{how_behind, status_behind}
use Rattle.sh_eval.specs.Leading.{before_in, put_back}
use Rattle.sh_eval.specs.Redirecting.{Breaks}
use Rattle.sh_eval.specs.Reaching.{DoesAll, RemembersSome, Skips, has_read, written_by}
use Rattle.fl_commands.proofs.WriterLemmas.{only-within}
use Rattle.sh_eval.proofs.EndingLemmas.{ended, blamed}
use Rattle.sh_eval.proofs.Growing.{adds-in_redirections, written-on}
use Rattle.sh_eval.proofs.RedirectionLoops.{around-back, put-back}

pub skips-line : (why : RedirectionError) (way : Flow) (line told : List ℕ) (shell shell' : Shell) (session session' : Session) (tree tree' : TreeState) (seen seen' : Seen) (faults faults' : Faults) (came came' : How) → why ≡ stop.Line line → told ≡ line
    → shell' ≡ status_behind came 1 shell → came' ≡ how_behind came way → Evaluates (λ expansions state. on (tells told state)) (point_of shell session tree seen faults) came (point_of shell session' tree' seen' faults')
    → Skips why way (point_of shell session tree seen faults) came' (point_of shell' session' tree' seen' faults')
skips-line why way line told shell shell' session session' tree tree' seen seen' faults faults' came came' is told_is shell_is came_is one =
    subst (λ (it : RedirectionError). Skips it way (point_of shell session tree seen faults) came' (point_of shell' session' tree' seen' faults')) (sym is)
    (ended (λ expansions state. on (tells line state)) way 1 shell shell' session session' tree tree' seen seen' faults faults' came came' shell_is came_is
    (subst (λ (it : List ℕ). Evaluates (λ expansions state. on (tells it state)) (point_of shell session tree seen faults) came (point_of shell session' tree' seen' faults')) told_is one))

pub skips-tree : (why : RedirectionError) (way : Flow) (at : Point) → why ≡ stop.Tree → Skips why way at how.TreeFault at
skips-tree why way at is = subst (λ (it : RedirectionError). Skips it way at how.TreeFault at) (sym is) (refl, refl)

pub skips-memory : (why : RedirectionError) (way : Flow) (at : Point) → why ≡ stop.Memory → Skips why way at how.Memory at
skips-memory why way at is = subst (λ (it : RedirectionError). Skips it way at how.Memory at) (sym is) (refl, refl)

-- the descriptors lead where they led, also where not all redirections were done
streams-some : (reads has : Bool) (streams last : Streams) (before : Before) → (reads ≡ true → has ≡ true) → (reads ≡ false → last.from ≡ streams.from)
    → before ≡ (if reads then record (before_in streams) { from = Some streams.from } else before_in streams) → put_back before last ≡ (if has then streams else record streams { from = last.from })
streams-some true true streams last before of_them still is = put-back true streams last before is
streams-some true false streams last before of_them still is = absurd (true≢false (sym (of_them refl)))
streams-some false true streams last before of_them still is = put-back false streams last before is ∙ ap (λ (it : From). record streams { from = it }) (still refl)
streams-some false false streams last before of_them still is = put-back false streams last before is

led-back-some : (targets : List Target) (streams : Streams) (now : From) (first before : Before) (last session : Session) → first ≡ before_in streams → RemembersSome targets streams.from now first before → last.streams.from ≡ now
    → session ≡ in_streams (put_back before) last → session ≡ in_streams (led_back targets streams) last
led-back-some targets streams now first before last session begun some still back =
    let is : before ≡ (if some.reads_other then record (before_in streams) { from = Some streams.from } else before_in streams) =
    some.remembers.is ∙ ap (λ (it : Before). if some.reads_other then record it { from = Some streams.from } else it) begun in
    back ∙ ap (λ (it : Streams). in_streams (λ streams. it) last)
    (streams-some some.reads_other (has_read targets) streams last.streams before some.of_them (λ off. still ∙ some.remembers.same off) is)

-- the command in its redirections, where one of them stopped
pub around-stopped : (why : RedirectionError) (way : Flow) (target : Target) (targets : List Target) (next : Meaning) (old mid last : Point) (came : How) (first before : Before) (session : Session)
    → ((expansions : Expansions) → Adds (next expansions)) → first ≡ before_in old.session.streams
    → RemembersSome (target ∷ targets) old.session.streams.from mid.session.streams.from first before → DoesAll (target ∷ targets) old mid (Err why) → Skips why way mid came last
    → last.session.streams ≡ mid.session.streams → session ≡ in_streams (put_back before) last.session
    → Evaluates (λ expansions. in_redirections way (target ∷ targets) (next expansions)) old came (point_of last.shell session last.tree last.seen last.faults)
around-stopped (stop.Line line) way target targets next old mid last came first before session adds begun some does skips streams back =
    around-back way target targets (λ way next. skipped way line) next old mid last came session does skips
    (led-back-some (target ∷ targets) old.session.streams mid.session.streams.from first before last.session session begun some (ap (λ (it : Streams). it.from) streams) back)
around-stopped stop.Tree way target targets next old mid last came first before session adds begun some does skips streams back =
    let breaks : Breaks (written_by (target ∷ targets)) old last = subst (Breaks (written_by (target ∷ targets)) old) (sym skips.1) does.0 in
    let turns = breaks.turns in
    subst (λ (it : How). Evaluates (λ expansions. in_redirections way (target ∷ targets) (next expansions)) old it (point_of last.shell session last.tree last.seen last.faults)) (sym skips.0)
    (blamed (λ expansions. in_redirections way (target ∷ targets) (next expansions)) old (point_of last.shell session last.tree last.seen last.faults) how.TreeFault (λ expansions. adds-in_redirections way (target ∷ targets) (next expansions) (adds expansions)) (λ gone. gone)
    (ap (λ (it : Seen). it.taken) breaks.taken) (ap (λ (it : Seen). it.errors) breaks.taken)
    (λ expansions base state has. only-within (written-on way (target ∷ targets) (next expansions) (adds expansions) state) (breaks.kept base state has))
    (subst (λ (it : Session). old.session.turns ≤ it.turns) (sym back) turns) breaks.later
    (subst (λ (it : Point). Rose old.faults.tree it.faults.tree) (sym skips.1) does.1) breaks.lent)
around-stopped stop.Memory way target targets next old mid last came first before session adds begun some does skips streams back =
    let breaks : Breaks (written_by (target ∷ targets)) old last = subst (Breaks (written_by (target ∷ targets)) old) (sym skips.1) does in
    let turns = breaks.turns in
    subst (λ (it : How). Evaluates (λ expansions. in_redirections way (target ∷ targets) (next expansions)) old it (point_of last.shell session last.tree last.seen last.faults)) (sym skips.0)
    (blamed (λ expansions. in_redirections way (target ∷ targets) (next expansions)) old (point_of last.shell session last.tree last.seen last.faults) how.Memory (λ expansions. adds-in_redirections way (target ∷ targets) (next expansions) (adds expansions)) (λ gone. gone)
    (ap (λ (it : Seen). it.taken) breaks.taken) (ap (λ (it : Seen). it.errors) breaks.taken)
    (λ expansions base state has. only-within (written-on way (target ∷ targets) (next expansions) (adds expansions) state) (breaks.kept base state has))
    (subst (λ (it : Session). old.session.turns ≤ it.turns) (sym back) turns) breaks.later
    tt breaks.lent)
