-- What stands around a command: its redirections are done before it and taken back behind it.
use Rattle.std.proofs.Common.{◌≡◌, ℕ, ◌≤◌, ◌<◌, ◌++◌, List, [], ◌∷◌, length, Option, Some, None, Result, Ok, Err, IfOk, IfErr, refl, sym, ap, ◌∙◌, subst, append-nil, arith}
use Rattle.ps_world.specs.Counts.{Rose}
use Rattle.ps_world.specs.TreeState.{TreeState}
use Rattle.ps_world.specs.declared.error.WorldErr.{WorldErr}
use Rattle.ps_world.specs.declared.error.WorldErr.TheVariants as error
use Rattle.ps_world.proofs.TreeStateLemmas.{balanced-none}
use Rattle.sh_tree.specs.Trees.{RedirTree}
use Rattle.sh_expand.specs.Outcomes.{Expansions}
use Rattle.sh_eval.specs.declared.flows.Flow.{Flow}
use Rattle.sh_eval.specs.declared.flows.Flow.TheVariants as flow
use Rattle.sh_eval.specs.declared.leading.Before.{Before}
use Rattle.sh_eval.specs.declared.outcomes.How.{How}
use Rattle.sh_eval.specs.declared.outcomes.How.TheVariants as how
use Rattle.sh_eval.specs.declared.refusals.Refusal.TheVariants as refusal
use Rattle.sh_eval.specs.declared.session.Session.{Session}
use Rattle.sh_eval.specs.declared.shell.Shell.{Shell}
use Rattle.sh_eval.specs.declared.stops.RedirectionError.{RedirectionError}
use Rattle.sh_eval.specs.declared.stops.RedirectionError.TheVariants as stop
use Rattle.sh_eval.specs.declared.streams.Held.{Held}
use Rattle.sh_eval.specs.States.{State, Means, in_session, in_streams}
use Rattle.sh_eval.specs.Targets.{Target}
use Rattle.sh_eval.specs.Expanding.{with_targets}
use Rattle.sh_eval.specs.Meaning.{held_in}
use Rattle.sh_eval.specs.Table.{pages}
use Rattle.sh_eval.specs.Redirections.{Use, uses_of, first_busy, unless_busy, redirecting, in_redirections, held_by, holding}
use Rattle.sh_eval.specs.Leading.{before_in, put_back}
use Rattle.sh_eval.specs.Growth.{Adds}
use Rattle.sh_eval.specs.Contract.{Seen, Faults, Point, point_of, faults_of, Base, Has, Comes, IsSound, Meaning, Evaluates, PassesOn, StopsAt}
use Rattle.sh_eval.specs.Reaching.{Reaches, DoesAll, Remembers, RemembersSome, CanSkip, Skips, has_read}
use Rattle.sh_eval.specs.Inner.Opening.{freed, opened, held_opened, closed, Opens, Shuts, FindsUses, IsBusy, is_told, is_wanted, how_of}
use Rattle.sh_eval.proofs.EndingLemmas.{blamed, kept-same}
use Rattle.sh_eval.proofs.Growing.{adds-where_free, adds-in_redirections}
use Rattle.sh_eval.proofs.RedirectionLoops.{around}
use Rattle.sh_eval.proofs.SkippingLemmas.{around-stopped}
use Rattle.sh_eval.proofs.Steps.{failed-early, meant-at, no-fewer, wanted}
use Rattle.sh_eval.proofs.SimpleSteps.{refused-at}

-- what a result says, said otherwise
pub if_ok : {Value Error : Type 0} {P Q : Value → Type 0} (result : Result Value Error) → ((value : Value) → P value → Q value) → IfOk result P → IfOk result Q
if_ok (Ok value) gives fact = gives value fact
if_ok (Err error) gives fact = tt

pub if_err : {Value Error : Type 0} {P Q : Error → Type 0} (result : Result Value Error) → ((error : Error) → P error → Q error) → IfErr result P → IfErr result Q
if_err (Ok value) gives fact = tt
if_err (Err error) gives fact = gives error fact

-- nothing is done
pub opens-none : (around_it : Expansions → Means → Means) (at : Point) → ((expansions : Expansions) (next : Means) (state : State) → around_it expansions next state ≡ next state) → Opens around_it at None at
opens-none around_it at same = λ next came last session found back.
    subst (λ (it : Session). Evaluates (λ expansions. around_it expansions (next expansions)) at came (point_of last.shell it last.tree last.seen last.faults)) (sym back)
    (meant-at (λ expansions. around_it expansions (next expansions)) next at last came (λ expansions base state has. same expansions (next expansions) state) found)

pub opens-empty : (way : Flow) (targets : List Target) (at : Point) → targets ≡ [] → Opens (λ expansions. in_redirections way targets) at None at
opens-empty way targets at none =
    subst (λ (it : List Target). Opens (λ expansions. in_redirections way it) at None at) (sym none) (opens-none (λ expansions. in_redirections way []) at (λ expansions next state. refl))

-- what is meant is the same where it begins
pub opens-meant : (first second : Expansions → Means → Means) (old mid : Point) (before : Option Before)
    → ((expansions : Expansions) (next : Means) (base : Base) (state : State) → Has base old state → first expansions next state ≡ second expansions next state)
    → Opens second old before mid → Opens first old before mid
opens-meant first second old mid before same opens = λ next came last session found back.
    meant-at (λ expansions. first expansions (next expansions)) (λ expansions. second expansions (next expansions)) old (point_of last.shell session last.tree last.seen last.faults) came
    (λ expansions base state has. same expansions (next expansions) base state has) (opens next came last session found back)

pub shuts-meant : (first second : Expansions → Means → Means) (old new : Point) (came : How)
    → ((expansions : Expansions) (next : Means) (base : Base) (state : State) → Has base old state → first expansions next state ≡ second expansions next state)
    → Shuts second old came new → Shuts first old came new
shuts-meant first second old new came same shuts = λ next adds.
    meant-at (λ expansions. first expansions (next expansions)) (λ expansions. second expansions (next expansions)) old new came
    (λ expansions base state has. same expansions (next expansions) base state has) (shuts next adds)

-- BEHIND WORDS that were expanded
module _ {Given : Type 0} (part : Expansions → (Given → Means) → Means) (around_it : Given → Expansions → Means → Means) where
  abbrev pub behind_part : Expansions → Means → Means
  behind_part expansions next = part expansions (λ given. around_it given expansions next)

  pub opens-passed : (old mid last : Point) (given : Given) (before : Option Before) → PassesOn part old given mid → Opens (around_it given) mid before last → Opens behind_part old before last
  opens-passed old mid last given before passes opens = λ next came new session found back.
      passes (λ expansions given. around_it given expansions (next expansions)) came (point_of new.shell session new.tree new.seen new.faults) (opens next came new session found back)

  pub shuts-passed : (old mid new : Point) (given : Given) (came : How) → PassesOn part old given mid → Shuts (around_it given) mid came new → Shuts behind_part old came new
  shuts-passed old mid new given came passes shuts = λ next adds. passes (λ expansions given. around_it given expansions (next expansions)) came new (shuts next adds)

  pub shuts-stopped : (old new : Point) (came : How) → ((given : Given) (expansions : Expansions) (next : Means) → Adds next → Adds (around_it given expansions next)) → StopsAt part old came new → Shuts behind_part old came new
  shuts-stopped old new came grows stops = λ next adds. stops (λ expansions given. around_it given expansions (next expansions)) (λ expansions given. grows given expansions (next expansions) (adds expansions))

-- what stands around a compound command, behind the words of its redirections
pub opens-tail : (redirs : List RedirTree) (given chosen : List Target) (old mid last : Point) (before : Option Before) → chosen ≡ given → PassesOn (λ expansions. with_targets expansions redirs) old given mid
    → Opens (λ expansions. held_opened chosen) mid before last → Opens (λ expansions. held_in expansions pages redirs) old before last
opens-tail redirs given chosen old mid last before same passes opens =
    opens-passed (λ expansions. with_targets expansions redirs) (λ targets expansions. held_opened targets) old mid last given before passes
    (subst (λ (it : List Target). Opens (λ expansions. held_opened it) mid before last) same opens)

pub shuts-tail : (redirs : List RedirTree) (given chosen : List Target) (old mid new : Point) (came : How) → chosen ≡ given → PassesOn (λ expansions. with_targets expansions redirs) old given mid
    → Shuts (λ expansions. held_opened chosen) mid came new → Shuts (λ expansions. held_in expansions pages redirs) old came new
shuts-tail redirs given chosen old mid new came same passes shuts =
    shuts-passed (λ expansions. with_targets expansions redirs) (λ targets expansions. held_opened targets) old mid new given came passes
    (subst (λ (it : List Target). Shuts (λ expansions. held_opened it) mid came new) same shuts)

-- PATHS THAT ARE FREE
pub adds-freed : (uses : State → List Use) (targets : List Target) (inner : State → Means) → ((state : State) → Adds (inner state)) → Adds (freed uses targets inner)
adds-freed uses targets inner adds state = adds-where_free (λ state. uses state ++ uses_of state targets) (inner state) (adds state) state

pub adds-opened : (way : Flow) (uses : State → List Use) (targets : List Target) (next : Means) → Adds next → Adds (opened way uses targets next)
adds-opened way uses targets next adds = adds-freed uses targets (λ at_first. in_redirections way targets next) (λ state. adds-in_redirections way targets next adds)

-- the same is found in the tree as it is now
pub finds-moved : (tree tree' : TreeState) (uses : List Use) (found : State → List Use) → tree' ≡ tree → FindsUses tree uses found → FindsUses tree' uses found
finds-moved tree tree' uses found is finds = subst (λ (it : TreeState). FindsUses it uses found) (sym is) finds

free-at : (targets : List Target) (found : State → List Use) (uses : List Use) (old : Point) (busy : Option (List ℕ)) → first_busy old.session.streams.held uses ≡ busy → FindsUses old.tree uses (λ state. found state ++ uses_of state targets)
    → (inner : State → Means) (base : Base) (state : State) → Has base old state → freed found targets inner state ≡ unless_busy busy (inner state) state
free-at targets found uses old busy is finds inner base state has =
    let here : first_busy state.session.streams.held (found state ++ uses_of state targets) ≡ busy =
    subst (λ (it : List Use). first_busy state.session.streams.held it ≡ busy) (finds state has.held has.home)
    (subst (λ (it : Session). first_busy it.streams.held uses ≡ busy) has.session is) in
    ap (λ (it : Option (List ℕ)). unless_busy it (inner state) state) here

-- those of the redirections behind those of the operands
pub finds-all : (targets : List Target) (tree : TreeState) (uses all : List Use) (found : State → List Use) → FindsUses tree uses found → FindsUses tree all (λ state. uses ++ uses_of state targets)
    → FindsUses tree all (λ state. found state ++ uses_of state targets)
finds-all targets tree uses all found of_operands of_all = λ state held home. of_all state held home ∙ ap (λ (it : List Use). it ++ uses_of state targets) (of_operands state held home)

pub finds-alone : (targets : List Target) (tree : TreeState) (uses all : List Use) → uses ≡ [] → FindsUses tree all (λ state. uses ++ uses_of state targets) → FindsUses tree all (λ state. [] ++ uses_of state targets)
finds-alone targets tree uses all none of_all = λ state held home. of_all state held home ∙ ap (λ (it : List Use). it ++ uses_of state targets) none

pub faults-so : (input output errors now before : ℕ) → now ≡ before → faults_of input output errors now ≡ faults_of input output errors before
faults-so input output errors now before same = ap (faults_of input output errors) same

-- the tree was asked, and is as it was
module _ (targets : List Target) (found : State → List Use) (uses all : List Use) (shell : Shell) (session : Session) (tree tree' : TreeState) (seen : Seen) (faults faults' : Faults)
    (free : first_busy session.streams.held all ≡ None) (operands : FindsUses tree uses found) (looked : FindsUses tree all (λ state. uses ++ uses_of state targets)) (tree_is : tree' ≡ tree) (faults_is : faults' ≡ faults) where
  pub opens-free : (way : Flow) (before : Option Before) (mid : Point) → Opens (λ expansions. in_redirections way targets) (point_of shell session tree' seen faults') before mid
      → Opens (λ expansions. opened way found targets) (point_of shell session tree seen faults) before mid
  opens-free way before mid opens =
      opens-meant (λ expansions. opened way found targets) (λ expansions. in_redirections way targets) (point_of shell session tree seen faults) mid before
      (λ expansions next base state has. free-at targets found all (point_of shell session tree seen faults) None free (finds-all targets tree uses all found operands looked) (λ at_first. in_redirections way targets next) base state has)
      (subst (λ (it : TreeState). Opens (λ expansions. in_redirections way targets) (point_of shell session it seen faults) before mid) tree_is
      (subst (λ (it : Faults). Opens (λ expansions. in_redirections way targets) (point_of shell session tree' seen it) before mid) faults_is opens))

  pub shuts-free : (way : Flow) (came : How) (new : Point) → Shuts (λ expansions. in_redirections way targets) (point_of shell session tree' seen faults') came new
      → Shuts (λ expansions. opened way found targets) (point_of shell session tree seen faults) came new
  shuts-free way came new shuts =
      shuts-meant (λ expansions. opened way found targets) (λ expansions. in_redirections way targets) (point_of shell session tree seen faults) new came
      (λ expansions next base state has. free-at targets found all (point_of shell session tree seen faults) None free (finds-all targets tree uses all found operands looked) (λ at_first. in_redirections way targets next) base state has)
      (subst (λ (it : TreeState). Shuts (λ expansions. in_redirections way targets) (point_of shell session it seen faults) came new) tree_is
      (subst (λ (it : Faults). Shuts (λ expansions. in_redirections way targets) (point_of shell session tree' seen it) came new) faults_is shuts))

-- the tree failed, or memory was wanted
pub looked-in-vain : (why : WorldErr) (means : Meaning) → ((expansions : Expansions) → Adds (means expansions)) → (shell : Shell) (session : Session) (tree tree' : TreeState) (seen : Seen) (input output errors before now : ℕ)
    → tree' ≡ tree → before ≤ now → (why ≡ error.Failed → Rose before now)
    → Evaluates means (point_of shell session tree seen (faults_of input output errors before)) (how_of why) (point_of shell session tree' seen (faults_of input output errors now))
looked-in-vain error.Failed means adds shell session tree tree' seen input output errors before now tree_is later failed =
    rw tree_is (failed-early means adds shell shell session tree seen (faults_of input output errors before) (faults_of input output errors now) how.TreeFault (λ gone. gone)
    (record { input = omega arith; output = omega arith; errors = omega arith; tree = later }) (failed refl))
looked-in-vain error.Memory means adds shell session tree tree' seen input output errors before now tree_is later failed =
    rw tree_is (failed-early means adds shell shell session tree seen (faults_of input output errors before) (faults_of input output errors now) how.Memory (λ gone. gone)
    (record { input = omega arith; output = omega arith; errors = omega arith; tree = later }) tt)

-- a path is busy
pub busy-so : (text : List ℕ) (targets : List Target) (found : State → List Use) (uses all : List Use) (shell : Shell) (session : Session) (tree tree' : TreeState) (seen : Seen) (faults faults' : Faults) (came : How)
    → first_busy session.streams.held all ≡ Some text → FindsUses tree uses found → FindsUses tree all (λ state. uses ++ uses_of state targets) → tree' ≡ tree → faults' ≡ faults → IsBusy came text
    → (inner : Expansions → State → Means) → ((expansions : Expansions) (state : State) → Adds (inner expansions state))
    → Evaluates (λ expansions. freed found targets (inner expansions)) (point_of shell session tree seen faults) came (point_of shell session tree' seen faults')
busy-so text targets found uses all shell session tree tree' seen faults faults' came busy operands looked tree_is faults_is (is_told came_is) inner adds =
    rw came_is rw tree_is rw faults_is
    (refused-at (refusal.PathBusy text) (λ expansions. freed found targets (inner expansions)) shell session tree seen faults
    (λ expansions base state has. sym (free-at targets found all (point_of shell session tree seen faults) (Some text) busy (finds-all targets tree uses all found operands looked) (inner expansions) base state has)))
busy-so text targets found uses all shell session tree tree' seen faults faults' came busy operands looked tree_is faults_is (is_wanted came_is) inner adds =
    rw came_is rw tree_is rw faults_is
    (wanted (λ expansions. freed found targets (inner expansions)) (point_of shell session tree seen faults) (λ expansions. adds-freed found targets (inner expansions) (adds expansions)))

-- REDIRECTIONS that are done, and those of which one stopped
pub opens-led : (way : Flow) (targets : List Target) (old mid : Point) (first before : Before) → 0 < length targets → first ≡ before_in old.session.streams
    → Remembers (has_read targets) old.session.streams.from mid.session.streams.from first before → Reaches (λ way. redirecting way targets) (λ way next. next) old mid
    → Opens (λ expansions. in_redirections way targets) old (Some before) mid
opens-led way [] old mid first before some begun kept reaches = absurd (omega (arith, some))
opens-led way (target ∷ targets) old mid first before some begun kept reaches = λ next came last session found back.
    around way target targets next old mid last came first before session begun kept reaches found back

pub shuts-led : (why : RedirectionError) (way : Flow) (targets : List Target) (old mid last : Point) (came : How) (first before : Before) (session : Session) → 0 < length targets → first ≡ before_in old.session.streams
    → RemembersSome targets old.session.streams.from mid.session.streams.from first before → DoesAll targets old mid (Err why) → Skips why way mid came last
    → last.session.streams ≡ mid.session.streams → session ≡ in_streams (put_back before) last.session
    → Shuts (λ expansions. in_redirections way targets) old came (point_of last.shell session last.tree last.seen last.faults)
shuts-led why way [] old mid last came first before session some begun kept does skips streams back = absurd (omega (arith, some))
shuts-led why way (target ∷ targets) old mid last came first before session some begun kept does skips streams back = λ next adds.
    around-stopped why way target targets next old mid last came first before session adds begun kept does skips streams back

-- a line can be told where one stopped
pub can-skip : (why : RedirectionError) (targets : List Target) (old new : Point) → DoesAll targets old new (Err why) → IsSound old.session old.tree → CanSkip why new.session new.tree
can-skip (stop.Line line) targets old new does sound = does.leaves_on.sound sound
can-skip stop.Tree targets old new does sound = tt
can-skip stop.Memory targets old new does sound = tt

-- PATHS THAT ARE HELD
held-none : (uses : List Use) (state : State) → holding uses state ≡ in_session (in_streams (λ streams. record streams { held = streams.held ++ held_by uses })) state
held-none [] state = ap (λ (it : List Held). in_session (in_streams (λ streams. record streams { held = it })) state) (sym (append-nil state.session.streams.held))
held-none (first ∷ uses) state = refl

pub adds-held : (uses : List Use) (next : Means) → Adds next → Adds (λ inner. next (holding uses inner))
adds-held [] next adds state = adds state
adds-held (first ∷ uses) next adds state = adds (holding (first ∷ uses) state)

pub adds-held_opened : (targets : List Target) (next : Means) → Adds next → Adds (held_opened targets next)
adds-held_opened targets next adds =
    adds-freed (λ at_first. []) targets (λ at_first. in_redirections flow.On targets (λ inner. next (holding (uses_of at_first targets) inner)))
    (λ at_first. adds-in_redirections flow.On targets (λ inner. next (holding (uses_of at_first targets) inner)) (adds-held (uses_of at_first targets) next adds))

-- what is evaluated while they are held
held-before : (uses : List Use) (next : Meaning) (shell : Shell) (session session' : Session) (tree : TreeState) (seen : Seen) (faults : Faults) (came : How) (last : Point)
    → session' ≡ in_streams (λ streams. record streams { held = streams.held ++ held_by uses }) session → Evaluates next (point_of shell session' tree seen faults) came last
    → Evaluates (λ expansions state. next expansions (holding uses state)) (point_of shell session tree seen faults) came last
held-before uses next shell session session' tree seen faults came last is found =
    let one : Evaluates next (point_of shell (in_streams (λ streams. record streams { held = streams.held ++ held_by uses }) session) tree seen faults) came last =
    subst (λ (it : Session). Evaluates next (point_of shell it tree seen faults) came last) is found in
    record {
      comes = λ expansions are base state has.
          subst (λ (it : State). Comes base came last (next expansions it)) (sym (held-none uses state))
          (one.comes expansions are base (in_session (in_streams (λ streams. record streams { held = streams.held ++ held_by uses })) state)
          (record { shell = has.shell; session = ap (in_streams (λ streams. record streams { held = streams.held ++ held_by uses })) has.session; home = has.home; held = has.held; kept = has.kept; seen = has.seen }));
      keeps = λ gone. let keeps = one.keeps gone in record { whole = keeps.whole; files = keeps.files; output = keeps.output; errors = keeps.errors };
      turns = one.turns;
      later = one.later;
      cause = one.cause;
      lent = one.lent;
    }

pub held-so : (session : Session) (held : List Held) (slice all : List Use) → slice ≡ all → held ≡ session.streams.held ++ held_by slice
    → in_streams (λ streams. record streams { held = held }) session ≡ in_streams (λ streams. record streams { held = streams.held ++ held_by all }) session
held-so session held slice all same is = ap (λ (it : List Held). in_streams (λ streams. record streams { held = it }) session) (is ∙ ap (λ (it : List Use). session.streams.held ++ held_by it) same)

module _ (targets : List Target) (all : List Use) (shell : Shell) (session : Session) (tree tree' : TreeState) (seen : Seen) (faults faults' : Faults)
    (free : first_busy session.streams.held all ≡ None) (looked : FindsUses tree all (λ state. [] ++ uses_of state targets)) (tree_is : tree' ≡ tree) (faults_is : faults' ≡ faults) where
  held-at : (expansions : Expansions) (next : Means) (base : Base) (state : State) → Has base (point_of shell session tree seen faults) state
      → held_opened targets next state ≡ in_redirections flow.On targets (λ inner. next (holding all inner)) state
  held-at expansions next base state has =
      free-at targets (λ at_first. []) all (point_of shell session tree seen faults) None free looked (λ at_first. in_redirections flow.On targets (λ inner. next (holding (uses_of at_first targets) inner))) base state has
      ∙ ap (λ (it : List Use). in_redirections flow.On targets (λ inner. next (holding it inner)) state) (sym (looked state has.held has.home))

  pub opens-held : (before : Option Before) (shell_in : Shell) (session_in session_held : Session) (tree_in : TreeState) (seen_in : Seen) (faults_in : Faults)
      → Opens (λ expansions. in_redirections flow.On targets) (point_of shell session tree' seen faults') before (point_of shell_in session_in tree_in seen_in faults_in)
      → session_held ≡ in_streams (λ streams. record streams { held = streams.held ++ held_by all }) session_in
      → Opens (λ expansions. held_opened targets) (point_of shell session tree seen faults) before (point_of shell_in session_held tree_in seen_in faults_in)
  opens-held before shell_in session_in session_held tree_in seen_in faults_in opens held =
      opens-meant (λ expansions. held_opened targets) (λ expansions next. in_redirections flow.On targets (λ inner. next (holding all inner))) (point_of shell session tree seen faults) (point_of shell_in session_held tree_in seen_in faults_in) before held-at
      (λ next came last session_back found back.
      subst (λ (it : TreeState). Evaluates (λ expansions. in_redirections flow.On targets (λ inner. next expansions (holding all inner))) (point_of shell session it seen faults) came (point_of last.shell session_back last.tree last.seen last.faults)) tree_is
      (subst (λ (it : Faults). Evaluates (λ expansions. in_redirections flow.On targets (λ inner. next expansions (holding all inner))) (point_of shell session tree' seen it) came (point_of last.shell session_back last.tree last.seen last.faults)) faults_is
      (opens (λ expansions inner. next expansions (holding all inner)) came last session_back
      (held-before all next shell_in session_in session_held tree_in seen_in faults_in came last held found) back)))

  pub shuts-held : (came : How) (new : Point) → Shuts (λ expansions. in_redirections flow.On targets) (point_of shell session tree' seen faults') came new
      → Shuts (λ expansions. held_opened targets) (point_of shell session tree seen faults) came new
  shuts-held came new shuts = λ next adds.
      meant-at (λ expansions. held_opened targets (next expansions)) (λ expansions. in_redirections flow.On targets (λ inner. next expansions (holding all inner))) (point_of shell session tree seen faults) new came
      (λ expansions base state has. held-at expansions (next expansions) base state has)
      (subst (λ (it : TreeState). Evaluates (λ expansions. in_redirections flow.On targets (λ inner. next expansions (holding all inner))) (point_of shell session it seen faults) came new) tree_is
      (subst (λ (it : Faults). Evaluates (λ expansions. in_redirections flow.On targets (λ inner. next expansions (holding all inner))) (point_of shell session tree' seen it) came new) faults_is
      (shuts (λ expansions inner. next expansions (holding all inner)) (λ expansions. adds-held all (next expansions) (adds expansions)))))

  -- memory was wanted to hold them
  pub shuts-unheld : (before : Option Before) (shell_in : Shell) (session_in session_held session_back : Session) (tree_in : TreeState) (seen_in : Seen) (faults_in : Faults)
      → Opens (λ expansions. in_redirections flow.On targets) (point_of shell session tree' seen faults') before (point_of shell_in session_in tree_in seen_in faults_in)
      → session_held.turns ≡ session_in.turns → session_back ≡ closed before session_held
      → Shuts (λ expansions. held_opened targets) (point_of shell session tree seen faults) how.Memory (point_of shell_in session_back tree_in seen_in faults_in)
  shuts-unheld before shell_in session_in session_held session_back tree_in seen_in faults_in opens turns back =
      shuts-held how.Memory (point_of shell_in session_back tree_in seen_in faults_in)
      (λ next adds. opens next how.Memory (point_of shell_in session_held tree_in seen_in faults_in) session_back
      (blamed next (point_of shell_in session_in tree_in seen_in faults_in) (point_of shell_in session_held tree_in seen_in faults_in) how.Memory adds (λ gone. gone) refl refl
      (kept-same next (point_of shell_in session_in tree_in seen_in faults_in) tree_in.held adds refl)
      (subst (λ (it : ℕ). session_in.turns ≤ it) (sym turns) (omega arith)) (no-fewer faults_in) tt (balanced-none tree_in)) back)
