-- What is evaluated of lists, pipelines and subshells comes of what is evaluated of the commands in them.
use Rattle.std.proofs.Common.{◌≡◌, ◌<◌, ◌≤◌, ◌+◌, ℕ, List, [], ◌∷◌, true, false, length, get_or, drop, zero, suc, ◌-◌, length-drop, refl, sym, ap, ◌∙◌, subst, add-one, arith}
use Rattle.std.proofs.Math.Seq.{drop-cons}
use Rattle.std.proofs.Math.ListN.{drop_of_length-le}
use Rattle.ps_world.specs.TreeState.{TreeState}
use Rattle.sh_tree.specs.Trees.{item, joined}
use Rattle.sh_tree.specs.Views.{and_or_tree, pipeline_tree, items_tree, joined_tree, stages_tree, command_tree}
use Rattle.sh_tree.specs.declared.commands.AndOr.{AndOr}
use Rattle.sh_tree.specs.declared.commands.Pipeline.{Pipeline}
use Rattle.sh_tree.specs.declared.commands.Join.{Join}
use Rattle.sh_tree.specs.declared.commands.Command.TheViews.{out-AndOr}
use Rattle.sh_tree.proofs.TreeLemmas.{and_or_tree-is, pipeline_tree-is}
use Rattle.sh_expand.specs.Outcomes.{Expansions}
use Rattle.sh_eval.specs.declared.flows.Flow.{Flow}
use Rattle.sh_eval.specs.declared.flows.Flow.TheVariants as flow
use Rattle.sh_eval.specs.declared.outcomes.How.{How}
use Rattle.sh_eval.specs.declared.outcomes.How.TheVariants as how
use Rattle.sh_eval.specs.declared.session.Session.{Session}
use Rattle.sh_eval.specs.declared.streams.From.{From}
use Rattle.sh_eval.specs.declared.streams.To.{To}
use Rattle.sh_eval.specs.declared.shell.Shell.{Shell}
use Rattle.sh_eval.specs.Shells.{inside, with_status}
use Rattle.sh_eval.specs.States.{State, Ends, Means, ends, on, after, followed_by, innermost, piping, reading, unpiped}
use Rattle.sh_eval.specs.declared.outcomes.Position.{Position}
use Rattle.sh_eval.specs.declared.outcomes.Position.TheVariants as position
use Rattle.sh_eval.specs.declared.staging.Aside.{Aside}
use Rattle.sh_eval.specs.declared.staging.Aside.TheVariants as aside
use Rattle.sh_eval.specs.Commands.{apart, handed_on, settled, negated, negated_status, joined_by, goes_on_behind, first_stage, its_status, last_stage, reading_piped, staged, position_at, unchanged}
use Rattle.sh_eval.specs.Inner.Staging.{IsAside, back_to, entering, rest_means, status_kept}
use Rattle.sh_eval.specs.Growth.{Adds}
use Rattle.sh_eval.specs.Contract.{Seen, Faults, Point, point_of, Base, Has, Comes, HasCause, IsGone, Keeps, goes_on, settled_how, Meaning, Evaluates}
use Rattle.sh_eval.specs.Meaning.{list_means, and_or_means, joined_means, pipeline_means, stages_means, later_stages_mean, command_means}
use Rattle.sh_eval.specs.Table.{pages}
use Rattle.sh_eval.proofs.Growing.{list-adds, joined-adds, stages-adds, later-adds, adds-negated, adds-staged, same-turns}
use Rattle.sh_eval.proofs.Steps.{followed, stopped, nothing, wanted, no-fewer, held-none, meant-at}
use Rattle.ps_world.proofs.TreeStateLemmas.{balanced-none}
use Rattle.std.proofs.lemmas.Bool.{cond-true, cond-false}
use Rattle.sh_tree.specs.declared.commands.Command.{Command}

-- LISTS
pub items-step : (items : List AndOr) (place : ℕ) (one : AndOr) → one ≡ get_or items place one → place < length items
    → items_tree (drop place items) ≡ item (and_or_tree one) (items_tree (drop (place + 1) items))
items-step items place one here below =
    let cut : drop place items ≡ get_or items place one ∷ drop (place + 1) items = rw add-one (drop-cons items place one below) in
    ap items_tree cut ∙ ap (λ (it : AndOr). item (and_or_tree it) (items_tree (drop (place + 1) items))) (sym here)

pub items-followed : (items : List AndOr) (place : ℕ) (one : AndOr) (old mid new : Point) (came then_how : How) → one ≡ get_or items place one → place < length items
    → goes_on came ≡ true → Evaluates (λ expansions. and_or_means expansions pages (and_or_tree one)) old came mid
    → Evaluates (λ expansions. list_means expansions pages (items_tree (drop (place + 1) items))) mid then_how new
    → Evaluates (λ expansions. list_means expansions pages (items_tree (drop place items))) old then_how new
items-followed items place one old mid new came then_how here below is first rest =
    rw (items-step items place one here below)
    (followed (λ expansions. and_or_means expansions pages (and_or_tree one)) (λ expansions. list_means expansions pages (items_tree (drop (place + 1) items)))
    old mid new came then_how is first rest)

pub items-stopped : (items : List AndOr) (place : ℕ) (one : AndOr) (old new : Point) (came : How) → one ≡ get_or items place one → place < length items
    → goes_on came ≡ false → Evaluates (λ expansions. and_or_means expansions pages (and_or_tree one)) old came new
    → Evaluates (λ expansions. list_means expansions pages (items_tree (drop place items))) old came new
items-stopped items place one old new came here below is first =
    rw (items-step items place one here below)
    (stopped (λ expansions. and_or_means expansions pages (and_or_tree one)) (λ expansions. list_means expansions pages (items_tree (drop (place + 1) items)))
    old new came is (λ expansions. list-adds expansions pages (items_tree (drop (place + 1) items))) first)

pub items-done : (items : List AndOr) (place : ℕ) (at : Point) → length items ≤ place → Evaluates (λ expansions. list_means expansions pages (items_tree (drop place items))) at (how.Gone flow.On) at
items-done items place at over = rw (drop_of_length-le items over) (nothing at)

-- AND-OR LISTS
pub and_or-followed : (it : AndOr) (rest : List (Join × Pipeline)) (old mid new : Point) (came then_how : How) → rest ≡ (out-AndOr it).rest.items → goes_on came ≡ true
    → Evaluates (λ expansions. pipeline_means expansions pages (pipeline_tree (out-AndOr it).first)) old came mid
    → Evaluates (λ expansions. joined_means expansions pages (joined_tree rest)) mid then_how new
    → Evaluates (λ expansions. and_or_means expansions pages (and_or_tree it)) old then_how new
and_or-followed it rest old mid new came then_how same is first others =
    rw (and_or_tree-is it)
    (followed (λ expansions. pipeline_means expansions pages (pipeline_tree (out-AndOr it).first)) (λ expansions. joined_means expansions pages (joined_tree (out-AndOr it).rest.items))
    old mid new came then_how is first (subst (λ (rest : List (Join × Pipeline)). Evaluates (λ expansions. joined_means expansions pages (joined_tree rest)) mid then_how new) same others))

pub and_or-stopped : (it : AndOr) (old new : Point) (came : How) → goes_on came ≡ false
    → Evaluates (λ expansions. pipeline_means expansions pages (pipeline_tree (out-AndOr it).first)) old came new
    → Evaluates (λ expansions. and_or_means expansions pages (and_or_tree it)) old came new
and_or-stopped it old new came is first =
    rw (and_or_tree-is it)
    (stopped (λ expansions. pipeline_means expansions pages (pipeline_tree (out-AndOr it).first)) (λ expansions. joined_means expansions pages (joined_tree (out-AndOr it).rest.items))
    old new came is (λ expansions. joined-adds expansions pages (joined_tree (out-AndOr it).rest.items)) first)

-- PIPELINES
pub pipeline-stopped : (it : Pipeline) (stages : List Command) (old new : Point) (came : How) → stages ≡ it.stages.items → goes_on came ≡ false
    → Evaluates (λ expansions. stages_means expansions pages (stages_tree stages)) old came new
    → Evaluates (λ expansions. pipeline_means expansions pages (pipeline_tree it)) old came new
pipeline-stopped it stages old new came same is found =
    let first = subst (λ (stages : List Command). Evaluates (λ expansions. stages_means expansions pages (stages_tree stages)) old came new) same found in
    rw (pipeline_tree-is it)
    (stopped (λ expansions. stages_means expansions pages (stages_tree it.stages.items)) (λ expansions. negated it.negated) old new came is (λ expansions. adds-negated it.negated) first)

-- the meaning hangs on the shell alone
pub meant : (first second : Meaning) (old new : Point) (came : How) → ((expansions : Expansions) (state : State) → old.shell ≡ state.shell → first expansions state ≡ second expansions state)
    → Evaluates first old came new → Evaluates second old came new
meant first second old new came same one = meant-at second first old new came (λ expansions base state has. sym (same expansions state has.shell)) one

-- JOINED PIPELINES
pub next-runs : (how : Join) (next : Pipeline) (old new : Point) (came : How) → goes_on_behind how old.shell.status ≡ true
    → Evaluates (λ expansions. pipeline_means expansions pages (pipeline_tree next)) old came new
    → Evaluates (λ expansions. joined_by how (pipeline_means expansions pages (pipeline_tree next))) old came new
next-runs how next old new came runs =
    meant (λ expansions. pipeline_means expansions pages (pipeline_tree next)) (λ expansions. joined_by how (pipeline_means expansions pages (pipeline_tree next))) old new came
    (λ expansions state same. sym (cond-true (goes_on_behind how state.shell.status) (pipeline_means expansions pages (pipeline_tree next) state) (on state)
    (ap (λ (shell : Shell). goes_on_behind how shell.status) (sym same) ∙ runs)))

pub next-skipped : (join : Join) (next : Pipeline) (old : Point) → goes_on_behind join old.shell.status ≡ false
    → Evaluates (λ expansions. joined_by join (pipeline_means expansions pages (pipeline_tree next))) old (how.Gone flow.On) old
next-skipped join next old skips =
    meant (λ expansions. on) (λ expansions. joined_by join (pipeline_means expansions pages (pipeline_tree next))) old old (how.Gone flow.On)
    (λ expansions state same. sym (cond-false (goes_on_behind join state.shell.status) (pipeline_means expansions pages (pipeline_tree next) state) (on state)
    (ap (λ (shell : Shell). goes_on_behind join shell.status) (sym same) ∙ skips)))
    (nothing old)

joined-step : (rest : List (Join × Pipeline)) (place : ℕ) (one : Join × Pipeline) → one ≡ get_or rest place one → place < length rest
    → joined_tree (drop place rest) ≡ joined one.0 (pipeline_tree one.1) (joined_tree (drop (place + 1) rest))
joined-step rest place one here below =
    let cut : drop place rest ≡ get_or rest place one ∷ drop (place + 1) rest = rw add-one (drop-cons rest place one below) in
    ap joined_tree cut ∙ ap (λ (it : Join × Pipeline). joined it.0 (pipeline_tree it.1) (joined_tree (drop (place + 1) rest))) (sym here)

pub joined-followed : (rest : List (Join × Pipeline)) (place : ℕ) (one : Join × Pipeline) (old mid new : Point) (came then_how : How) → one ≡ get_or rest place one → place < length rest
    → goes_on came ≡ true → Evaluates (λ expansions. joined_by one.0 (pipeline_means expansions pages (pipeline_tree one.1))) old came mid
    → Evaluates (λ expansions. joined_means expansions pages (joined_tree (drop (place + 1) rest))) mid then_how new
    → Evaluates (λ expansions. joined_means expansions pages (joined_tree (drop place rest))) old then_how new
joined-followed rest place one old mid new came then_how here below is first others =
    rw (joined-step rest place one here below)
    (followed (λ expansions. joined_by one.0 (pipeline_means expansions pages (pipeline_tree one.1))) (λ expansions. joined_means expansions pages (joined_tree (drop (place + 1) rest)))
    old mid new came then_how is first others)

pub joined-stopped : (rest : List (Join × Pipeline)) (place : ℕ) (one : Join × Pipeline) (old new : Point) (came : How) → one ≡ get_or rest place one → place < length rest
    → goes_on came ≡ false → Evaluates (λ expansions. joined_by one.0 (pipeline_means expansions pages (pipeline_tree one.1))) old came new
    → Evaluates (λ expansions. joined_means expansions pages (joined_tree (drop place rest))) old came new
joined-stopped rest place one old new came here below is first =
    rw (joined-step rest place one here below)
    (stopped (λ expansions. joined_by one.0 (pipeline_means expansions pages (pipeline_tree one.1))) (λ expansions. joined_means expansions pages (joined_tree (drop (place + 1) rest)))
    old new came is (λ expansions. joined-adds expansions pages (joined_tree (drop (place + 1) rest))) first)

pub joined-done : (rest : List (Join × Pipeline)) (place : ℕ) (at : Point) → length rest ≤ place → Evaluates (λ expansions. joined_means expansions pages (joined_tree (drop place rest))) at (how.Gone flow.On) at
joined-done rest place at over = rw (drop_of_length-le rest over) (nothing at)

-- a pipeline's status
pub pipeline-followed : (it : Pipeline) (commands : List Command) (old mid : Point) (came : How) → commands ≡ it.stages.items → goes_on came ≡ true
    → Evaluates (λ expansions. stages_means expansions pages (stages_tree commands)) old came mid
    → (shell : Shell) → shell ≡ with_status (negated_status it.negated mid.shell.status) mid.shell
    → Evaluates (λ expansions. pipeline_means expansions pages (pipeline_tree it)) old (how.Gone flow.On) (point_of shell mid.session mid.tree mid.seen mid.faults)
pipeline-followed it commands old mid came same is found shell turned =
    let stages = subst (λ (commands : List Command). Evaluates (λ expansions. stages_means expansions pages (stages_tree commands)) old came mid) same found in
    rw (pipeline_tree-is it)
    (followed (λ expansions. stages_means expansions pages (stages_tree it.stages.items)) (λ expansions. negated it.negated) old mid (point_of shell mid.session mid.tree mid.seen mid.faults) came (how.Gone flow.On) is stages
    (record {
      comes = λ expansions are base state has. record {
        flow = refl;
        has = record {
          shell = turned ∙ ap (λ (shell : Shell). with_status (negated_status it.negated shell.status) shell) has.shell;
          session = has.session;
          home = has.home;
          held = has.held;
          kept = has.kept;
          seen = has.seen;
        };
      };
      keeps = λ ended. record { whole = λ held. held; files = held-none mid.tree.held; output = refl; errors = refl };
      turns = omega arith;
      later = no-fewer mid.faults;
      cause = refl;
      lent = balanced-none mid.tree;
    }))

-- STAGES
pub rest-adds : (expansions : Expansions) (place : ℕ) (stages : List Command) → Adds (rest_means expansions place stages)
rest-adds expansions zero stages state = stages-adds expansions pages (stages_tree stages) state
rest-adds expansions (suc place) stages state = later-adds expansions pages (stages_tree stages) state

pub after-on : (left : Ends) → left ≡ after left on
after-on left = by_flow left.flow left.state
  where
    by_flow : (it : Flow) (state : State) → ends it state ≡ followed_by on it state
    by_flow flow.On state = refl
    by_flow (flow.Break count) state = refl
    by_flow (flow.Continue count) state = refl
    by_flow flow.Exit state = refl
    by_flow (flow.Refused cause) state = refl

one-left : (place : ℕ) (one : Command) (rest : List Command) → (length (one ∷ rest) ≡ 1 → ⊥) → (expansions : Expansions) (state : State)
    → stages_means expansions pages (stages_tree (one ∷ rest)) state
    ≡ after (first_stage (command_means expansions pages (command_tree one)) state) (later_stages_mean expansions pages (stages_tree rest))
one-left place one [] several expansions state = absurd (several refl)
one-left place one (next ∷ rest) several expansions state = refl

pub rest-later : (expansions : Expansions) (place : ℕ) (stages : List Command) → 1 ≤ place → rest_means expansions place stages ≡ later_stages_mean expansions pages (stages_tree stages)
rest-later expansions zero stages some = absurd (omega (arith, some))
rest-later expansions (suc place) stages some = refl

later-left : (before : ℕ) (one : Command) (rest : List Command) (expansions : Expansions) (state : State)
    → later_stages_mean expansions pages (stages_tree (one ∷ rest)) state
    ≡ after (staged (position_at (suc before) (length rest)) (command_means expansions pages (command_tree one)) state) (later_stages_mean expansions pages (stages_tree rest))
later-left before one [] expansions state = after-on (last_stage (command_means expansions pages (command_tree one)) state)
later-left before one (next ∷ rest) expansions state = refl

-- how many stand behind those up to a place
pub behind-those : (stages : List Command) (place count : ℕ) → length (drop (place + count) stages) ≡ length stages - place - count
behind-those stages place count = let size = length-drop (place + count) stages in omega (arith, size)

stage-step : (stages : List Command) (place : ℕ) (one : Command) → one ≡ get_or stages place one → place < length stages → (length stages ≡ 1 → ⊥) → (expansions : Expansions) (state : State)
    → rest_means expansions place (drop place stages) state
    ≡ after (staged (position_at place (length stages - place - 1)) (command_means expansions pages (command_tree one)) state) (rest_means expansions (place + 1) (drop (place + 1) stages))
stage-step [] zero one here below several expansions state = elim below [ ]
stage-step (first ∷ rest) zero one here below several expansions state = rw here (one-left 0 first rest several expansions state)
stage-step stages (suc place) one here below several expansions state =
    let cut : drop (suc place) stages ≡ get_or stages (suc place) one ∷ drop (suc place + 1) stages = rw add-one (drop-cons stages (suc place) one below) in
    let whole : drop (suc place) stages ≡ one ∷ drop (suc place + 1) stages = cut ∙ ap (λ (it : Command). it ∷ drop (suc place + 1) stages) (sym here) in
    rw whole
    (later-left place one (drop (suc place + 1) stages) expansions state
    ∙ ap (λ (it : ℕ). after (staged (position_at (suc place) it) (command_means expansions pages (command_tree one)) state) (later_stages_mean expansions pages (stages_tree (drop (suc place + 1) stages))))
    (behind-those stages (suc place) 1)
    ∙ ap (λ (it : Means). after (staged (position_at (suc place) (length stages - suc place - 1)) (command_means expansions pages (command_tree one)) state) it)
    (sym (rest-later expansions (suc place + 1) (drop (suc place + 1) stages) (omega arith))))

module _ (stages : List Command) (place : ℕ) (one : Command) (position : Position) (at : position ≡ position_at place (length stages - place - 1)) (here : one ≡ get_or stages place one)
    (below : place < length stages) (several : length stages ≡ 1 → ⊥) where
  abbrev stage_means : Meaning
  stage_means expansions = staged position (command_means expansions pages (command_tree one))

  abbrev stages_behind : Meaning
  stages_behind expansions = rest_means expansions (place + 1) (drop (place + 1) stages)

  step-here : (expansions : Expansions) (state : State) → rest_means expansions place (drop place stages) state ≡ after (stage_means expansions state) (stages_behind expansions)
  step-here expansions state =
      stage-step stages place one here below several expansions state
      ∙ ap (λ (it : Position). after (staged it (command_means expansions pages (command_tree one)) state) (stages_behind expansions)) (sym at)

  pub stages-followed : (old mid new : Point) (came then_how : How) → goes_on came ≡ true → Evaluates stage_means old came mid → Evaluates stages_behind mid then_how new
      → Evaluates (λ expansions. rest_means expansions place (drop place stages)) old then_how new
  stages-followed old mid new came then_how is stage others =
      meant (λ expansions state. after (stage_means expansions state) (stages_behind expansions)) (λ expansions. rest_means expansions place (drop place stages)) old new then_how
      (λ expansions state same. sym (step-here expansions state)) (followed stage_means stages_behind old mid new came then_how is stage others)

  pub stages-stopped : (old new : Point) (came : How) → goes_on came ≡ false → Evaluates stage_means old came new → Evaluates (λ expansions. rest_means expansions place (drop place stages)) old came new
  stages-stopped old new came is stage =
      meant (λ expansions state. after (stage_means expansions state) (stages_behind expansions)) (λ expansions. rest_means expansions place (drop place stages)) old new came
      (λ expansions state same. sym (step-here expansions state))
      (stopped stage_means stages_behind old new came is (λ expansions. rest-adds expansions (place + 1) (drop (place + 1) stages)) stage)

pub stages-done : (stages : List Command) (place : ℕ) (at : Point) → length stages ≤ place → Evaluates (λ expansions. rest_means expansions place (drop place stages)) at (how.Gone flow.On) at
stages-done stages zero at over = rw (drop_of_length-le stages over) (nothing at)
stages-done stages (suc place) at over = rw (drop_of_length-le stages over) (nothing at)

-- SUBSHELLS
ap3 : {A B C D : Type 0} (f : A → B → C → D) (a a' : A) (b b' : B) (c c' : C) → a ≡ a' → b ≡ b' → c ≡ c' → f a b c ≡ f a' b' c'
ap3 f a a' b b' c c' first second third = ap (λ it. f it b c) first ∙ ap (λ it. f a' it c) second ∙ ap (f a' b') third

ap2 : {A B C : Type 0} (f : A → B → C) (a a' : A) (b b' : B) → a ≡ a' → b ≡ b' → f a b ≡ f a' b'
ap2 f a a' b b' first second = ap (λ it. f it b) first ∙ ap (f a') second

gone-settled : (came : How) → IsGone (settled_how came) → IsGone came
gone-settled (how.Gone it) gone = tt
gone-settled how.ReadFault gone = gone
gone-settled how.WriteFault gone = gone
gone-settled how.TreeFault gone = gone
gone-settled how.Memory gone = gone

cause-settled : (came : How) (old new : Faults) → HasCause came old new → HasCause (settled_how came) old new
cause-settled (how.Gone it) old new cause = cause
cause-settled how.ReadFault old new cause = cause
cause-settled how.WriteFault old new cause = cause
cause-settled how.TreeFault old new cause = cause
cause-settled how.Memory old new cause = cause

-- what is written goes where it went
pub record SameOutputs (old new : Session) : Type 0 where
  pub output : new.streams.to ≡ old.streams.to
  pub errors : new.streams.errors_to ≡ old.streams.errors_to

module _ (means : Meaning) (enter : Session → Session) (leave : Session → Session → Session) (takes_over : Shell → Shell → Session → Shell) where
  inner_has : (base : Base) (shell : Shell) (session : Session) (tree : TreeState) (seen : Seen) (faults : Faults) (state : State) → Has base (point_of shell session tree seen faults) state
      → Has base (point_of (inside shell) (enter session) tree seen faults) (record { shell = inside state.shell; session = enter state.session; world = state.world })
  inner_has base shell session tree seen faults state has =
      record { shell = ap inside has.shell; session = ap enter has.session; home = has.home; held = has.held; kept = has.kept; seen = has.seen }

  outer_comes : (base : Base) (shell : Shell) (session : Session) (state : State) (came : How) (at : Point)
      → shell ≡ state.shell → session ≡ state.session → (expansions : Expansions)
      → Comes base came at (means expansions (record { shell = inside state.shell; session = enter state.session; world = state.world }))
      → Comes base (settled_how came) (point_of (takes_over shell at.shell at.session) (leave session at.session) at.tree at.seen at.faults) (apart enter leave takes_over (means expansions) state)
  outer_comes base shell session state (how.Gone it) at shell_is session_is expansions ended =
      record {
        flow = ap settled ended.flow;
        has = record {
          shell = ap3 takes_over shell state.shell at.shell _ at.session _ shell_is ended.has.shell ended.has.session;
          session = ap2 leave session state.session at.session _ session_is ended.has.session;
          home = ended.has.home;
          held = ended.has.held;
          kept = ended.has.kept;
          seen = ended.has.seen;
        };
      }
  outer_comes base shell session state how.ReadFault at shell_is session_is expansions behind = behind
  outer_comes base shell session state how.WriteFault at shell_is session_is expansions behind = behind
  outer_comes base shell session state how.TreeFault at shell_is session_is expansions behind = behind
  outer_comes base shell session state how.Memory at shell_is session_is expansions behind = behind

  outer_keeps : (session : Session) (at : Point) (tree : TreeState) (seen : Seen) (faults : Faults) (shell : Shell) → ((old new : Session) → SameOutputs (enter old) new → SameOutputs old (leave old new))
      → Keeps (point_of (inside shell) (enter session) tree seen faults) at
      → Keeps (point_of shell session tree seen faults) (point_of (takes_over shell at.shell at.session) (leave session at.session) at.tree at.seen at.faults)
  outer_keeps session at tree seen faults shell back inner =
      let outputs = back session at.session (record { output = inner.output; errors = inner.errors }) in
      record { whole = inner.whole; files = inner.files; output = outputs.output; errors = outputs.errors }

  pub within : (shell inner shell' : Shell) (session mid session' : Session) (tree : TreeState) (seen : Seen) (faults : Faults) (came last : How) (at : Point)
      → inner ≡ inside shell → mid ≡ enter session → shell' ≡ takes_over shell at.shell at.session → session' ≡ leave session at.session → last ≡ settled_how came
      → ((session : Session) → session.turns ≤ (enter session).turns) → ((old new : Session) → new.turns ≤ (leave old new).turns)
      → ((old new : Session) → SameOutputs (enter old) new → SameOutputs old (leave old new))
      → Evaluates means (point_of inner mid tree seen faults) came at
      → Evaluates (λ expansions. apart enter leave takes_over (means expansions)) (point_of shell session tree seen faults) last (point_of shell' session' at.tree at.seen at.faults)
  within shell inner shell' session mid session' tree seen faults came last at inner_is mid_is shell_is session_is last_is no_fewer_in no_fewer_out same_outputs one =
      let entered : Evaluates means (point_of (inside shell) (enter session) tree seen faults) came at =
      subst (λ (it : Session). Evaluates means (point_of (inside shell) it tree seen faults) came at) mid_is (subst (λ (it : Shell). Evaluates means (point_of it mid tree seen faults) came at) inner_is one) in
      let turns_in = no_fewer_in session in
      let turns_on = entered.turns in
      let turns_out = no_fewer_out session at.session in
      let whole : Evaluates (λ expansions. apart enter leave takes_over (means expansions)) (point_of shell session tree seen faults) (settled_how came)
      (point_of (takes_over shell at.shell at.session) (leave session at.session) at.tree at.seen at.faults) =
      record {
        comes = λ expansions are base state has.
            outer_comes base shell session state came at has.shell has.session expansions
            (entered.comes expansions are base (record { shell = inside state.shell; session = enter state.session; world = state.world }) (inner_has base shell session tree seen faults state has));
        keeps = λ gone. outer_keeps session at tree seen faults shell same_outputs (entered.keeps (gone-settled came gone));
        turns = omega arith;
        later = entered.later;
        cause = cause-settled came faults at.faults entered.cause;
        lent = entered.lent;
      } in
      subst (λ (it : How). Evaluates (λ expansions. apart enter leave takes_over (means expansions)) (point_of shell session tree seen faults) it (point_of shell' session' at.tree at.seen at.faults)) (sym last_is)
      (subst (λ (it : Session). Evaluates (λ expansions. apart enter leave takes_over (means expansions)) (point_of shell session tree seen faults) (settled_how came) (point_of shell' it at.tree at.seen at.faults)) (sym session_is)
      (subst (λ (it : Shell). Evaluates (λ expansions. apart enter leave takes_over (means expansions)) (point_of shell session tree seen faults) (settled_how came) (point_of it (leave session at.session) at.tree at.seen at.faults)) (sym shell_is) whole))

-- memory was wanted before anything was done, but in the session
pub wanted-at : (means : Meaning) (shell : Shell) (session session' : Session) (tree : TreeState) (seen : Seen) (faults : Faults) → session.turns ≤ session'.turns → ((expansions : Expansions) → Adds (means expansions))
    → Evaluates means (point_of shell session tree seen faults) how.Memory (point_of shell session' tree seen faults)
wanted-at means shell session session' tree seen faults turns adds =
    let one = wanted means (point_of shell session tree seen faults) adds in
    record { comes = λ expansions are base state has. one.comes expansions are base state has; keeps = λ gone. absurd gone; turns = turns; later = no-fewer faults; cause = tt; lent = balanced-none tree }

-- the pipe of a stage is closed, and what it has taken in is kept for the next
pub handed-back : (old new session : Session) (place : To) → place ≡ old.streams.to → session ≡ unpiped place (record new { piped = innermost new }) → session ≡ handed_on old new
handed-back old new session place same is = is ∙ ap (λ (it : To). unpiped it (record new { piped = innermost new })) same

-- and the shell reads what it read
pub read-back : (old new session : Session) (source : From) → source ≡ old.streams.from → session ≡ handed_on old new → reading source session ≡ reading old.streams.from (handed_on old new)
read-back old new session source same is = ap (λ (it : From). reading it session) same ∙ ap (reading old.streams.from) is

-- A STAGE runs between what enters it and what leaves it
module _ (means : Meaning) (shell inner shell' : Shell) (session mid session' : Session) (tree : TreeState) (seen : Seen) (faults : Faults) (came last : How) (at : Point) where
  pub staged-within : (position : Position) (aside : Aside) → inner ≡ inside shell → mid ≡ entering position session → IsAside position session aside
      → shell' ≡ status_kept aside shell at.shell → session' ≡ back_to aside at.session → last ≡ settled_how came → Evaluates means (point_of inner mid tree seen faults) came at
      → Evaluates (λ expansions. staged position (means expansions)) (point_of shell session tree seen faults) last (point_of shell' session' at.tree at.seen at.faults)
  staged-within position.First (aside.First to) inner_is mid_is is shell_is session_is last_is one =
      within means piping handed_on unchanged shell inner shell' session mid session' tree seen faults came last at inner_is mid_is shell_is (handed-back session at.session session' to is session_is) last_is
      same-turns (λ old new. same-turns new) (λ old new same. record { output = refl; errors = same.errors }) one
  staged-within position.First (aside.Middle from to) inner_is mid_is is shell_is session_is last_is one = absurd is
  staged-within position.First (aside.Last from) inner_is mid_is is shell_is session_is last_is one = absurd is
  staged-within position.Middle (aside.First to) inner_is mid_is is shell_is session_is last_is one = absurd is
  staged-within position.Middle (aside.Middle from to) inner_is mid_is is shell_is session_is last_is one =
      within means (λ session. piping (reading_piped session)) (λ old new. reading old.streams.from (handed_on old new)) unchanged shell inner shell' session mid session' tree seen faults came last at
      inner_is mid_is shell_is (session_is ∙ read-back session at.session _ from is.0 (handed-back session at.session _ to is.1 refl)) last_is
      same-turns (λ old new. same-turns new) (λ old new same. record { output = refl; errors = same.errors }) one
  staged-within position.Middle (aside.Last from) inner_is mid_is is shell_is session_is last_is one = absurd is
  staged-within position.Last (aside.First to) inner_is mid_is is shell_is session_is last_is one = absurd is
  staged-within position.Last (aside.Middle from to) inner_is mid_is is shell_is session_is last_is one = absurd is
  staged-within position.Last (aside.Last from) inner_is mid_is is shell_is session_is last_is one =
      within means reading_piped (λ old new. reading old.streams.from new) its_status shell inner shell' session mid session' tree seen faults came last at
      inner_is mid_is shell_is (session_is ∙ ap (λ (it : From). reading it at.session) is) last_is
      same-turns (λ old new. same-turns new) (λ old new same. record { output = same.output; errors = same.errors }) one

-- memory was wanted as it was to be entered
pub staged-wanted : (means : Meaning) (position : Position) (shell : Shell) (session session' : Session) (tree : TreeState) (seen : Seen) (faults : Faults) → session'.turns ≡ session.turns
    → ((expansions : Expansions) → Adds (means expansions))
    → Evaluates (λ expansions. staged position (means expansions)) (point_of shell session tree seen faults) how.Memory (point_of shell session' tree seen faults)
staged-wanted means position shell session session' tree seen faults turns adds =
    wanted-at (λ expansions. staged position (means expansions)) shell session session' tree seen faults (rw turns (omega arith)) (λ expansions. adds-staged position (means expansions) (adds expansions))
