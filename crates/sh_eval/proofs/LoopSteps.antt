-- What is evaluated of loops comes of what is evaluated of their turns and rounds.
use Rattle.std.proofs.Common.{◌≡◌, ◌<◌, ◌≤◌, ◌+◌, ◌-◌, nat_le, if◌then◌else◌, ℕ, zero, suc, List, [], ◌∷◌, length, get_or, drop, add-one, Bool, true, false, refl, sym, ap, ◌∙◌, subst, arith}
use Rattle.std.proofs.lemmas.Bool.{cond-true, cond-false, true≢false, le-leb, leb-false, lt-leb}
use Rattle.std.proofs.Math.Seq.{drop-cons}
use Rattle.std.proofs.Math.ListN.{drop_of_length-le}
use Rattle.std.specs.declared.alloc.Global.{Global}
use Rattle.std.specs.declared.vec.Vec.{Vec}
use Rattle.ps_lines.specs.Texts.{texts_of}
use Rattle.ps_world.specs.TreeState.{TreeState}
use Rattle.sh_tree.specs.Trees.{CommandTree}
use Rattle.sh_expand.specs.Outcomes.{Expansions}
use Rattle.sh_eval.specs.declared.flows.Flow.{Flow}
use Rattle.sh_eval.specs.declared.flows.Flow.TheVariants as flow
use Rattle.sh_eval.specs.declared.outcomes.How.{How}
use Rattle.sh_eval.specs.declared.outcomes.How.TheVariants as how
use Rattle.sh_eval.specs.declared.refusals.Refusal.TheVariants as refusal
use Rattle.sh_eval.specs.declared.session.Session.{Session}
use Rattle.sh_eval.specs.declared.shell.Shell.{Shell}
use Rattle.sh_eval.specs.Shells.{with_status}
use Rattle.sh_eval.specs.States.{State, Ends, Means, ends, refused, in_shell, in_session}
use Rattle.sh_eval.specs.Commands.{most_turns, turns, all_turns, rounds, turn_used, is_over, goes_round, left_by, entered, restored, in_loop, noted, set_to, kept_by, of_body, turn, tested_by}
use Rattle.sh_eval.specs.Contract.{Seen, Faults, Point, point_of, Base, Has, Comes, gone_by, goes_on, goes_on_by, going, changed_by, Meaning, Evaluates}
use Rattle.sh_eval.specs.Growth.{Adds}
use Rattle.sh_eval.specs.Inner.Bodies.{for_body, name_of, round_means, rounds_mean}
use Rattle.sh_eval.specs.Inner.Loops.{condition_left}
use Rattle.sh_eval.specs.Table.{pages}
use Rattle.sh_eval.proofs.CommandSteps.{rounds-add}
use Rattle.sh_eval.proofs.Growing.{grows-self, adds-choice, adds-turns, adds-tested}
use Rattle.sh_eval.proofs.Steps.{changed, follow, remade, then_by, same-how, same-shell}
use Rattle.sh_eval.proofs.ListSteps.{meant}

-- A LOOP around what stands in it
inner-has : (base : Base) (shell : Shell) (session : Session) (tree : TreeState) (seen : Seen) (faults : Faults) (state : State) → Has base (point_of shell session tree seen faults) state
    → Has base (point_of (entered shell) session tree seen faults) (in_shell entered state)
inner-has base shell session tree seen faults state has = record { shell = ap entered has.shell; session = has.session; home = has.home; held = has.held; kept = has.kept; seen = has.seen }

pub in-loop : (means : Meaning) (shell inner mid shell' : Shell) (session session' : Session) (tree tree' : TreeState) (seen seen' : Seen) (faults faults' : Faults) (came : How)
    → inner ≡ entered shell → shell' ≡ restored shell mid
    → Evaluates means (point_of inner session tree seen faults) came (point_of mid session' tree' seen' faults')
    → Evaluates (λ expansions. in_loop (means expansions)) (point_of shell session tree seen faults) came (point_of shell' session' tree' seen' faults')
in-loop means shell inner mid shell' session session' tree tree' seen seen' faults faults' came inner_is shell_is one =
    let entered_one : Evaluates means (point_of (entered shell) session tree seen faults) came (point_of mid session' tree' seen' faults') =
    subst (λ (it : Shell). Evaluates means (point_of it session tree seen faults) came (point_of mid session' tree' seen' faults')) inner_is one in
    rw shell_is
    (record {
      comes = λ expansions are base state has. outer base state came expansions has.shell
          (entered_one.comes expansions are base (in_shell entered state) (inner-has base shell session tree seen faults state has));
      keeps = λ gone. let keeps = entered_one.keeps gone in record { whole = keeps.whole; files = keeps.files; output = keeps.output; errors = keeps.errors };
      turns = entered_one.turns;
      later = entered_one.later;
      cause = entered_one.cause;
      lent = entered_one.lent;
    })
  where
    outer : (base : Base) (state : State) (came : How) (expansions : Expansions) → shell ≡ state.shell → Comes base came (point_of mid session' tree' seen' faults') (means expansions (in_shell entered state))
        → Comes base came (point_of (restored shell mid) session' tree' seen' faults') (in_loop (means expansions) state)
    outer base state (how.Gone it) expansions is ended =
        record {
          flow = ended.flow;
          has = record {
            shell = ap (λ (old : Shell). restored old mid) is ∙ ap (restored state.shell) ended.has.shell;
            session = ended.has.session;
            home = ended.has.home;
            held = ended.has.held;
            kept = ended.has.kept;
            seen = ended.has.seen;
          };
        }
    outer base state how.ReadFault expansions is behind = behind
    outer base state how.WriteFault expansions is behind = behind
    outer base state how.TreeFault expansions is behind = behind
    outer base state how.Memory expansions is behind = behind

over-at : (state : State) → most_turns - state.session.turns ≤ 0 → is_over state ≡ true
over-at state none = le-leb most_turns state.session.turns (omega (arith, none))

-- TURNS. So many as are left are enough, and more don't count
enough : (round : Means) → Adds round → (some more : ℕ) (state : State) → most_turns - state.session.turns ≤ some → most_turns - state.session.turns ≤ more
    → turns some round state ≡ turns more round state
enough round adds zero zero state first second = refl
enough round adds zero (suc more) state first second = rw (over-at state (omega (arith, first))) refl
enough round adds (suc some) zero state first second = rw (over-at state (omega (arith, second))) refl
enough round adds (suc some) (suc more) state first second =
    by_over (is_over state) refl
    (λ under.
    let grows = adds (in_session turn_used state) in
    let used = grows.turns in
    enough round adds some more (round (in_session turn_used state)).state (omega (arith, used, under, first)) (omega (arith, used, under, second)))
  where
    left : Ends
    left = round (in_session turn_used state)

    by_over : (over : Bool) → is_over state ≡ over → (state.session.turns < most_turns → turns some round left.state ≡ turns more round left.state) → turns (suc some) round state ≡ turns (suc more) round state
    by_over true is again = rw is refl
    by_over false is again =
        rw is (ap (λ (it : Ends). if goes_round left.flow then it else ends (left_by left.flow) left.state) (again (leb-false most_turns state.session.turns is)))

all-enough : (round : Means) → Adds round → (more : ℕ) (state : State) → most_turns - state.session.turns ≤ more → turns more round state ≡ all_turns round state
all-enough round adds more state is = enough round adds more (most_turns - state.session.turns) state is (omega arith)

-- how the loop goes on behind a round
abbrev pub round_left : Meaning → Expansions → Flow → Means
round_left again expansions it state = if goes_round it then again expansions state else ends (left_by it) state

goes-again : (again : Meaning) (expansions : Expansions) (it : Flow) (state : State) → goes_round it ≡ true → round_left again expansions it state ≡ again expansions state
goes-again again expansions it state is = cond-true (goes_round it) (again expansions state) (ends (left_by it) state) is

goes-out : (again : Meaning) (expansions : Expansions) (it : Flow) (state : State) → goes_round it ≡ false → round_left again expansions it state ≡ ends (left_by it) (in_shell (λ shell. shell) state)
goes-out again expansions it state is = cond-false (goes_round it) (again expansions state) (ends (left_by it) state) is

round_left-adds : (again : Meaning) → ((expansions : Expansions) → Adds (again expansions)) → (expansions : Expansions) (it : Flow) → Adds (round_left again expansions it)
round_left-adds again adds expansions it = adds-choice (λ state. goes_round it) (again expansions) (ends (left_by it)) (adds expansions) (λ state. grows-self state)

-- a round comes behind the turn that it uses
used-up : (means : Meaning) (shell : Shell) (session session' : Session) (tree : TreeState) (seen : Seen) (faults : Faults) (came : How) (new : Point) → session' ≡ turn_used session
    → Evaluates means (point_of shell session' tree seen faults) came new
    → Evaluates (λ expansions state. means expansions (in_session turn_used state)) (point_of shell session tree seen faults) came new
used-up means shell session session' tree seen faults came new used found =
    let one = subst (λ (it : Session). Evaluates means (point_of shell it tree seen faults) came new) used found in
    let turns = one.turns in
    record {
      comes = λ expansions are base state has. one.comes expansions are base (in_session turn_used state)
          (record { shell = has.shell; session = ap turn_used has.session; home = has.home; held = has.held; kept = has.kept; seen = has.seen });
      keeps = λ gone. let keeps = one.keeps gone in record { whole = keeps.whole; files = keeps.files; output = keeps.output; errors = keeps.errors };
      turns = omega arith;
      later = one.later;
      cause = one.cause;
      lent = one.lent;
    }

-- the meaning hangs on the session
meant-in : (first second : Meaning) (old new : Point) (came : How) → ((expansions : Expansions) (state : State) → old.session ≡ state.session → first expansions state ≡ second expansions state)
    → Evaluates first old came new → Evaluates second old came new
meant-in first second old new came same one =
    record {
      comes = λ expansions are base state has. subst (λ (left : Ends). Comes base came new left) (same expansions state has.session) (one.comes expansions are base state has);
      keeps = one.keeps;
      turns = one.turns;
      later = one.later;
      cause = one.cause;
      lent = one.lent;
    }

module _ (round : Meaning) (adds : (expansions : Expansions) → Adds (round expansions)) where
  abbrev whole : Meaning
  whole expansions = all_turns (round expansions)

  whole-adds : (expansions : Expansions) → Adds (whole expansions)
  whole-adds expansions state = adds-turns (most_turns - state.session.turns) (round expansions) (adds expansions) state

  abbrev used_round : Meaning
  used_round expansions state = round expansions (in_session turn_used state)

  one-turn : (session : Session) → session.turns < most_turns → (expansions : Expansions) (state : State) → session ≡ state.session
      → then_by used_round (round_left whole) expansions state ≡ whole expansions state
  one-turn session under expansions state same =
      let left = round expansions (in_session turn_used state) in
      let more = most_turns - state.session.turns - 1 in
      let below : state.session.turns < most_turns = subst (λ (it : Session). it.turns < most_turns) same under in
      let count : most_turns - state.session.turns ≡ suc more = omega (arith, below) in
      let grows = adds expansions (in_session turn_used state) in
      let used = grows.turns in
      let step : turns (suc more) (round expansions) state ≡ then_by used_round (round_left whole) expansions state =
      cond-false (is_over state) (refused refusal.TurnsOver state) (if goes_round left.flow then turns more (round expansions) left.state else ends (left_by left.flow) left.state)
      (lt-leb most_turns state.session.turns below)
      ∙ ap (λ (it : Ends). if goes_round left.flow then it else ends (left_by left.flow) left.state)
      (all-enough (round expansions) (adds expansions) more left.state (omega (arith, used, count))) in
      sym (ap (λ (it : ℕ). turns it (round expansions) state) count ∙ step)

  pub turns-over : (shell : Shell) (session : Session) (tree : TreeState) (seen : Seen) (faults : Faults) → most_turns ≤ session.turns
      → Evaluates whole (point_of shell session tree seen faults) (how.Gone (flow.Refused refusal.TurnsOver)) (point_of shell session tree seen faults)
  turns-over shell session tree seen faults over =
      meant-in (λ expansions. refused refusal.TurnsOver) whole (point_of shell session tree seen faults) (point_of shell session tree seen faults) (how.Gone (flow.Refused refusal.TurnsOver))
      (λ expansions state same. none-left expansions state (subst (λ (it : Session). most_turns ≤ it.turns) same over))
      (changed (flow.Refused refusal.TurnsOver) (λ shell. shell) shell shell session tree seen faults refl)
    where
      none-left : (expansions : Expansions) (state : State) → most_turns ≤ state.session.turns → refused refusal.TurnsOver state ≡ whole expansions state
      none-left expansions state over =
          let none : most_turns - state.session.turns ≡ zero = omega (arith, over) in
          sym (ap (λ (it : ℕ). turns it (round expansions) state) none)

  pub turns-left : (shell : Shell) (session session' : Session) (tree : TreeState) (seen : Seen) (faults : Faults) (came came' : How) (new : Point) → session.turns < most_turns → session' ≡ turn_used session
      → gone_by goes_round came ≡ false → came' ≡ going left_by came
      → Evaluates round (point_of shell session' tree seen faults) came new → Evaluates whole (point_of shell session tree seen faults) came' new
  turns-left shell session session' tree seen faults came came' new under used is came_is one =
      meant-in (then_by used_round (round_left whole)) whole (point_of shell session tree seen faults) new came' (one-turn session under)
      (remade used_round (round_left whole) goes_round left_by (λ it shell. shell) (goes-out whole) (round_left-adds whole whole-adds)
      (point_of shell session tree seen faults) came came' new.shell new.shell new.session new.tree new.seen new.faults is came_is (same-shell came new.shell)
      (used-up round shell session session' tree seen faults came new used one))

  pub turns-again : (shell : Shell) (session session' : Session) (tree : TreeState) (seen : Seen) (faults : Faults) (came then_how : How) (mid new : Point) → session.turns < most_turns → session' ≡ turn_used session
      → gone_by goes_round came ≡ true
      → Evaluates round (point_of shell session' tree seen faults) came mid → Evaluates whole mid then_how new → Evaluates whole (point_of shell session tree seen faults) then_how new
  turns-again shell session session' tree seen faults came then_how mid new under used is one rest =
      meant-in (then_by used_round (round_left whole)) whole (point_of shell session tree seen faults) new then_how (one-turn session under)
      (follow used_round whole (round_left whole) goes_round (goes-again whole) (point_of shell session tree seen faults) mid new came then_how is
      (used-up round shell session session' tree seen faults came mid used one) rest)

-- A TURN of a `while` or an `until`: what comes behind its condition
module _ (holds : State → Bool) (condition body : Meaning) (body_adds : (expansions : Expansions) → Adds (body expansions)) where
  abbrev tested : Expansions → Flow → Means
  tested expansions = tested_by holds (body expansions)

  left-so : (expansions : Expansions) (it : Flow) (state : State) → goes_on_by it ≡ false → tested expansions it state ≡ ends it (in_shell (condition_left it) state)
  left-so expansions flow.On state off = absurd (true≢false off)
  left-so expansions (flow.Break count) state off = refl
  left-so expansions (flow.Continue count) state off = by_count (nat_le count 1)
    where
      by_count : (is_this : Bool) → ends (flow.Continue count) (if is_this then state else of_body state) ≡ ends (flow.Continue count) (in_shell (λ shell. if is_this then shell else with_status shell.body_status shell) state)
      by_count true = refl
      by_count false = refl
  left-so expansions flow.Exit state off = refl
  left-so expansions (flow.Refused cause) state off = refl

  pub turn-left : (old : Point) (came : How) (shell shell' : Shell) (session : Session) (tree : TreeState) (seen : Seen) (faults : Faults) → goes_on came ≡ false → shell' ≡ changed_by condition_left came shell
      → Evaluates condition old came (point_of shell session tree seen faults)
      → Evaluates (λ expansions. turn holds (condition expansions) (body expansions)) old came (point_of shell' session tree seen faults)
  turn-left old came shell shell' session tree seen faults off shell_is one =
      remade condition tested goes_on_by (λ it. it) condition_left left-so (λ expansions it. adds-tested holds (body expansions) (body_adds expansions) it)
      old came came shell shell' session tree seen faults off (same-how came) shell_is one

  abbrev behind_test : Meaning
  behind_test expansions state = if holds state then noted (body expansions state) else ends (flow.Break 1) (of_body state)

  only-on : (expansions : Expansions) (it : Flow) (state : State) → goes_on_by it ≡ true → tested expansions it state ≡ behind_test expansions state
  only-on expansions flow.On state is = refl
  only-on expansions (flow.Break count) state is = absurd (true≢false (sym is))
  only-on expansions (flow.Continue count) state is = absurd (true≢false (sym is))
  only-on expansions flow.Exit state is = absurd (true≢false (sym is))
  only-on expansions (flow.Refused cause) state is = absurd (true≢false (sym is))

  pub turn-held : (old mid new : Point) (came then_how : How) → goes_on came ≡ true → ((state : State) → mid.shell ≡ state.shell → holds state ≡ true)
      → Evaluates condition old came mid → Evaluates (λ expansions state. noted (body expansions state)) mid then_how new
      → Evaluates (λ expansions. turn holds (condition expansions) (body expansions)) old then_how new
  turn-held old mid new came then_how is held one ran =
      follow condition behind_test tested goes_on_by only-on old mid new came then_how is one
      (meant (λ expansions state. noted (body expansions state)) behind_test mid new then_how
      (λ expansions state same. sym (cond-true (holds state) (noted (body expansions state)) (ends (flow.Break 1) (of_body state)) (held state same))) ran)

  pub turn-failed : (old : Point) (shell shell' : Shell) (session : Session) (tree : TreeState) (seen : Seen) (faults : Faults) (came : How) → goes_on came ≡ true
      → ((state : State) → shell ≡ state.shell → holds state ≡ false) → shell' ≡ with_status shell.body_status shell
      → Evaluates condition old came (point_of shell session tree seen faults)
      → Evaluates (λ expansions. turn holds (condition expansions) (body expansions)) old (how.Gone (flow.Break 1)) (point_of shell' session tree seen faults)
  turn-failed old shell shell' session tree seen faults came is fails shell_is one =
      follow condition behind_test tested goes_on_by only-on old (point_of shell session tree seen faults) (point_of shell' session tree seen faults) came (how.Gone (flow.Break 1)) is one
      (meant (λ expansions state. ends (flow.Break 1) (of_body state)) behind_test (point_of shell session tree seen faults) (point_of shell' session tree seen faults) (how.Gone (flow.Break 1))
      (λ expansions state same. sym (cond-false (holds state) (noted (body expansions state)) (ends (flow.Break 1) (of_body state)) (fails state same)))
      (changed (flow.Break 1) (λ shell. with_status shell.body_status shell) shell shell' session tree seen faults shell_is))

-- THE BODY of a loop
pub body-noted : (body : Meaning) (old : Point) (came : How) (shell shell' : Shell) (session : Session) (tree : TreeState) (seen : Seen) (faults : Faults) → shell' ≡ changed_by kept_by came shell
    → Evaluates body old came (point_of shell session tree seen faults) → Evaluates (λ expansions state. noted (body expansions state)) old came (point_of shell' session tree seen faults)
body-noted body old came shell shell' session tree seen faults shell_is one =
    remade body (λ expansions it state. ends it (in_shell (kept_by it) state)) (λ it. false) (λ it. it) kept_by (λ expansions it state off. refl) (λ expansions it state. grows-self state)
    old came came shell shell' session tree seen faults (never came) (same-how came) shell_is one
  where
    never : (came : How) → gone_by (λ it. false) came ≡ false
    never (how.Gone it) = refl
    never how.ReadFault = refl
    never how.WriteFault = refl
    never how.TreeFault = refl
    never how.Memory = refl

-- ROUNDS of a `for`
module _ (named : List ℕ → State → State) (body : Meaning) where
  abbrev rounds_of : List (List ℕ) → Meaning
  rounds_of fields expansions = rounds named (body expansions) fields

  abbrev round_of : List ℕ → Meaning
  round_of field expansions state = noted (body expansions (named field state))

  abbrev used_up_round : List ℕ → Meaning
  used_up_round field expansions state = round_of field expansions (in_session turn_used state)

  one-round : (session : Session) → session.turns < most_turns → (field : List ℕ) (fields : List (List ℕ)) (expansions : Expansions) (state : State) → session ≡ state.session
      → then_by (used_up_round field) (round_left (rounds_of fields)) expansions state ≡ rounds_of (field ∷ fields) expansions state
  one-round session under field fields expansions state same =
      let left = round_of field expansions (in_session turn_used state) in
      sym (cond-false (is_over state) (refused refusal.TurnsOver state) (if goes_round left.flow then rounds named (body expansions) fields left.state else ends (left_by left.flow) left.state)
      (lt-leb most_turns state.session.turns (subst (λ (it : Session). it.turns < most_turns) same under)))

  pub rounds-over : (field : List ℕ) (fields : List (List ℕ)) (shell : Shell) (session : Session) (tree : TreeState) (seen : Seen) (faults : Faults) → most_turns ≤ session.turns
      → Evaluates (rounds_of (field ∷ fields)) (point_of shell session tree seen faults) (how.Gone (flow.Refused refusal.TurnsOver)) (point_of shell session tree seen faults)
  rounds-over field fields shell session tree seen faults over =
      meant-in (λ expansions. refused refusal.TurnsOver) (rounds_of (field ∷ fields)) (point_of shell session tree seen faults) (point_of shell session tree seen faults) (how.Gone (flow.Refused refusal.TurnsOver))
      (λ expansions state same. none-left expansions state (le-leb most_turns state.session.turns (subst (λ (it : Session). most_turns ≤ it.turns) same over)))
      (changed (flow.Refused refusal.TurnsOver) (λ shell. shell) shell shell session tree seen faults refl)
    where
      none-left : (expansions : Expansions) (state : State) → is_over state ≡ true → refused refusal.TurnsOver state ≡ rounds_of (field ∷ fields) expansions state
      none-left expansions state over = rw over refl

  pub rounds-left : ((fields : List (List ℕ)) (expansions : Expansions) → Adds (rounds_of fields expansions)) → (field : List ℕ) (fields : List (List ℕ)) (shell : Shell) (session session' : Session) (tree : TreeState) (seen : Seen) (faults : Faults)
      (came came' : How) (new : Point) → session.turns < most_turns → session' ≡ turn_used session → gone_by goes_round came ≡ false → came' ≡ going left_by came
      → Evaluates (round_of field) (point_of shell session' tree seen faults) came new → Evaluates (rounds_of (field ∷ fields)) (point_of shell session tree seen faults) came' new
  rounds-left adds field fields shell session session' tree seen faults came came' new under used is came_is one =
      meant-in (then_by (used_up_round field) (round_left (rounds_of fields))) (rounds_of (field ∷ fields)) (point_of shell session tree seen faults) new came' (one-round session under field fields)
      (remade (used_up_round field) (round_left (rounds_of fields)) goes_round left_by (λ it shell. shell) (goes-out (rounds_of fields)) (round_left-adds (rounds_of fields) (adds fields))
      (point_of shell session tree seen faults) came came' new.shell new.shell new.session new.tree new.seen new.faults is came_is (same-shell came new.shell)
      (used-up (round_of field) shell session session' tree seen faults came new used one))

  pub rounds-again : (field : List ℕ) (fields : List (List ℕ)) (shell : Shell) (session session' : Session) (tree : TreeState) (seen : Seen) (faults : Faults)
      (came then_how : How) (mid new : Point) → session.turns < most_turns → session' ≡ turn_used session → gone_by goes_round came ≡ true
      → Evaluates (round_of field) (point_of shell session' tree seen faults) came mid → Evaluates (rounds_of fields) mid then_how new → Evaluates (rounds_of (field ∷ fields)) (point_of shell session tree seen faults) then_how new
  rounds-again field fields shell session session' tree seen faults came then_how mid new under used is one rest =
      meant-in (then_by (used_up_round field) (round_left (rounds_of fields))) (rounds_of (field ∷ fields)) (point_of shell session tree seen faults) new then_how (one-round session under field fields)
      (follow (used_up_round field) (rounds_of fields) (round_left (rounds_of fields)) goes_round (goes-again (rounds_of fields)) (point_of shell session tree seen faults) mid new came then_how is
      (used-up (round_of field) shell session session' tree seen faults came mid used one) rest)

  pub rounds-done : (shell shell' : Shell) (session : Session) (tree : TreeState) (seen : Seen) (faults : Faults) → shell' ≡ with_status shell.body_status shell
      → Evaluates (rounds_of []) (point_of shell session tree seen faults) (how.Gone flow.On) (point_of shell' session tree seen faults)
  rounds-done shell shell' session tree seen faults is = changed flow.On (λ shell. with_status shell.body_status shell) shell shell' session tree seen faults is

-- rounds over the texts of fields
fields-step : (fields : List (Vec ℕ Global)) (place : ℕ) (one : Vec ℕ Global) (text : List ℕ) → one ≡ get_or fields place one → place < length fields → text ≡ one.items
    → texts_of (drop place fields) ≡ text ∷ texts_of (drop (place + 1) fields)
fields-step fields place one text here below is =
    let cut : drop place fields ≡ get_or fields place one ∷ drop (place + 1) fields = rw add-one (drop-cons fields place one below) in
    ap texts_of cut ∙ ap (λ (it : Vec ℕ Global). texts_of (it ∷ drop (place + 1) fields)) (sym here) ∙ ap (λ (it : List ℕ). it ∷ texts_of (drop (place + 1) fields)) (sym is)

module _ (tree : CommandTree) (fields : List (Vec ℕ Global)) (place : ℕ) (one : Vec ℕ Global) (text : List ℕ) (here : one ≡ get_or fields place one) (below : place < length fields) (is_text : text ≡ one.items) where
  abbrev named : List ℕ → State → State
  named = set_to (name_of tree)

  abbrev body : Meaning
  body expansions = for_body expansions pages tree

  abbrev from_here : List (List ℕ) → Meaning
  from_here texts expansions = rounds_mean expansions pages tree texts

  pub over-here : (shell : Shell) (session : Session) (held : TreeState) (seen : Seen) (faults : Faults) → most_turns ≤ session.turns
      → Evaluates (λ expansions. rounds_mean expansions pages tree (texts_of (drop place fields))) (point_of shell session held seen faults) (how.Gone (flow.Refused refusal.TurnsOver)) (point_of shell session held seen faults)
  over-here shell session held seen faults over =
      subst (λ (it : List (List ℕ)). Evaluates (λ expansions. rounds_mean expansions pages tree it) (point_of shell session held seen faults) (how.Gone (flow.Refused refusal.TurnsOver)) (point_of shell session held seen faults))
      (sym (fields-step fields place one text here below is_text))
      (rounds-over named body text (texts_of (drop (place + 1) fields)) shell session held seen faults over)

  pub left-here : (shell : Shell) (session session' : Session) (held : TreeState) (seen : Seen) (faults : Faults) (came came' : How) (new : Point) → session.turns < most_turns → session' ≡ turn_used session
      → gone_by goes_round came ≡ false → came' ≡ going left_by came → Evaluates (λ expansions. round_means expansions pages tree text) (point_of shell session' held seen faults) came new
      → Evaluates (λ expansions. rounds_mean expansions pages tree (texts_of (drop place fields))) (point_of shell session held seen faults) came' new
  left-here shell session session' held seen faults came came' new under used is came_is found =
      subst (λ (it : List (List ℕ)). Evaluates (λ expansions. rounds_mean expansions pages tree it) (point_of shell session held seen faults) came' new)
      (sym (fields-step fields place one text here below is_text))
      (rounds-left named body (λ texts expansions. rounds-add expansions tree texts) text (texts_of (drop (place + 1) fields)) shell session session' held seen faults came came' new under used is came_is found)

  pub again-here : (shell : Shell) (session session' : Session) (held : TreeState) (seen : Seen) (faults : Faults) (came then_how : How) (mid new : Point) → session.turns < most_turns → session' ≡ turn_used session
      → gone_by goes_round came ≡ true → Evaluates (λ expansions. round_means expansions pages tree text) (point_of shell session' held seen faults) came mid
      → Evaluates (λ expansions. rounds_mean expansions pages tree (texts_of (drop (place + 1) fields))) mid then_how new
      → Evaluates (λ expansions. rounds_mean expansions pages tree (texts_of (drop place fields))) (point_of shell session held seen faults) then_how new
  again-here shell session session' held seen faults came then_how mid new under used is found rest =
      subst (λ (it : List (List ℕ)). Evaluates (λ expansions. rounds_mean expansions pages tree it) (point_of shell session held seen faults) then_how new)
      (sym (fields-step fields place one text here below is_text))
      (rounds-again named body text (texts_of (drop (place + 1) fields)) shell session session' held seen faults came then_how mid new under used is found rest)

pub done-here : (tree : CommandTree) (fields : List (Vec ℕ Global)) (place : ℕ) (shell shell' : Shell) (session : Session) (held : TreeState) (seen : Seen) (faults : Faults) → length fields ≤ place → shell' ≡ with_status shell.body_status shell
    → Evaluates (λ expansions. rounds_mean expansions pages tree (texts_of (drop place fields))) (point_of shell session held seen faults) (how.Gone flow.On) (point_of shell' session held seen faults)
done-here tree fields place shell shell' session held seen faults over is =
    subst (λ (it : List (Vec ℕ Global)). Evaluates (λ expansions. rounds_mean expansions pages tree (texts_of it)) (point_of shell session held seen faults) (how.Gone flow.On) (point_of shell' session held seen faults))
    (sym (drop_of_length-le fields over))
    (rounds-done (set_to (name_of tree)) (λ expansions. for_body expansions pages tree) shell shell' session held seen faults is)
