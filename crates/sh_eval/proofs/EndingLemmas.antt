-- Commands that change the shell alone, that fail, and that end behind what they wrote.
use Rattle.std.proofs.Common.{◌≡◌, ℕ, ◌≤◌, List, Bool, true, false, Option, Some, refl, sym, ap, ◌∙◌, subst, if◌then◌else◌, arith}
use Rattle.ps_world.specs.Files.{Files}
use Rattle.ps_world.specs.Told.{GrewByPrefix}
use Rattle.ps_world.specs.TreeState.{TreeState, Balanced}
use Rattle.ps_world.proofs.TreeStateLemmas.{balanced-none}
use Rattle.fl_commands.specs.Writers.{ChangesOnly}
use Rattle.fl_commands.proofs.WriterLemmas.{only-more, only-same, only-within}
use Rattle.sh_expand.specs.Outcomes.{Expansions}
use Rattle.sh_eval.specs.declared.flows.Flow.{Flow}
use Rattle.sh_eval.specs.declared.outcomes.How.{How}
use Rattle.sh_eval.specs.declared.outcomes.How.TheVariants as how
use Rattle.sh_eval.specs.declared.session.Session.{Session}
use Rattle.sh_eval.specs.declared.shell.Shell.{Shell}
use Rattle.sh_eval.specs.Shells.{with_status}
use Rattle.sh_eval.specs.States.{State, Ends, ends, after, in_shell, leaves}
use Rattle.sh_eval.specs.Growth.{Adds}
use Rattle.sh_eval.specs.Contract.{Seen, Faults, Point, point_of, Base, Has, HasEnd, IsBehind, Comes, HasCause, IsGone, NoFewer, goes_on, Meaning, Evaluates}
use Rattle.sh_eval.specs.Ending.{InShell, how_behind, status_behind}
use Rattle.sh_eval.proofs.Growing.{grows-self}
use Rattle.sh_eval.proofs.Steps.{followed, stopped, wanted, no-fewer, held-none}

-- the shell alone is changed
pub changed : (means : Meaning) (came : Flow) (change : Shell → Shell) (shell shell' : Shell) → shell' ≡ change shell
    → ((expansions : Expansions) (state : State) → shell ≡ state.shell → ends came (in_shell change state) ≡ means expansions state) → InShell means shell (how.Gone came) shell'
changed means came change shell shell' is same session tree seen faults =
    record {
      comes = λ expansions are base state has.
          subst (λ (it : Ends). HasEnd base came (point_of shell' session tree seen faults) it) (same expansions state has.shell)
          (record {
            flow = refl;
            has = record { shell = is ∙ ap change has.shell; session = has.session; home = has.home; held = has.held; kept = has.kept; seen = has.seen };
          });
      keeps = λ gone. record { whole = λ whole. whole; files = held-none tree.held; output = refl; errors = refl };
      turns = omega arith;
      later = no-fewer faults;
      cause = refl;
      lent = balanced-none tree;
    }

-- memory was wanted, and the shell may be anything
pub wanted-shell : (means : Meaning) (shell shell' : Shell) → ((expansions : Expansions) → Adds (means expansions)) → InShell means shell how.Memory shell'
wanted-shell means shell shell' adds session tree seen faults =
    let one = wanted means (point_of shell session tree seen faults) adds in
    record {
      comes = λ expansions are base state has. one.comes expansions are base state has;
      keeps = λ gone. absurd gone;
      turns = omega arith;
      later = no-fewer faults;
      cause = tt;
      lent = balanced-none tree;
    }

-- a command stops before it has written anything
comes-blamed : (base : Base) (came : How) (at : Point) (left : Ends) → (IsGone came → ⊥) → IsBehind base at.tree.held at.seen left.state.world → Comes base came at left
comes-blamed base (how.Gone it) at left off behind = absurd (off tt)
comes-blamed base how.ReadFault at left off behind = behind
comes-blamed base how.WriteFault at left off behind = behind
comes-blamed base how.TreeFault at left off behind = behind
comes-blamed base how.Memory at left off behind = behind

pub blamed : (means : Meaning) (old new : Point) (came : How) → ((expansions : Expansions) → Adds (means expansions)) → (IsGone came → ⊥) → new.seen.taken ≡ old.seen.taken → new.seen.errors ≡ old.seen.errors
    → ((expansions : Expansions) (base : Base) (state : State) → Has base old state → ChangesOnly (means expansions state).state.world.written (Some base.files) new.tree.held)
    → old.session.turns ≤ new.session.turns → NoFewer old.faults new.faults → HasCause came old.faults new.faults → Balanced old.tree new.tree → Evaluates means old came new
blamed means old new came adds off taken errors kept turns later cause lent =
    let one = wanted means old adds in
    record {
      comes = λ expansions are base state has.
          let behind : IsBehind base old.tree.held old.seen (means expansions state).state.world = one.comes expansions are base state has in
          comes-blamed base came new (means expansions state) off
          (record {
            kept = kept expansions base state has;
            output = subst (λ (it : Option (List ℕ)). GrewByPrefix base.taken it (means expansions state).state.world.output) (sym taken) behind.output;
            errors = subst (λ (it : Option (List ℕ)). GrewByPrefix base.errors it (means expansions state).state.world.errors) (sym errors) behind.errors;
          });
      keeps = λ gone. absurd (off gone);
      turns = turns;
      later = later;
      cause = cause;
      lent = lent;
    }

-- so it is where the files are as they were
pub kept-same : (means : Meaning) (old : Point) (held : Option Files) → ((expansions : Expansions) → Adds (means expansions)) → held ≡ old.tree.held
    → (expansions : Expansions) (base : Base) (state : State) → Has base old state → ChangesOnly (means expansions state).state.world.written (Some base.files) held
kept-same means old held adds same expansions base state has = only-more (only-within (adds expansions state).written has.kept) (only-same same)

-- behind what was written the command has this status, and goes on so
ends-adds : (way : Flow) (status : ℕ) → Adds (λ state. ends way (leaves status state))
ends-adds way status state = grows-self state

pub ended : (first : Meaning) (way : Flow) (status : ℕ) (shell shell' : Shell) (session session' : Session) (tree tree' : TreeState) (seen seen' : Seen) (faults faults' : Faults) (came came' : How)
    → shell' ≡ status_behind came status shell → came' ≡ how_behind came way → Evaluates first (point_of shell session tree seen faults) came (point_of shell session' tree' seen' faults')
    → Evaluates (λ expansions state. after (first expansions state) (λ left. ends way (leaves status left))) (point_of shell session tree seen faults) came' (point_of shell' session' tree' seen' faults')
ended first way status shell shell' session session' tree tree' seen seen' faults faults' came came' shell_is came_is one =
    subst (λ (it : How). Evaluates (λ expansions state. after (first expansions state) (λ left. ends way (leaves status left))) (point_of shell session tree seen faults) it (point_of shell' session' tree' seen' faults')) (sym came_is)
    (subst (λ (it : Shell). Evaluates (λ expansions state. after (first expansions state) (λ left. ends way (leaves status left))) (point_of shell session tree seen faults) (how_behind came way) (point_of it session' tree' seen' faults')) (sym shell_is) (by_test (goes_on came) refl))
  where
    by_test : (test : Bool) → goes_on came ≡ test
        → Evaluates (λ expansions state. after (first expansions state) (λ left. ends way (leaves status left))) (point_of shell session tree seen faults) (if test then how.Gone way else came) (point_of (if test then with_status status shell else shell) session' tree' seen' faults')
    by_test true is =
        followed first (λ expansions left. ends way (leaves status left)) (point_of shell session tree seen faults) (point_of shell session' tree' seen' faults') (point_of (with_status status shell) session' tree' seen' faults') came (how.Gone way) is one
        (changed (λ expansions left. ends way (leaves status left)) way (with_status status) shell (with_status status shell) refl (λ expansions state same. refl) session' tree' seen' faults')
    by_test false is =
        stopped first (λ expansions left. ends way (leaves status left)) (point_of shell session tree seen faults) (point_of shell session' tree' seen' faults') came is (λ expansions. ends-adds way status) one
