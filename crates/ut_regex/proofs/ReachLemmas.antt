-- The states that a machine comes to, as they are found one by one.
use Rattle.std.proofs.Common.{ℕ, ◌≡◌, ◌<◌, Bool, List, length, ap, sym, subst, ◌∙◌, arith}
use Rattle.ut_regex.specs.declared.machine.Machine.{Machine}
use Rattle.ut_regex.specs.declared.machine.Row.{Row}
use Rattle.ut_regex.specs.declared.program.Op.{Op}
use Rattle.ut_regex.specs.Inner.Seeks.{Same}
use Rattle.ut_regex.specs.Inner.Tables.{State, first_state, states_of, state_at, after}
use Rattle.ut_regex.specs.Inner.Reached.{GoesOn, Reaches, begun, behind, AreReached}
use Rattle.ut_regex.proofs.TableLemmas.{states_length}

-- a machine that does what it did comes to the same states
pub reached_same : (old new : Machine) (states : List State) → Same old new
    → AreReached new.steps.items new.fold new.whole states → AreReached old.steps.items old.fold old.whole states
reached_same old new states same reached =
    subst (λ ops. AreReached ops old.fold old.whole states) same.steps
    (subst (λ fold. AreReached new.steps.items fold old.whole states) same.fold
    (subst (λ whole. AreReached new.steps.items new.fold whole states) same.whole reached))

pub reached_back : (old new : Machine) (states : List State) → Same old new
    → AreReached old.steps.items old.fold old.whole states → AreReached new.steps.items new.fold new.whole states
reached_back old new states same = reached_same new old states (record { steps = sym same.steps; fold = sym same.fold; whole = sym same.whole })

-- the states with the one behind a byte, where it is added to them
pub reached_entry : (old new : Machine) (states more : List State) (target : State) (state byte : ℕ) → Same old new
    → target ≡ after old.steps.items old.fold old.whole (state_at states state) byte → state < length states → byte < 256
    → ((GoesOn new.steps.items new.whole target → Reaches new.steps.items new.fold new.whole target)
    → AreReached new.steps.items new.fold new.whole states → AreReached new.steps.items new.fold new.whole more)
    → AreReached old.steps.items old.fold old.whole states → AreReached old.steps.items old.fold old.whole more
reached_entry old new states more target state byte same is within small added all =
    reached_same old new more same (added goes (reached_back old new states same all))
  where
    comes : GoesOn old.steps.items old.whole target → Reaches old.steps.items old.fold old.whole target
    comes on = subst (λ s. Reaches old.steps.items old.fold old.whole s) (sym is)
        (behind (all.reached state within) small (subst (λ s. GoesOn old.steps.items old.whole s) is on))

    goes : GoesOn new.steps.items new.whole target → Reaches new.steps.items new.fold new.whole target
    goes =
        subst (λ ops. GoesOn ops new.whole target → Reaches ops new.fold new.whole target) (sym same.steps)
        (subst (λ fold. GoesOn old.steps.items new.whole target → Reaches old.steps.items fold new.whole target) (sym same.fold)
        (subst (λ whole. GoesOn old.steps.items whole target → Reaches old.steps.items old.fold whole target) (sym same.whole) comes))

-- the first state alone
pub reached_first : (ops : List Op) (fold whole : Bool) (rows : List Row) → length rows ≡ 1 → state_at (states_of rows) 0 ≡ first_state
    → AreReached ops fold whole (states_of rows)
reached_first ops fold whole rows one first = record {
  reached = λ place within.
      let here : place ≡ 0 = omega (arith, states_length rows) in
      subst (λ s. Reaches ops fold whole s) (sym (ap (state_at (states_of rows)) here ∙ first)) begun;
  different = λ place other before within same. absurd (omega (arith, states_length rows));
}
