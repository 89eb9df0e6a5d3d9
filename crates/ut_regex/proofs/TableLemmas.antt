-- A table grows entry by entry.
use Rattle.std.proofs.Common.{ℕ, ◌≡◌, ◌+◌, ◌*◌, ◌<◌, inl, inr, Bool, true, false, List, [], ◌∷◌, ◌++◌, length, slice_index_or, Decides, refl, ap, ap₂, sym, subst, ◌∙◌, arith, length-append}
use Rattle.std.proofs.Math.ListN.{get_or-append}
use Rattle.std.proofs.Math.Seq.{get_or-append_seam}
use Rattle.std.proofs.lemmas.Bool.{cases_lt}
use Rattle.std.proofs.lemmas.List.{get_or-map, length-map}
use Rattle.std.specs.Bool.{beq}
use Rattle.ut_regex.specs.declared.machine.Machine.{Machine}
use Rattle.ut_regex.specs.declared.machine.Row.{Row}
use Rattle.ut_regex.specs.declared.program.Op.{Op}
use Rattle.ut_regex.specs.declared.table.TheConstants.{FOUND}
use Rattle.ut_regex.specs.Inner.Seeks.{Same}
use Rattle.ut_regex.specs.Inner.Tables.{State, first_state, state_of, states_of, state_at, after, leads_at, IsEntry, Entered, Keeps}

pub beq_decides : (a b : Bool) → Decides (beq a b) (a ≡ b)
beq_decides true true = (λ h. refl, λ h. refl)
beq_decides true false = (λ h. absurd (cc), λ h. absurd (cc))
beq_decides false true = (λ h. absurd (cc), λ h. absurd (cc))
beq_decides false false = (λ h. refl, λ h. refl)

pub states_length : (rows : List Row) → length (states_of rows) ≡ length rows
states_length rows = length-map rows (λ row. state_of row)

-- the state that a row at a place holds
pub state_there : (rows : List Row) (row : Row) (place : ℕ) → row ≡ slice_index_or rows place row → place < length rows
    → state_at (states_of rows) place ≡ state_of row
state_there rows row place is within = get_or-map (λ row. state_of row) rows place row first_state within ∙ ap (λ r. state_of r) (sym is)

pub keeps_more : (first second third : List State) → Keeps first second → Keeps second third → Keeps first third
keeps_more first second third front back = record {
  longer = omega (arith, front.longer, back.longer);
  same = λ place within. back.same place (omega (arith, front.longer)) ∙ front.same place within;
}

-- a machine that does what it did has the same entries
pub entry_same : (old new : Machine) (states : List State) (entry : ℕ) (target there : State) → Same old new → target ≡ there
    → IsEntry new.steps.items new.whole states entry target → IsEntry old.steps.items old.whole states entry there
entry_same old new states entry target there same is h =
    subst (λ t. IsEntry old.steps.items old.whole states entry t) is
    (subst (λ ops. IsEntry ops old.whole states entry target) same.steps
    (subst (λ whole. IsEntry new.steps.items whole states entry target) same.whole h))

-- an entry stays one
pub entry_keeps : (ops : List Op) (whole : Bool) (states more : List State) (entry : ℕ) (target : State) → Keeps states more
    → IsEntry ops whole states entry target → IsEntry ops whole more entry target
entry_keeps ops whole states more entry target keeps (inl found) = inl found
entry_keeps ops whole states more entry target keeps (inr (other, within, is, quiet)) =
    inr (other, omega (arith, keeps.longer), keeps.same entry within ∙ is, quiet)

pub entered_push : (ops : List Op) (fold whole : Bool) (states more : List State) (next new : List ℕ) (state byte entry : ℕ)
    → Keeps states more → state < length states → length next ≡ 256 * state + byte → byte < 256 → new ≡ next ++ entry ∷ []
    → IsEntry ops whole more entry (after ops fold whole (state_at states state) byte)
    → Entered ops fold whole states next → Entered ops fold whole more new
entered_push ops fold whole states more next new state byte entry keeps here count small made is entered = λ s b small_b within.
    let long : length new ≡ length next + 1 = ap length made ∙ length-append next (entry ∷ []) in
    elim (cases_lt (256 * s + b) (length next)) [
      | inl before ↦
          let s_within : s < length states = omega arith in
          let value : slice_index_or new (256 * s + b) FOUND ≡ slice_index_or next (256 * s + b) FOUND =
          ap (λ all. slice_index_or all (256 * s + b) FOUND) made ∙ get_or-append next (entry ∷ []) FOUND (256 * s + b) before in
          subst (λ e. IsEntry ops whole more e (after ops fold whole (state_at more s) b)) (sym value)
          (subst (λ at. IsEntry ops whole more (slice_index_or next (256 * s + b) FOUND) (after ops fold whole at b)) (sym (keeps.same s s_within))
          (entry_keeps ops whole states more (slice_index_or next (256 * s + b) FOUND) (after ops fold whole (state_at states s) b) keeps
          (entered s b small_b before)))
      | inr last ↦
          let same_state : s ≡ state = omega arith in
          let same_byte : b ≡ byte = omega arith in
          let at : 256 * s + b ≡ length next = omega arith in
          let value : slice_index_or new (256 * s + b) FOUND ≡ entry =
          ap₂ (λ all place. slice_index_or all place FOUND) made at ∙ get_or-append_seam next entry [] FOUND in
          subst (λ e. IsEntry ops whole more e (after ops fold whole (state_at more s) b)) (sym value)
          (subst (λ p. IsEntry ops whole more entry (after ops fold whole (state_at more p) b)) (sym same_state)
          (subst (λ p. IsEntry ops whole more entry (after ops fold whole (state_at more state) p)) (sym same_byte)
          (subst (λ from. IsEntry ops whole more entry (after ops fold whole from byte)) (sym (keeps.same state here)) is)))
    ]

-- a machine that does what it did has the same table
pub entered_same : (old new : Machine) (states : List State) (next : List ℕ) → Same old new
    → Entered new.steps.items new.fold new.whole states next → Entered old.steps.items old.fold old.whole states next
entered_same old new states next same entered = λ state byte small within.
    subst (λ ops. IsEntry ops old.whole states (slice_index_or next (256 * state + byte) FOUND) (after ops old.fold old.whole (state_at states state) byte)) same.steps
    (subst (λ fold. IsEntry new.steps.items old.whole states (slice_index_or next (256 * state + byte) FOUND) (after new.steps.items fold old.whole (state_at states state) byte)) same.fold
    (subst (λ whole. IsEntry new.steps.items whole states (slice_index_or next (256 * state + byte) FOUND) (after new.steps.items new.fold whole (state_at states state) byte)) same.whole
    (entered state byte small within)))

pub entered_back : (old new : Machine) (states : List State) (next : List ℕ) → Same old new
    → Entered old.steps.items old.fold old.whole states next → Entered new.steps.items new.fold new.whole states next
entered_back old new states next same = entered_same new old states next
    (record { steps = sym same.steps; fold = sym same.fold; whole = sym same.whole })

-- one flag more
pub ended_push : (ops : List Op) (whole : Bool) (states more : List State) (ends new : List Bool) (state : ℕ) (led : Bool)
    → Keeps states more → length ends ≡ state → state < length states → new ≡ ends ++ led ∷ []
    → led ≡ leads_at ops whole true (state_at states state)
    → ((place : ℕ) → place < state → slice_index_or ends place true ≡ leads_at ops whole true (state_at states place))
    → (place : ℕ) → place < state + 1 → slice_index_or new place true ≡ leads_at ops whole true (state_at more place)
ended_push ops whole states more ends new state led keeps count here made is before place within =
    elim (cases_lt place state) [
      | inl lt ↦
          let small : place < length ends = omega arith in
          let known : place < length states = omega arith in
          ap (λ all. slice_index_or all place true) made ∙ get_or-append ends (led ∷ []) true place small ∙ before place lt
          ∙ sym (ap (λ s. leads_at ops whole true s) (keeps.same place known))
      | inr ge ↦
          let at : place ≡ length ends = omega arith in
          let there : place ≡ state = omega arith in
          ap₂ (λ all p. slice_index_or all p true) made at ∙ get_or-append_seam ends led [] true ∙ is
          ∙ sym (ap (λ s. leads_at ops whole true s) (keeps.same state here))
          ∙ sym (ap (λ p. leads_at ops whole true (state_at more p)) there)
    ]
