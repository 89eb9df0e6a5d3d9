-- A machine whose stream reads its inputs at once, as a piece comes at the in whose turn it is.
use Rattle.std.proofs.Common.{◌≡◌, ◌==◌, ◌+◌, ◌<◌, ◌≤◌, ◌&&◌, ℕ, zero, suc, List, [], ◌∷◌, ◌++◌, length, get_or, set, nat_lt, Option, Some, None, Bool, true, false, if◌then◌else◌, refl, ap, sym, ◌∙◌, length-append, arith}
use Rattle.std.proofs.lemmas.Bool.{true≢false, eq-eqb, eqb-true, lt-ltb, le-ltb, ltb-false, ltb-true}
use Rattle.std.proofs.lemmas.List.{get_or-set_same, get_or-set_other}
use Rattle.fl_graph.specs.Machines.{is_take}
use Rattle.fl_graph.specs.declared.pieces.Act.TheVariants as act
use Rattle.fl_machines.specs.AtPorts.{first_open, next_at_ports}
use Rattle.fl_machines.proofs.WaitingLemmas.{empty-none, nothing-worth}

-- THE INS. So many are open
less-suc : (port count : ℕ) → nat_lt (suc port) (suc count) ≡ nat_lt port count
less-suc port count = by_test (nat_lt port count) refl
  where
    by_test : (less : Bool) → nat_lt port count ≡ less → nat_lt (suc port) (suc count) ≡ less
    by_test true is = let below = ltb-true port count is in lt-ltb (suc port) (suc count) (omega (arith, below))
    by_test false is = let past = ltb-false port count is in le-ltb (suc port) (suc count) (omega (arith, past))

all-open : (opens : List Bool) → ((port : ℕ) → get_or opens port false ≡ nat_lt port (length opens)) → (port : ℕ) → get_or (opens ++ true ∷ []) port false ≡ nat_lt port (suc (length opens))
all-open [] all zero = refl
all-open [] all (suc port) = sym (le-ltb (suc port) 1 (omega arith))
all-open (first ∷ opens) all zero = all 0 ∙ lt-ltb 0 (suc (length opens)) (omega arith) ∙ sym (lt-ltb 0 (suc (suc (length opens))) (omega arith))
all-open (first ∷ opens) all (suc port) =
    all-open opens (λ port. all (suc port) ∙ less-suc port (length opens)) port ∙ sym (less-suc port (suc (length opens)))

-- as many as there are are open
pub record AreOpen (opens : List Bool) (count : ℕ) : Type 0 where
  pub sized : length opens ≡ count
  pub all : (port : ℕ) → get_or opens port false ≡ nat_lt port count

pub AreOpen-none : AreOpen [] 0
AreOpen-none = record { sized = refl; all = λ port. none port ∙ sym (le-ltb port 0 (omega arith)) }
  where
    none : (port : ℕ) → get_or [] port false ≡ false
    none zero = refl
    none (suc port) = refl

pub AreOpen-push : (opens : List Bool) (count count' : ℕ) → AreOpen opens count → count' ≡ count + 1 → AreOpen (opens ++ true ∷ []) count'
AreOpen-push opens count count' are is =
    let sized = are.sized in
    let last : suc (length opens) ≡ count' = omega (arith, sized, is) in
    record {
      sized = length-append opens (true ∷ []) ∙ whole sized;
      all = λ port. all-open opens (λ port. are.all port ∙ ap (nat_lt port) (sym sized)) port ∙ ap (nat_lt port) last;
    }
  where
    whole : length opens ≡ count → length opens + 1 ≡ count'
    whole sized = omega (arith, sized, is)

-- the first that is open
pub first-some : (opens : List Bool) (at port : ℕ) → first_open at opens ≡ Some port → (place : ℕ) × ((port ≡ at + place) × (get_or opens place false ≡ true))
first-some [] at port is = cc
first-some (true ∷ opens) at port is = (0, (first is, refl))
  where
    first : Some at ≡ Some port → port ≡ at + 0
    first is = let same : port ≡ at = cc in omega (arith, same)
first-some (false ∷ opens) at port is =
    let more = first-some opens (suc at) port is in
    (suc more.0, (behind more.0 more.1.0, more.1.1))
  where
    behind : (place : ℕ) → port ≡ suc at + place → port ≡ at + suc place
    behind place is = omega (arith, is)

pub first-none : (opens : List Bool) (at : ℕ) → first_open at opens ≡ None → (port : ℕ) → get_or opens port false ≡ false
first-none [] at is zero = refl
first-none [] at is (suc port) = refl
first-none (true ∷ opens) at is port = cc
first-none (false ∷ opens) at is zero = refl
first-none (false ∷ opens) at is (suc port) = first-none opens (suc at) is port

-- an in ends
pub closed-in : (opens : List Bool) (place : ℕ) → place < length opens → (other : ℕ) → get_or (set opens place false) other false ≡ (if other == place then false else get_or opens other false)
closed-in opens place within other = by_test (other == place) refl
  where
    by_test : (same : Bool) → (other == place) ≡ same → get_or (set opens place false) other false ≡ (if same then false else get_or opens other false)
    by_test true same = ap (λ other. get_or (set opens place false) other false) (eqb-true other place same) ∙ get_or-set_same opens place false false within
    by_test false same = get_or-set_other opens place other false false (λ is. true≢false (sym (eq-eqb other place is) ∙ same))

pub closed-past : (opens : List Bool) (place : ℕ) → length opens ≤ place → (other : ℕ) → get_or opens other false ≡ (if other == place then false else get_or opens other false)
closed-past opens place past other = by_test (other == place) refl
  where
    beyond : (opens : List Bool) (place : ℕ) → length opens ≤ place → get_or opens place false ≡ false
    beyond [] zero past = refl
    beyond [] (suc place) past = refl
    beyond (first ∷ opens) zero past = absurd (omega arith)
    beyond (first ∷ opens) (suc place) past = beyond opens place (omega arith)

    by_test : (same : Bool) → (other == place) ≡ same → get_or opens other false ≡ (if same then false else get_or opens other false)
    by_test true same = ap (λ other. get_or opens other false) (eqb-true other place same) ∙ beyond opens place past
    by_test false same = refl

pub ruleset closes = (closed-in, closed-past)

pub first-is : (opens : List Bool) (port : ℕ) → first_open 0 opens ≡ Some port → get_or opens port false ≡ true
first-is opens port is =
    let found = first-some opens 0 port is in
    ap (λ port. get_or opens port false) (found.1.0 ∙ whole found.0) ∙ found.1.1
  where
    whole : (place : ℕ) → 0 + place ≡ place
    whole place = omega arith

pub no-first : (opens : List Bool) → first_open 0 opens ≡ None → (port : ℕ) → get_or opens port false ≡ false
no-first opens is = first-none opens 0 is

pub first-left : (opens left : List Bool) (at : ℕ) → first_open 0 opens ≡ first_open at left → length left < 1 → (port : ℕ) → get_or opens port false ≡ false
first-left opens [] at is none = no-first opens is
first-left opens (first ∷ left) at is none = absurd (omega (arith, none))

pub ruleset firsts = (first-is, no-first)

pub ruleset opened = (AreOpen-none, AreOpen-push)

-- THE TURN. A machine that takes has one
pub turn-some : (urgent : Bool) (turn : Option ℕ) (putting : Bool) → is_take (next_at_ports urgent turn putting) ≡ true → turn ≡ None → ⊥
turn-some urgent turn putting takes is = by_urgent (putting && urgent) putting (ap (λ turn. is_take (next_at_ports urgent turn putting)) (sym is) ∙ takes)
  where
    by_urgent : (waits putting : Bool) → is_take (if waits then act.Put 0 else if putting then act.Put 0 else act.Stop) ≡ true → ⊥
    by_urgent true putting takes = true≢false (sym takes)
    by_urgent false true takes = true≢false (sym takes)
    by_urgent false false takes = true≢false (sym takes)

pub ruleset takes = (turn-some, empty-none, nothing-worth)
