-- Numbers below a list's length that stand in it once at most stand there once each: there is no room for another.
use Rattle.std.proofs.Common.{◌≡◌, ℕ, zero, suc, ◌+◌, ◌<◌, ◌≤◌, ◌==◌, List, [], ◌∷◌, true, false, length, refl, arith, eq-eqb}
use mathlib.Core.Logic.{⊎_elim}
use Rattle.std.proofs.lemmas.Bool.{cases_eq, ne_eqb, or_left, or_right}
use Rattle.fl_graph.specs.Net.{has, count}

-- how often the numbers below this one are in the list
total : ℕ → List ℕ → ℕ
total zero edges = 0
total (suc number) edges = count number edges + total number edges

module _ (edges : List ℕ) (once : (edge : ℕ) → count edge edges ≤ 1) where
  most : (number : ℕ) → total number edges ≤ number
  unfolding total
  most zero = omega arith
  most (suc number) = let one = once number in let rest = most number in omega (arith, one, rest)

  -- one fewer where one of them isn't there
  fewer : (number edge : ℕ) → edge < number → count edge edges ≡ 0 → suc (total number edges) ≤ number
  unfolding total
  fewer zero edge below none = absurd (omega arith)
  fewer (suc number) edge below none =
      ⊎_elim
      (λ (same : edge ≡ number). let rest = most number in let here : count number edges ≡ 0 = rw (← same) none in omega (arith, rest, here))
      (λ (other : edge ≡ number → ⊥). let one = once number in let rest = fewer number edge (omega arith) none in omega (arith, one, rest))
      (cases_eq edge number)

total-empty : (number : ℕ) → total number [] ≡ 0
unfolding total
total-empty zero = refl
total-empty (suc number) = let rest = total-empty number in omega (arith, rest)

-- one more number in the list is one more in all
total-before : (number edge : ℕ) (edges : List ℕ) → number ≤ edge → total number (edge ∷ edges) ≡ total number edges
unfolding total
total-before zero edge edges within = refl
total-before (suc number) edge edges within =
    let rest = total-before number edge edges (omega arith) in
    let other : (edge == number) ≡ false = ne_eqb edge number (λ same. omega arith) in
    rw other (omega (arith, rest))

total-more : (number edge : ℕ) (edges : List ℕ) → edge < number → total number (edge ∷ edges) ≡ suc (total number edges)
unfolding total
total-more zero edge edges below = absurd (omega arith)
total-more (suc number) edge edges below =
    ⊎_elim
    (λ (same : edge ≡ number). let rest = total-before number edge edges (omega arith) in rw (eq-eqb edge number same) (omega (arith, rest)))
    (λ (other : edge ≡ number → ⊥). let rest = total-more number edge edges (omega arith) in rw (ne_eqb edge number other) (omega (arith, rest)))
    (cases_eq edge number)

-- all of the list's numbers are counted
total-all : (number : ℕ) (edges : List ℕ) → ((edge : ℕ) → has edge edges ≡ true → edge < number) → total number edges ≡ length edges
total-all number [] below = total-empty number
total-all number (edge ∷ edges) below =
    let more = total-more number edge edges (below edge (or_left (edge == edge) (has edge edges) (eq-eqb edge edge refl))) in
    let rest = total-all number edges (λ other there. below other (or_right (edge == other) (has other edges) there)) in
    omega (arith, more, rest)

pub each_below : (edges : List ℕ) → ((edge : ℕ) → has edge edges ≡ true → edge < length edges) → ((edge : ℕ) → count edge edges ≤ 1)
    → (edge : ℕ) → edge < length edges → count edge edges ≡ 1
each_below edges below once edge within =
    ⊎_elim
    (λ (none : count edge edges ≡ 0). let few = fewer edges once (length edges) edge within none in let all = total-all (length edges) edges below in absurd (omega (arith, few, all)))
    (λ (some : count edge edges ≡ 0 → ⊥). let one = once edge in omega (arith, one, some))
    (cases_eq (count edge edges) 0)
