-- When there is a half for each of some edges, in counts.
use Rattle.std.proofs.Common.{◌≡◌, ◌≢◌, ℕ, ◌+◌, ◌≤◌, List, [], ◌∷◌, ◌++◌, Bool, true, false, ◌&&◌, if◌then◌else◌, Option, is_some, arith, refl, ap, sym, ◌∙◌, ⊎_elim, eq-eqb}
use Rattle.std.proofs.lemmas.Bool.{cases_eq, and_parts, and_from, ne_eqb}
use Rattle.fl_graph.specs.Net.{count}
use Rattle.fl_nodes.specs.Stashes.{half_of, has_each, lying, without, without_all}
use Rattle.fl_nodes.proofs.StashLemmas.{half_of-without_same, half_of-without_other}

-- one or none lies at a number
lying-most : {Half : Type 0} (stash : List (Option Half)) (edge : ℕ) → lying stash edge ≤ 1
lying-most stash edge = by_half (is_some (half_of stash edge))
  where
    by_half : (there : Bool) → (if there then 1 else 0) ≤ 1
    by_half true = omega arith
    by_half false = omega arith

there-lying : {Half : Type 0} (stash : List (Option Half)) (edge : ℕ) → 1 ≤ lying stash edge → is_some (half_of stash edge) ≡ true
there-lying stash edge one = by_half (is_some (half_of stash edge)) one
  where
    by_half : (there : Bool) → 1 ≤ (if there then 1 else 0) → there ≡ true
    by_half true one = refl
    by_half false one = absurd (omega (arith, one))

lying-there : {Half : Type 0} (stash : List (Option Half)) (edge : ℕ) → is_some (half_of stash edge) ≡ true → lying stash edge ≡ 1
lying-there stash edge there = ap (λ (it : Bool). if it then 1 else 0) there

-- where one is gone none lies at its number, and at all others as many as before
lying-same : {Half : Type 0} (stash : List (Option Half)) (edge : ℕ) → lying (without stash edge) edge ≡ 0
lying-same {Half} stash edge = ap (λ (it : Option Half). if is_some it then 1 else 0) (half_of-without_same stash edge)

lying-other : {Half : Type 0} (stash : List (Option Half)) (edge other : ℕ) → other ≢ edge → lying (without stash edge) other ≡ lying stash other
lying-other {Half} stash edge other apart = ap (λ (it : Option Half). if is_some it then 1 else 0) (half_of-without_other stash edge other apart)

-- how often an edge is wanted, by the first of the edges
count-same : (edge first : ℕ) (edges : List ℕ) → first ≡ edge → count edge (first ∷ edges) ≡ 1 + count edge edges
count-same edge first edges same = ap (λ (it : Bool). (if it then 1 else 0) + count edge edges) (eq-eqb first edge same)

count-other : (edge first : ℕ) (edges : List ℕ) → first ≢ edge → count edge (first ∷ edges) ≡ 0 + count edge edges
count-other edge first edges apart = ap (λ (it : Bool). (if it then 1 else 0) + count edge edges) (ne_eqb first edge apart)

-- where there is a half for each, none is wanted more often than one lies there
pub each-counted : {Half : Type 0} (stash : List (Option Half)) (edges : List ℕ) → has_each stash edges ≡ true → (edge : ℕ) → count edge edges ≤ lying stash edge
each-counted stash [] is edge = omega arith
each-counted stash (first ∷ edges) is edge =
    let parts = and_parts (is_some (half_of stash first)) (has_each (without stash first) edges) is in
    let rest : count edge edges ≤ lying (without stash first) edge = each-counted (without stash first) edges parts.1 edge in
    ⊎_elim (λ (same : first ≡ edge).
    let none : lying (without stash first) edge ≡ 0 = ap (λ (it : ℕ). lying (without stash it) edge) same ∙ lying-same stash edge in
    let one : lying stash edge ≡ 1 = lying-there stash edge (ap (λ (it : ℕ). is_some (half_of stash it)) (sym same) ∙ parts.0) in
    let more = count-same edge first edges same in
    omega (arith, rest, none, one, more))
    (λ (apart : first ≢ edge).
    let other = lying-other stash first edge (λ same. apart (sym same)) in
    let more = count-other edge first edges apart in
    omega (arith, rest, other, more)) (cases_eq first edge)

-- and where none is, there is a half for each
pub counted-each : {Half : Type 0} (stash : List (Option Half)) (edges : List ℕ) → ((edge : ℕ) → count edge edges ≤ lying stash edge) → has_each stash edges ≡ true
counted-each stash [] counts = refl
counted-each stash (first ∷ edges) counts =
    let here = counts first in
    let one = count-same first first edges refl in
    let there : is_some (half_of stash first) ≡ true = there-lying stash first (omega (arith, here, one)) in
    and_from (is_some (half_of stash first)) (has_each (without stash first) edges) there (counted-each (without stash first) edges (λ edge.
    let all = counts edge in
    ⊎_elim (λ (same : first ≡ edge).
    let most = lying-most stash edge in
    let more = count-same edge first edges same in
    omega (arith, all, most, more))
    (λ (apart : first ≢ edge).
    let other = lying-other stash first edge (λ same. apart (sym same)) in
    let more = count-other edge first edges apart in
    omega (arith, all, other, more)) (cases_eq first edge)))

-- edges that are dealt in turns
pub has_each-append : {Half : Type 0} (stash : List (Option Half)) (front behind : List ℕ)
    → has_each stash (front ++ behind) ≡ (has_each stash front && has_each (without_all stash front) behind)
has_each-append stash [] behind = refl
has_each-append stash (first ∷ front) behind =
    ap (λ (it : Bool). is_some (half_of stash first) && it) (has_each-append (without stash first) front behind)
    ∙ grouped (is_some (half_of stash first)) (has_each (without stash first) front) (has_each (without_all (without stash first) front) behind)
  where
    grouped : (one other last : Bool) → (one && (other && last)) ≡ ((one && other) && last)
    grouped true other last = refl
    grouped false other last = refl
