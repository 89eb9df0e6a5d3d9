-- Tests of lists, and how often an edge is in one.
use Rattle.std.proofs.Common.{◌≡◌, ℕ, ◌+◌, ◌≤◌, ◌==◌, List, [], ◌∷◌, ◌++◌, min, Bool, true, false, ◌&&◌, ◌||◌, if◌then◌else◌, refl, ap, sym, subst, ◌∙◌, arith, eq-eqb}
use Rattle.std.specs.List.{list_all, flat_map}
use Rattle.std.proofs.lemmas.Bool.{and_parts, and_from, or_left, or_right, eqb-true}
use Rattle.std.proofs.lemmas.List.Folds.{list_all-append}
use Rattle.fl_graph.specs.Net.{has, count}

-- tests that imply each other are the same
pub same_tests : (one other : Bool) → (one ≡ true → other ≡ true) → (other ≡ true → one ≡ true) → one ≡ other
same_tests true true there back = refl
same_tests true false there back = sym (there refl)
same_tests false true there back = back refl
same_tests false false there back = refl

pub and-true : (test : Bool) → (test && true) ≡ test
and-true true = refl
and-true false = refl

and-swapped : (a b c d : Bool) → ((a && b) && (c && d)) ≡ ((a && c) && (b && d))
and-swapped true true c d = refl
and-swapped true false true d = refl
and-swapped true false false d = refl
and-swapped false b c d = refl

-- two tests hold of all where each does
pub list_all-both : {X : Type 0} (one other : X → Bool) (xs : List X) → list_all (λ x. one x && other x) xs ≡ (list_all one xs && list_all other xs)
list_all-both one other [] = refl
list_all-both one other (x ∷ xs) = ap (λ rest. (one x && other x) && rest) (list_all-both one other xs) ∙ and-swapped (one x) (other x) (list_all one xs) (list_all other xs)

-- a test holds of the lists joined where it holds of each
pub list_all-flat_map : {X Y : Type 0} (test : Y → Bool) (parts : X → List Y) (xs : List X) → list_all test (flat_map parts xs) ≡ list_all (λ x. list_all test (parts x)) xs
list_all-flat_map test parts [] = refl
list_all-flat_map test parts (x ∷ xs) = list_all-append test (parts x) (flat_map parts xs) ∙ ap (λ rest. list_all test (parts x) && rest) (list_all-flat_map test parts xs)

-- tests that agree hold of the same lists
pub list_all-agree : {X : Type 0} (one other : X → Bool) → ((x : X) → one x ≡ other x) → (xs : List X) → list_all one xs ≡ list_all other xs
list_all-agree one other agree [] = refl
list_all-agree one other agree (x ∷ xs) = ap (λ first. first && list_all one xs) (agree x) ∙ ap (λ rest. other x && rest) (list_all-agree one other agree xs)

-- what holds of all edges of a list holds of one that is in it
pub holds-has : (test : ℕ → Bool) (edge : ℕ) (edges : List ℕ) → list_all test edges ≡ true → has edge edges ≡ true → test edge ≡ true
holds-has test edge [] all there = absurd (cc)
holds-has test edge (other ∷ edges) all there =
    let parts = and_parts (test other) (list_all test edges) all in
    step (other == edge) refl there parts.0 (holds-has test edge edges parts.1)
  where
    step : (equal : Bool) → (other == edge) ≡ equal → (equal || has edge edges) ≡ true → test other ≡ true → (has edge edges ≡ true → test edge ≡ true) → test edge ≡ true
    step true is there first rest = subst (λ it. test it ≡ true) (eqb-true other edge is) first
    step false is there first rest = rest there

-- and the other way round
pub all-has : (test : ℕ → Bool) (edges : List ℕ) → ((edge : ℕ) → has edge edges ≡ true → test edge ≡ true) → list_all test edges ≡ true
all-has test [] each = refl
all-has test (other ∷ edges) each =
    let first = each other (or_left (other == other) (has other edges) (eq-eqb other other refl)) in
    let rest = all-has test edges (λ edge there. each edge (or_right (other == edge) (has edge edges) there)) in
    and_from (test other) (list_all test edges) first rest

-- an edge is as often in two lists as in the one and in the other
pub count-append : (edge : ℕ) (front back : List ℕ) → count edge (front ++ back) ≡ count edge front + count edge back
count-append edge [] back = omega arith
count-append edge (other ∷ front) back = let rest = count-append edge front back in omega (arith, rest)

-- counting up to two goes on behind a part
pub count_on : (edge : ℕ) (part rest : List ℕ) (before times total : ℕ) → before ≤ 2 → min 2 (before + count edge (part ++ rest)) ≡ total
    → times ≡ min 2 (before + count edge part) → (times ≤ 2) × (min 2 (times + count edge rest) ≡ total)
count_on edge part rest before times total within was is = let both = count-append edge part rest in (omega arith, omega (arith, both))

-- an edge that is in a list is counted there, and another isn't
pub count-has : (edge : ℕ) (edges : List ℕ) → has edge edges ≡ true → 1 ≤ count edge edges
count-has edge [] there = absurd (cc)
count-has edge (other ∷ edges) there = step (other == edge) (has edge edges) (count edge edges) there (count-has edge edges)
  where
    step : (equal more : Bool) (times : ℕ) → (equal || more) ≡ true → (more ≡ true → 1 ≤ times) → 1 ≤ (if equal then 1 else 0) + times
    step true more times there rest = omega arith
    step false more times there rest = let some = rest there in omega (arith, some)

pub count-none : (edge : ℕ) (edges : List ℕ) → has edge edges ≡ false → count edge edges ≡ 0
count-none edge [] none = refl
count-none edge (other ∷ edges) none = step (other == edge) (has edge edges) (count edge edges) none (count-none edge edges)
  where
    step : (equal more : Bool) (times : ℕ) → (equal || more) ≡ false → (more ≡ false → times ≡ 0) → (if equal then 1 else 0) + times ≡ 0
    step true more times none rest = absurd (cc)
    step false more times none rest = let zero_times = rest none in omega (arith, zero_times)
