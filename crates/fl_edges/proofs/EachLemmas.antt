-- Relations of two lists, place by place, as loops go along them.
use Rattle.std.proofs.Common.{◌≡◌, ℕ, zero, suc, ◌+◌, ◌<◌, List, [], ◌∷◌, ◌++◌, length, take, drop, get_or, refl, ap, sym, subst, ◌∙◌, arith}
use Rattle.std.proofs.Math.Seq.{take-suc}
use Rattle.std.specs.List.{flat_map}
use Rattle.fl_threads.specs.Threads.{EachOf}

-- the items from a place on are that at the place, and those behind it
pub drop-first : {A : Type 0} (all : List A) (place : ℕ) (spare : A) → place < length all → drop place all ≡ get_or all place spare ∷ drop (place + 1) all
drop-first [] place spare within = absurd (omega (arith, within))
drop-first (first ∷ all) zero spare within = refl
drop-first {A} (first ∷ all) (suc place) spare within =
    let shift : suc place + 1 ≡ suc (place + 1) = omega arith in
    drop-first all place spare (omega (arith, within)) ∙ ap (λ (it : ℕ). get_or all place spare ∷ drop it (first ∷ all)) (sym shift)

-- so with the parts of all of them
pub parts-first : {A B : Type 0} (part : A → List B) (all : List A) (place : ℕ) (item : A) → place < length all → item ≡ get_or all place item
    → flat_map part (drop place all) ≡ part item ++ flat_map part (drop (place + 1) all)
parts-first {A} part all place item within is =
    ap (flat_map part) (drop-first all place item within) ∙ ap (λ (it : A). part it ++ flat_map part (drop (place + 1) all)) (sym is)

module _ {A B : Type 0} (Holds : A → B → Type 0) where
  each-more : (ones : List A) (others : List B) (one : A) (other : B) → EachOf Holds ones others → Holds one other → EachOf Holds (ones ++ one ∷ []) (others ++ other ∷ [])
  each-more [] [] one other each here = (here, tt)
  each-more [] (second ∷ others) one other each here = absurd each
  each-more (first ∷ ones) [] one other each here = absurd each
  each-more (first ∷ ones) (second ∷ others) one other each here = (each.0, each-more ones others one other each.1 here)

  -- one more holds, for the item at this place
  pub each-next : (all : List A) (place : ℕ) (item : A) (done now : List B) (other : B) → place < length all → item ≡ get_or all place item → now ≡ done ++ other ∷ []
      → Holds item other → EachOf Holds (take place all) done → EachOf Holds (take (place + 1) all) now
  each-next all place item done now other within is more here before =
      let one : suc place ≡ place + 1 = omega arith in
      subst (λ (it : ℕ). EachOf Holds (take it all) now) one
      (subst (λ (it : List A). EachOf Holds it now) (sym (take-suc all place item within))
      (subst (λ (it : A). EachOf Holds (take place all ++ it ∷ []) now) is
      (subst (λ (it : List B). EachOf Holds (take place all ++ item ∷ []) it) (sym more) (each-more (take place all) done item other before here))))

  -- where one is left there is an item at this place, and it holds of the two; and of those behind
  pub each-within : (all : List A) (place : ℕ) (other : B) (rest left : List B) → left ≡ other ∷ rest → EachOf Holds (drop place all) left → place < length all
  each-within all place other rest left is each = at all place (subst (EachOf Holds (drop place all)) is each)
    where
      at : (all : List A) (place : ℕ) → EachOf Holds (drop place all) (other ∷ rest) → place < length all
      at [] zero each = absurd each
      at [] (suc place) each = absurd each
      at (first ∷ all) zero each = omega arith
      at (first ∷ all) (suc place) each = let within = at all place each in omega (arith, within)

  each-parts : (all : List A) (place : ℕ) (spare : A) (other : B) (rest left : List B) → left ≡ other ∷ rest → place < length all → EachOf Holds (drop place all) left
      → Holds (get_or all place spare) other × EachOf Holds (drop (place + 1) all) rest
  each-parts all place spare other rest left is within each =
      subst (λ (it : List A). EachOf Holds it (other ∷ rest)) (drop-first all place spare within) (subst (EachOf Holds (drop place all)) is each)

  pub each-first : (all : List A) (place : ℕ) (item : A) (other : B) (rest left : List B) → left ≡ other ∷ rest → place < length all → item ≡ get_or all place item
      → EachOf Holds (drop place all) left → Holds item other
  each-first all place item other rest left is within same each =
      subst (λ (it : A). Holds it other) (sym same) (each-parts all place item other rest left is within each).0

  pub each-rest : (all : List A) (place : ℕ) (item : A) (other : B) (rest left : List B) → left ≡ other ∷ rest → place < length all → EachOf Holds (drop place all) left
      → EachOf Holds (drop (place + 1) all) rest
  each-rest all place item other rest left is within each = (each-parts all place item other rest left is within each).1

  -- what holds of those behind and of the two here holds from here on
  pub each-back : (all : List A) (place : ℕ) (item : A) (other : B) (rest left : List B) → left ≡ other ∷ rest → place < length all → item ≡ get_or all place item → Holds item other
      → EachOf Holds (drop (place + 1) all) rest → EachOf Holds (drop place all) left
  each-back all place item other rest left is within same here behind =
      subst (EachOf Holds (drop place all)) (sym is)
      (subst (λ (it : List A). EachOf Holds it (other ∷ rest)) (sym (drop-first all place item within)) (subst (λ (it : A). Holds it other) same here, behind))

  -- where none is left, no item is
  pub each-none : (ones : List A) (others : List B) → others ≡ [] → EachOf Holds ones others → ones ≡ []
  each-none [] others none each = refl
  each-none (first ∷ ones) [] none each = absurd each
  each-none (first ∷ ones) (second ∷ others) none each = absurd (cc)

  -- as many items are there
  pub each-length : (ones : List A) (others : List B) → EachOf Holds ones others → length others ≡ length ones
  each-length [] [] each = refl
  each-length [] (second ∷ others) each = absurd each
  each-length (first ∷ ones) [] each = absurd each
  each-length (first ∷ ones) (second ∷ others) each = ap suc (each-length ones others each.1)

-- what follows from each holds of each
pub each-map : {A B : Type 0} (Holds Then : A → B → Type 0) → ((one : A) (other : B) → Holds one other → Then one other) → (ones : List A) (others : List B) → EachOf Holds ones others
    → EachOf Then ones others
each-map Holds Then leads [] [] each = tt
each-map Holds Then leads [] (second ∷ others) each = absurd each
each-map Holds Then leads (first ∷ ones) [] each = absurd each
each-map Holds Then leads (first ∷ ones) (second ∷ others) each = (leads first second each.0, each-map Holds Then leads ones others each.1)
