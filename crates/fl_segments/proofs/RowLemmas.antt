-- Numbers in a row.
use Rattle.std.proofs.Common.{◌≡◌, ℕ, zero, suc, ◌+◌, ◌-◌, ◌<◌, ◌≤◌, ◌==◌, List, [], ◌∷◌, ◌++◌, Bool, true, false, ◌||◌, if◌then◌else◌, get_or, length, map, nat_lt, refl, ap, sym, ◌∙◌, append-nil, append_assoc, length-append, arith, eq-eqb}
use Rattle.std.specs.List.{range_with_len}
use Rattle.std.proofs.lemmas.Bool.{true≢false, eqb-true, lt-ltb, ltb-true, ne_eqb}
use Rattle.fl_graph.specs.Net.{has, count, store}

-- what stands behind a list's front, and in it
pub get-here : {Value : Type 0} (front rest : List Value) (value spare : Value) → get_or (front ++ value ∷ rest) (length front) spare ≡ value
get-here [] rest value spare = refl
get-here (first ∷ front) rest value spare = get-here front rest value spare

pub get-front : {Value : Type 0} (front rest : List Value) (place : ℕ) (spare : Value) → place < length front → get_or (front ++ rest) place spare ≡ get_or front place spare
get-front [] rest place spare below = absurd (omega (arith, below))
get-front (first ∷ front) rest zero spare below = refl
get-front (first ∷ front) rest (suc place) spare below = get-front front rest place spare (omega (arith, below))

pub get-behind : {Value : Type 0} (front rest : List Value) (place : ℕ) (spare : Value) → get_or (front ++ rest) (length front + place) spare ≡ get_or rest place spare
get-behind [] rest place spare = let none : 0 + place ≡ place = omega arith in ap (λ (at : ℕ). get_or rest at spare) none
get-behind (first ∷ front) rest place spare =
    let on : suc (length front) + place ≡ suc (length front + place) = omega arith in
    ap (λ (at : ℕ). get_or (first ∷ (front ++ rest)) at spare) on ∙ get-behind front rest place spare

pub map-both : {One Other : Type 0} (f : One → Other) (front back : List One) → map f (front ++ back) ≡ map f front ++ map f back
map-both f [] back = refl
map-both f (first ∷ front) back = ap (λ rest. f first ∷ rest) (map-both f front back)

-- the values of a row that stands behind others
pub row-texts : {Value : Type 0} (front new : List Value) (spare : Value) → map (λ at. get_or (front ++ new) at spare) (range_with_len (length front) (length new)) ≡ new
row-texts front [] spare = refl
row-texts {Value} front (value ∷ new) spare =
    let all : (front ++ value ∷ []) ++ new ≡ front ++ value ∷ new = append_assoc front (value ∷ []) new in
    let size : length (front ++ value ∷ []) ≡ length front + 1 = length-append front (value ∷ []) in
    ap (λ (first : Value). first ∷ map (λ at. get_or (front ++ value ∷ new) at spare) (range_with_len (length front + 1) (length new))) (get-here front new value spare)
    ∙ ap (λ (rest : List Value). value ∷ rest)
    (ap (λ (whole : List Value). map (λ at. get_or whole at spare) (range_with_len (length front + 1) (length new))) (sym all)
    ∙ ap (λ (from : ℕ). map (λ at. get_or ((front ++ value ∷ []) ++ new) at spare) (range_with_len from (length new))) (sym size)
    ∙ row-texts (front ++ value ∷ []) new spare)

-- two rows, one behind the other, are one
pub range-append : (start front back : ℕ) → range_with_len start front ++ range_with_len (start + front) back ≡ range_with_len start (front + back)
range-append start zero back =
    let none : start + 0 ≡ start = omega arith in let all : 0 + back ≡ back = omega arith in rw none (rw all refl)
range-append start (suc front) back =
    let on : start + suc front ≡ (start + 1) + front = omega arith in let all : suc front + back ≡ suc (front + back) = omega arith in
    rw on (rw all (ap (λ rest. start ∷ rest) (range-append (start + 1) front back)))

-- a row grows at its end
pub row_more : (old new : List ℕ) (from done number : ℕ) → old ≡ range_with_len from done → number ≡ from + done → new ≡ old ++ number ∷ [] → new ≡ range_with_len from (done + 1)
row_more old new from done number row next grown =
    grown ∙ ap (λ (front : List ℕ). front ++ number ∷ []) row ∙ ap (λ (last : ℕ). range_with_len from done ++ last ∷ []) next ∙ range-append from done 1

-- which numbers are in a row, and how often
pub range-has : (start size edge : ℕ) → start ≤ edge → edge < start + size → has edge (range_with_len start size) ≡ true
range-has start zero edge from below = absurd (omega arith)
range-has start (suc size) edge from below = by_first (start == edge) refl (λ next. range-has (start + 1) size edge next (omega arith))
  where
    by_first : (here : Bool) → (start == edge) ≡ here → (start + 1 ≤ edge → has edge (range_with_len (start + 1) size) ≡ true) → (here || has edge (range_with_len (start + 1) size)) ≡ true
    by_first true _ later = refl
    by_first false differ later = let other : start ≡ edge → ⊥ = λ same. true≢false (sym (eq-eqb start edge same) ∙ differ) in later (omega (arith, other))

pub range-none : (start size edge : ℕ) → edge < start → count edge (range_with_len start size) ≡ 0
range-none start zero edge below = refl
range-none start (suc size) edge below =
    let differ : (start == edge) ≡ false = ne_eqb start edge (λ same. omega arith) in
    let rest = range-none (start + 1) size edge (omega arith) in
    rw differ (omega (arith, rest))

pub range-once : (start size edge : ℕ) → count edge (range_with_len start size) ≤ 1
range-once start zero edge = omega arith
range-once start (suc size) edge = by_first (start == edge) refl (range-once (start + 1) size edge)
  where
    by_first : (here : Bool) → (start == edge) ≡ here → count edge (range_with_len (start + 1) size) ≤ 1 → (if here then 1 else 0) + count edge (range_with_len (start + 1) size) ≤ 1
    by_first true same rest =
        let is = eqb-true start edge same in let none = range-none (start + 1) size edge (omega (arith, is)) in omega (arith, none)
    by_first false _ rest = omega (arith, rest)

-- a number that is in a row is below its end
pub range-below : (start size edge : ℕ) → has edge (range_with_len start size) ≡ true → edge < start + size
range-below start zero edge there = absurd (cc)
range-below start (suc size) edge there = by_first (start == edge) refl there (range-below (start + 1) size edge)
  where
    by_first : (here : Bool) → (start == edge) ≡ here → (here || has edge (range_with_len (start + 1) size)) ≡ true
        → (has edge (range_with_len (start + 1) size) ≡ true → edge < start + 1 + size) → edge < start + suc size
    by_first true same _ _ = let is = eqb-true start edge same in omega (arith, is)
    by_first false _ later rest = let below = rest later in omega (arith, below)

-- THE VALUES OF EDGES IN A ROW
-- values behind others
abbrev pub put_behind : {Value : Type 0} → List Value → List Value → List Value
put_behind values [] = values
put_behind values (value ∷ more) = values ++ value ∷ more

pub put-is : {Value : Type 0} (values more : List Value) → put_behind values more ≡ values ++ more
put-is values [] = sym (append-nil values)
put-is values (value ∷ more) = refl

pub put-count : {Value : Type 0} (values more : List Value) → length (put_behind values more) ≡ length values + length more
put-count values more = ap length (put-is values more) ∙ length-append values more

module _ {Value : Type 0} (spare : Value) where
  pub put-front : (values more : List Value) (edge : ℕ) → edge < length values → get_or (put_behind values more) edge spare ≡ get_or values edge spare
  put-front values more edge below = ap (λ (all : List Value). get_or all edge spare) (put-is values more) ∙ get-front values more edge spare below

  abbrev pub Agrees : (ℕ → Value) → List Value → Type 0
  Agrees at values = (edge : ℕ) → edge < length values → at edge ≡ get_or values edge spare

  store-below : (start : ℕ) (new : List Value) (at : ℕ → Value) (edge : ℕ) → edge < start → store (range_with_len start (length new)) new at edge ≡ at edge
  store-below start [] at edge below = refl
  store-below start (value ∷ new) at edge below =
      ap (λ (here : Bool). if here then value else store (range_with_len (start + 1) (length new)) new at edge) (ne_eqb start edge (λ same. omega (arith, below, same)))
      ∙ store-below (start + 1) new at edge (omega (arith, below))

  store-at : (start : ℕ) (new : List Value) (at : ℕ → Value) (place : ℕ) → place < length new → store (range_with_len start (length new)) new at (start + place) ≡ get_or new place spare
  store-at start [] at place below = absurd (omega (arith, below))
  store-at start (value ∷ new) at zero below =
      ap (λ (here : Bool). if here then value else store (range_with_len (start + 1) (length new)) new at (start + 0)) (eq-eqb start (start + 0) (omega arith))
  store-at start (value ∷ new) at (suc place) below =
      let on : start + suc place ≡ (start + 1) + place = omega arith in
      ap (λ (here : Bool). if here then value else store (range_with_len (start + 1) (length new)) new at (start + suc place)) (ne_eqb start (start + suc place) (λ same. omega (arith, same)))
      ∙ ap (store (range_with_len (start + 1) (length new)) new at) on
      ∙ store-at (start + 1) new at place (omega (arith, below))

  pub store-row : (values new : List Value) (at : ℕ → Value) → Agrees at values → Agrees (store (range_with_len (length values) (length new)) new at) (put_behind values new)
  store-row values new at agrees edge within = by_test (nat_lt edge (length values)) refl
    where
      by_test : (less : Bool) → nat_lt edge (length values) ≡ less → store (range_with_len (length values) (length new)) new at edge ≡ get_or (put_behind values new) edge spare
      by_test true less =
          let below : edge < length values = ltb-true edge (length values) less in
          store-below (length values) new at edge below ∙ agrees edge below ∙ sym (put-front values new edge below)
      by_test false less =
          let past : edge < length values → ⊥ = λ below. true≢false (sym (lt-ltb edge (length values) below) ∙ less) in
          let size = put-count values new in
          let place : ℕ = edge - length values in
          let there : edge ≡ length values + place = omega (arith, past) in
          let below : place < length new = omega (arith, past, within, size) in
          ap (store (range_with_len (length values) (length new)) new at) there ∙ store-at (length values) new at place below
          ∙ sym (ap (λ (edge : ℕ). get_or (put_behind values new) edge spare) there ∙ ap (λ (all : List Value). get_or all (length values + place) spare) (put-is values new) ∙ get-behind values new place spare)
