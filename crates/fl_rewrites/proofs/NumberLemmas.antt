-- A network whose edges are numbered anew is wired as it was, and its nodes tell the same.
use Rattle.std.proofs.Common.{◌≡◌, ℕ, ◌+◌, ◌<◌, ◌≤◌, ◌==◌, List, [], ◌∷◌, ◌++◌, Bool, true, false, ◌||◌, if◌then◌else◌, length, map, get_or, refl, ap, sym, ◌∙◌, arith, eq-eqb, ⊎_elim, suc, zero}
use Rattle.std.proofs.lemmas.Bool.{true≢false, and_parts, and_from, or_cases, or_left, or_right, cases_lt, eqb-true, ne_eqb}
use Rattle.std.proofs.lemmas.List.{length-map, map-append}
use Rattle.std.proofs.lemmas.Grind.{flat_map-append}
use Rattle.fl_graph.specs.Net.{has, count, takes, gives, run}
use Rattle.fl_graph.specs.Checks.{takes_given, each_after}
use Rattle.fl_graph.specs.declared.graphs.Cell.{Cell}
use Rattle.fl_graph.proofs.ListLemmas.{holds-has, all-has, count-has}
use Rattle.fl_graph.proofs.NetLemmas.{has-front, has-back}
use Rattle.fl_rewrites.specs.Numbering.{place, renamed, numbered}
use Rattle.fl_rewrites.proofs.OrderLemmas.{Each, OfAll, IsWired, IsMet, Fits, told, told-met, count-here, present-count}

-- places in a list of edges
pub place-below : (edges : List ℕ) (edge : ℕ) → has edge edges ≡ true → place edges edge < length edges
place-below [] edge there = absurd (true≢false (sym there))
place-below (first ∷ edges) edge there = by_first (first == edge) there (place-below edges edge)
  where
    by_first : (here : Bool) → (here || has edge edges) ≡ true → (has edge edges ≡ true → place edges edge < length edges) → (if here then 0 else 1 + place edges edge) < suc (length edges)
    by_first true there rest = omega arith
    by_first false there rest = let below = rest there in omega (arith, below)

pub get_or-place : (edges : List ℕ) (edge : ℕ) → has edge edges ≡ true → get_or edges (place edges edge) 0 ≡ edge
get_or-place [] edge there = absurd (true≢false (sym there))
get_or-place (first ∷ edges) edge there = by_first (first == edge) refl there (get_or-place edges edge)
  where
    by_first : (here : Bool) → (first == edge) ≡ here → (here || has edge edges) ≡ true → (has edge edges ≡ true → get_or edges (place edges edge) 0 ≡ edge)
        → get_or (first ∷ edges) (if here then 0 else 1 + place edges edge) 0 ≡ edge
    by_first true is there rest = eqb-true first edge is
    by_first false is there rest = let next : 1 + place edges edge ≡ suc (place edges edge) = omega arith in ap (λ (number : ℕ). get_or (first ∷ edges) number 0) next ∙ rest there

pub has-get_or : (edges : List ℕ) (number : ℕ) → number < length edges → has (get_or edges number 0) edges ≡ true
has-get_or [] number below = absurd (omega (arith, below))
has-get_or (first ∷ edges) zero below = or_left (first == first) (has first edges) (eq-eqb first first refl)
has-get_or (first ∷ edges) (suc number) below = or_right (first == get_or edges number 0) (has (get_or edges number 0) edges) (has-get_or edges number (omega (arith, below)))

pub place-get_or : (edges : List ℕ) (number : ℕ) → ((edge : ℕ) → count edge edges ≤ 1) → number < length edges → place edges (get_or edges number 0) ≡ number
place-get_or [] number once below = absurd (omega (arith, below))
place-get_or (first ∷ edges) zero once below = ap (λ (here : Bool). if here then 0 else 1 + place edges first) (eq-eqb first first refl)
place-get_or (first ∷ edges) (suc number) once below =
    let edge : ℕ = get_or edges number 0 in
    let there : has edge edges ≡ true = has-get_or edges number (omega (arith, below)) in
    let other : (first == edge) ≡ false = ne_eqb first edge (λ same. clash edge there same) in
    let rest : place edges edge ≡ number = place-get_or edges number (λ other. let most = once other in omega (arith, most)) (omega (arith, below)) in
    ap (λ (here : Bool). if here then 0 else 1 + place edges edge) other ∙ omega (arith, rest)
  where
    clash : (edge : ℕ) → has edge edges ≡ true → first ≡ edge → ⊥
    clash edge there same =
        let some = count-has edge edges there in
        let most = once first in
        let head = count-here first edges in
        let times : count first edges ≡ count edge edges = ap (λ (it : ℕ). count it edges) same in
        omega (arith, some, most, head, times)

-- edges by another number
pub has-mapped : (turn : ℕ → ℕ) (edge : ℕ) (edges : List ℕ) → has edge edges ≡ true → has (turn edge) (map turn edges) ≡ true
has-mapped turn edge [] there = absurd (true≢false (sym there))
has-mapped turn edge (first ∷ edges) there =
    ⊎_elim (λ (here : (first == edge) ≡ true). or_left (turn first == turn edge) (has (turn edge) (map turn edges)) (eq-eqb (turn first) (turn edge) (ap turn (eqb-true first edge here))))
    (λ (here : has edge edges ≡ true). or_right (turn first == turn edge) (has (turn edge) (map turn edges)) (has-mapped turn edge edges here))
    (or_cases (first == edge) (has edge edges) there)

pub of-mapped : (turn : ℕ → ℕ) (holds : ℕ → Type 0) (edges : List ℕ) → OfAll (λ edge. holds (turn edge)) edges → OfAll holds (map turn edges)
of-mapped turn holds [] all edge there = absurd (true≢false (sym there))
of-mapped turn holds (first ∷ edges) all edge there =
    ⊎_elim (λ (here : (turn first == edge) ≡ true). rw (← eqb-true (turn first) edge here) (all first (or_left (first == first) (has first edges) (eq-eqb first first refl))))
    (λ (here : has edge (map turn edges) ≡ true). of-mapped turn holds edges (λ other there. all other (or_right (first == other) (has other edges) there)) edge here)
    (or_cases (turn first == edge) (has edge (map turn edges)) there)

module _ {Kind : Type 0} (turn : ℕ → ℕ) where
  pub gives-renamed : (cells : List (Cell Kind)) → gives (map (renamed turn) cells) ≡ map turn (gives cells)
  gives-renamed [] = refl
  gives-renamed (cell ∷ cells) = ap (λ (rest : List ℕ). map turn cell.outs ++ rest) (gives-renamed cells) ∙ sym (map-append turn cell.outs (gives cells))

  pub takes-renamed : (cells : List (Cell Kind)) → takes (map (renamed turn) cells) ≡ map turn (takes cells)
  takes-renamed [] = refl
  takes-renamed (cell ∷ cells) = ap (λ (rest : List ℕ). map turn cell.ins ++ rest) (takes-renamed cells) ∙ sym (map-append turn cell.ins (takes cells))

  -- nodes that take what is given before do so by any number
  later-renamed : (before others cells : List (Cell Kind)) → gives others ≡ map turn (gives before) → each_after takes_given before cells ≡ true
      → each_after takes_given others (map (renamed turn) cells) ≡ true
  later-renamed before others [] same later = refl
  later-renamed before others (cell ∷ cells) same later =
      let parts = and_parts (takes_given before cell) (each_after takes_given (before ++ cell ∷ []) cells) later in
      let here : takes_given others (renamed turn cell) ≡ true =
      all-has (λ edge. has edge (gives others)) (map turn cell.ins) (of-mapped turn (λ edge. has edge (gives others) ≡ true) cell.ins (λ edge taken.
      ap (has (turn edge)) same ∙ has-mapped turn edge (gives before) (holds-has (λ edge. has edge (gives before)) edge cell.ins parts.0 taken))) in
      let behind : gives (others ++ renamed turn cell ∷ []) ≡ map turn (gives (before ++ cell ∷ [])) =
      flat_map-append (λ (cell : Cell Kind). cell.outs) others (renamed turn cell ∷ []) ∙ ap (λ (edges : List ℕ). edges ++ gives (renamed turn cell ∷ [])) same
      ∙ ap (λ (edges : List ℕ). map turn (gives before) ++ edges) (gives-renamed (cell ∷ []))
      ∙ sym (map-append turn (gives before) (gives (cell ∷ []))) ∙ sym (ap (map turn) (flat_map-append (λ (cell : Cell Kind). cell.outs) before (cell ∷ []))) in
      and_from (takes_given others (renamed turn cell)) (each_after takes_given (others ++ renamed turn cell ∷ []) (map (renamed turn) cells)) here
      (later-renamed (before ++ cell ∷ []) (others ++ renamed turn cell ∷ []) cells behind parts.1)

-- how often a place is among the places of edges
module _ (edges : List ℕ) (once : (edge : ℕ) → count edge edges ≤ 1) where
  same-tests : (number edge : ℕ) → number < length edges → has edge edges ≡ true → (place edges edge == number) ≡ (edge == get_or edges number 0)
  same-tests number edge below there = by_test (edge == get_or edges number 0) refl
    where
      by_test : (same : Bool) → (edge == get_or edges number 0) ≡ same → (place edges edge == number) ≡ same
      by_test true is =
          eq-eqb (place edges edge) number (ap (place edges) (eqb-true edge (get_or edges number 0) is) ∙ place-get_or edges number once below)
      by_test false is =
          ne_eqb (place edges edge) number (λ same. true≢false (sym (eq-eqb edge (get_or edges number 0)
          (sym (get_or-place edges edge there) ∙ ap (λ (it : ℕ). get_or edges it 0) same)) ∙ is))

  count-places : (number : ℕ) → number < length edges → (taken : List ℕ) → OfAll (λ edge. has edge edges ≡ true) taken
      → count number (map (place edges) taken) ≡ count (get_or edges number 0) taken
  count-places number below [] there = refl
  count-places number below (edge ∷ taken) there =
      let head : (place edges edge == number) ≡ (edge == get_or edges number 0) =
      same-tests number edge below (there edge (or_left (edge == edge) (has edge taken) (eq-eqb edge edge refl))) in
      let rest : count number (map (place edges) taken) ≡ count (get_or edges number 0) taken =
      count-places number below taken (λ other is. there other (or_right (edge == other) (has other taken) is)) in
      ap (λ (same : Bool). (if same then 1 else 0) + count number (map (place edges) taken)) head
      ∙ ap (λ (times : ℕ). (if edge == get_or edges number 0 then 1 else 0) + times) rest

  count-past : (number : ℕ) → length edges ≤ number → (taken : List ℕ) → OfAll (λ edge. has edge edges ≡ true) taken → count number (map (place edges) taken) ≡ 0
  count-past number past [] there = refl
  count-past number past (edge ∷ taken) there =
      let below = place-below edges edge (there edge (or_left (edge == edge) (has edge taken) (eq-eqb edge edge refl))) in
      let head : (place edges edge == number) ≡ false = ne_eqb (place edges edge) number (λ same. omega (arith, below, same, past)) in
      let rest = count-past number past taken (λ other is. there other (or_right (edge == other) (has other taken) is)) in
      ap (λ (same : Bool). (if same then 1 else 0) + count number (map (place edges) taken)) head ∙ omega (arith, rest)

module _ {Kind : Type 0} (cells : List (Cell Kind)) (wired : IsWired cells) where
  pub taken-given : OfAll (λ edge. has edge (gives cells) ≡ true) (takes cells)
  taken-given edge there =
      present-count edge (gives cells) (let some = count-has edge (takes cells) there in let both = wired.taken edge in omega (arith, some, both))

  -- the new numbers
  pub gives-numbered : gives (numbered cells) ≡ map (place (gives cells)) (gives cells)
  gives-numbered = gives-renamed (place (gives cells)) cells

  once_numbered : (edge : ℕ) → count edge (gives (numbered cells)) ≤ 1
  once_numbered edge =
      ⊎_elim (λ (below : edge < length (gives cells)).
      let times = ap (count edge) gives-numbered ∙ count-places (gives cells) wired.once edge below (gives cells) (λ edge there. there) in
      let most = wired.once (get_or (gives cells) edge 0) in omega (arith, times, most))
      (λ (past : length (gives cells) ≤ edge).
      let none = ap (count edge) gives-numbered ∙ count-past (gives cells) wired.once edge past (gives cells) (λ edge there. there) in omega (arith, none))
      (cases_lt edge (length (gives cells)))

  taken_numbered : (edge : ℕ) → count edge (takes (numbered cells)) ≡ count edge (gives (numbered cells))
  taken_numbered edge =
      let takes_numbered = takes-renamed (place (gives cells)) cells in
      ⊎_elim (λ (below : edge < length (gives cells)).
      ap (count edge) takes_numbered ∙ count-places (gives cells) wired.once edge below (takes cells) taken-given ∙ wired.taken (get_or (gives cells) edge 0)
      ∙ sym (count-places (gives cells) wired.once edge below (gives cells) (λ edge there. there)) ∙ sym (ap (count edge) gives-numbered))
      (λ (past : length (gives cells) ≤ edge).
      ap (count edge) takes_numbered ∙ count-past (gives cells) wired.once edge past (takes cells) taken-given
      ∙ sym (count-past (gives cells) wired.once edge past (gives cells) (λ edge there. there)) ∙ sym (ap (count edge) gives-numbered))
      (cases_lt edge (length (gives cells)))

  pub wired-numbered : IsWired (numbered cells)
  wired-numbered = record {
    once = once_numbered;
    taken = taken_numbered;
    later = later-renamed (place (gives cells)) [] [] cells refl wired.later;
  }

  pub below-numbered : (edge : ℕ) → has edge (gives (numbered cells)) ≡ true → edge < length (gives (numbered cells))
  below-numbered edge there =
      let size : length (gives (numbered cells)) ≡ length (gives cells) = ap length gives-numbered ∙ length-map (gives cells) (place (gives cells)) in
      let below = of-mapped (place (gives cells)) (λ edge. edge < length (gives cells)) (gives cells) (place-below (gives cells)) edge (ap (has edge) (sym gives-numbered) ∙ there) in
      omega (arith, below, size)

-- values by the new numbers
module _ {Value : Type 0} (edges : List ℕ) (known : ℕ → Value) where
  abbrev pub by_place : ℕ → Value
  by_place number = known (get_or edges number 0)

  pub values-by_place : (taken : List ℕ) → OfAll (λ edge. has edge edges ≡ true) taken → map by_place (map (place edges) taken) ≡ map known taken
  values-by_place [] there = refl
  values-by_place (edge ∷ taken) there =
      let first : known (get_or edges (place edges edge) 0) ≡ known edge = ap known (get_or-place edges edge (there edge (or_left (edge == edge) (has edge taken) (eq-eqb edge edge refl)))) in
      ap (λ (value : Value). value ∷ map by_place (map (place edges) taken)) first
      ∙ ap (λ (rest : List Value). known edge ∷ rest) (values-by_place taken (λ other is. there other (or_right (edge == other) (has other taken) is)))

module _ {Kind Value : Type 0} (equation : Kind → ℕ → List Value → List Value) (edges : List ℕ) where
  met-renamed : (cells : List (Cell Kind)) (known : ℕ → Value) → OfAll (λ edge. has edge edges ≡ true) (takes cells) → OfAll (λ edge. has edge edges ≡ true) (gives cells)
      → Each (IsMet equation known) cells → Each (IsMet equation (by_place edges known)) (map (renamed (place edges)) cells)
  met-renamed [] known taken given met = tt
  met-renamed (cell ∷ cells) known taken given met =
      let ins : map (by_place edges known) (map (place edges) cell.ins) ≡ map known cell.ins =
      values-by_place edges known cell.ins (λ edge there. taken edge (has-front edge cell.ins (takes cells) there)) in
      let outs : map (by_place edges known) (map (place edges) cell.outs) ≡ map known cell.outs =
      values-by_place edges known cell.outs (λ edge there. given edge (has-front edge cell.outs (gives cells) there)) in
      let size : length (map (place edges) cell.outs) ≡ length cell.outs = length-map cell.outs (place edges) in (
        outs ∙ met.0 ∙ ap (λ (outs : ℕ). equation cell.kind outs (map known cell.ins)) (sym size) ∙ ap (equation cell.kind (length (map (place edges) cell.outs))) (sym ins),
        met-renamed cells known (λ edge there. taken edge (has-back edge cell.ins (takes cells) there)) (λ edge there. given edge (has-back edge cell.outs (gives cells) there)) met.1,
      )

  fits-renamed : (cells : List (Cell Kind)) → Each (Fits equation) cells → Each (Fits equation) (map (renamed (place edges)) cells)
  fits-renamed [] fits = tt
  fits-renamed (cell ∷ cells) fits =
      let size : length (map (place edges) cell.outs) ≡ length cell.outs = length-map cell.outs (place edges) in
      ((λ ins. ap (λ (outs : ℕ). length (equation cell.kind outs ins)) size ∙ fits.0 ins ∙ sym size), fits-renamed cells fits.1)

module _ {Kind Value Told : Type 0} (tell : Kind → List Value → List Told) (edges : List ℕ) where
  told-renamed : (cells : List (Cell Kind)) (known : ℕ → Value) → OfAll (λ edge. has edge edges ≡ true) (takes cells)
      → told tell (by_place edges known) (map (renamed (place edges)) cells) ≡ told tell known cells
  told-renamed [] known taken = refl
  told-renamed (cell ∷ cells) known taken =
      let ins : map (by_place edges known) (map (place edges) cell.ins) ≡ map known cell.ins =
      values-by_place edges known cell.ins (λ edge there. taken edge (has-front edge cell.ins (takes cells) there)) in
      ap (λ (values : List Value). tell cell.kind values ++ told tell (by_place edges known) (map (renamed (place edges)) cells)) ins
      ∙ ap (λ (rest : List Told). tell cell.kind (map known cell.ins) ++ rest) (told-renamed cells known (λ edge there. taken edge (has-back edge cell.ins (takes cells) there)))

module _ {Kind Value Told : Type 0} (equation : Kind → ℕ → List Value → List Value) (tell : Kind → List Value → List Told) where
  -- a network with other numbers tells what its nodes tell of values that meet the equations by the old numbers
  pub told-numbered : (cells : List (Cell Kind)) (values known : ℕ → Value) → IsWired cells → Each (Fits equation) cells → Each (IsMet equation known) cells
      → run equation tell (numbered cells) values ≡ told tell known cells
  told-numbered cells values known wired fits met =
      told-met equation tell (numbered cells) values (by_place (gives cells) known) (wired-numbered cells wired) (fits-renamed equation (gives cells) cells fits)
      (met-renamed equation (gives cells) cells known (taken-given cells wired) (λ edge there. there) met)
      ∙ told-renamed tell (gives cells) cells known (taken-given cells wired)
