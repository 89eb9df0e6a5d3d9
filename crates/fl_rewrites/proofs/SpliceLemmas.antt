-- Nodes with others in the place of one: order, and what is told of the nodes on either side.
use Rattle.std.proofs.Common.{◌≡◌, ℕ, zero, suc, ◌+◌, ◌<◌, ◌≤◌, ◌==◌, List, [], ◌∷◌, ◌++◌, Bool, true, false, ◌&&◌, if◌then◌else◌, map, refl, ap, sym, ◌∙◌, append_assoc, append-nil, arith, eq-eqb, ⊎_elim, ◌⊎◌}
use Rattle.std.specs.List.{range_with_len, AllZip}
use Rattle.std.proofs.lemmas.Bool.{true≢false, and_parts, and_from, or_cases, or_left, or_right, ne_eqb, eqb-true, cases_eq}
use Rattle.std.proofs.lemmas.List.Folds.{list_any-append}
use Rattle.std.proofs.lemmas.Grind.{flat_map-append}
use Rattle.fl_graph.specs.Net.{has, count, gives}
use Rattle.fl_graph.specs.Checks.{takes_given, each_after}
use Rattle.fl_graph.specs.declared.graphs.Cell.{Cell}
use Rattle.fl_graph.proofs.ListLemmas.{holds-has, all-has}
use Rattle.fl_graph.proofs.NetLemmas.{has-front, has-back}
use Rattle.fl_rewrites.proofs.OrderLemmas.{OfAll, told}

-- tests of nodes in order go on behind a part
pub after-front : {Kind : Type 0} (test : List (Cell Kind) → Cell Kind → Bool) (before front back : List (Cell Kind))
    → each_after test before (front ++ back) ≡ (each_after test before front && each_after test (before ++ front) back)
after-front test before [] back = ap (λ cells. each_after test cells back) (sym (append-nil before))
after-front {Kind} test before (cell ∷ front) back =
    let front_holds : Bool = each_after test (before ++ cell ∷ []) front in
    ap (λ (rest : Bool). test before cell && rest) (after-front test (before ++ cell ∷ []) front back)
    ∙ ap (λ (cells : List (Cell Kind)). test before cell && (front_holds && each_after test cells back)) (append_assoc before (cell ∷ []) front)
    ∙ both (test before cell) front_holds (each_after test (before ++ (cell ∷ front)) back)
  where
    both : (first second third : Bool) → (first && (second && third)) ≡ ((first && second) && third)
    both true second third = refl
    both false second third = refl

pub gives-behind : {Kind : Type 0} (before : List (Cell Kind)) (cell : Cell Kind) → gives (before ++ cell ∷ []) ≡ gives before ++ cell.outs
gives-behind {Kind} before cell =
    flat_map-append (λ (cell : Cell Kind). cell.outs) before (cell ∷ []) ∙ ap (λ (outs : List ℕ). gives before ++ outs) (append-nil cell.outs)

pub has-either : (edge : ℕ) (front back : List ℕ) → has edge (front ++ back) ≡ true → (has edge front ≡ true) ⊎ (has edge back ≡ true)
has-either edge front back there = or_cases (has edge front) (has edge back) (sym (list_any-append (λ (other : ℕ). other == edge) front back) ∙ there)

-- where more is given before, nodes still take what is
pub later-more : {Kind : Type 0} (before others cells : List (Cell Kind)) → ((edge : ℕ) → has edge (gives before) ≡ true → has edge (gives others) ≡ true)
    → each_after takes_given before cells ≡ true → each_after takes_given others cells ≡ true
later-more before others [] more later = refl
later-more before others (cell ∷ cells) more later =
    let parts = and_parts (takes_given before cell) (each_after takes_given (before ++ cell ∷ []) cells) later in
    and_from (takes_given others cell) (each_after takes_given (others ++ cell ∷ []) cells)
    (all-has (λ edge. has edge (gives others)) cell.ins (λ edge there. more edge (holds-has (λ edge. has edge (gives before)) edge cell.ins parts.0 there)))
    (later-more (before ++ cell ∷ []) (others ++ cell ∷ []) cells (λ edge there. behind edge (ap (has edge) (sym (gives-behind before cell)) ∙ there)) parts.1)
  where
    behind : (edge : ℕ) → has edge (gives before ++ cell.outs) ≡ true → has edge (gives (others ++ cell ∷ [])) ≡ true
    behind edge there =
        ap (has edge) (gives-behind others cell)
        ∙ ⊎_elim (λ (here : has edge (gives before) ≡ true). has-front edge (gives others) cell.outs (more edge here))
        (λ (here : has edge cell.outs ≡ true). has-back edge (gives others) cell.outs here)
        (has-either edge (gives before) cell.outs there)

-- numbers in a row
pub count-before : (edge from count_of : ℕ) → edge < from → count edge (range_with_len from count_of) ≡ 0
count-before edge from zero below = refl
count-before edge from (suc count_of) below =
    let rest = count-before edge (from + 1) count_of (omega (arith, below)) in
    ap (λ (same : Bool). (if same then 1 else 0) + count edge (range_with_len (from + 1) count_of)) (ne_eqb from edge (λ same. omega (arith, below, same))) ∙ omega (arith, rest)

pub count-past : (edge from count_of : ℕ) → from + count_of ≤ edge → count edge (range_with_len from count_of) ≡ 0
count-past edge from zero past = refl
count-past edge from (suc count_of) past =
    let rest = count-past edge (from + 1) count_of (omega (arith, past)) in
    ap (λ (same : Bool). (if same then 1 else 0) + count edge (range_with_len (from + 1) count_of)) (ne_eqb from edge (λ same. omega (arith, past, same))) ∙ omega (arith, rest)

pub count-row : (edge from count_of : ℕ) → count edge (range_with_len from count_of) ≤ 1
count-row edge from zero = omega arith
count-row edge from (suc count_of) =
    ⊎_elim (λ (same : from ≡ edge). let none = count-before edge (from + 1) count_of (omega (arith, same)) in by_test (from == edge) none)
    (λ (other : from ≡ edge → ⊥).
    let rest = count-row edge (from + 1) count_of in
    let here = ap (λ (same : Bool). (if same then 1 else 0) + count edge (range_with_len (from + 1) count_of)) (ne_eqb from edge other) in omega (arith, rest, here))
    (cases_eq from edge)
  where
    by_test : (same : Bool) → count edge (range_with_len (from + 1) count_of) ≡ 0 → (if same then 1 else 0) + count edge (range_with_len (from + 1) count_of) ≤ 1
    by_test true none = omega (arith, none)
    by_test false none = omega (arith, none)

-- a row and the number behind it: each once, and none below the first
pub count-fresh : (edge from parts : ℕ) → count edge (range_with_len from parts) + count edge ((from + parts) ∷ []) ≤ 1
count-fresh edge from parts =
    ⊎_elim (λ (same : (from + parts) ≡ edge). let none = count-past edge from parts (omega (arith, same)) in by_test ((from + parts) == edge) none)
    (λ (other : (from + parts) ≡ edge → ⊥).
    let row = count-row edge from parts in
    let here = ap (λ (same : Bool). (if same then 1 else 0) + 0) (ne_eqb (from + parts) edge other) in omega (arith, row, here))
    (cases_eq (from + parts) edge)
  where
    by_test : (same : Bool) → count edge (range_with_len from parts) ≡ 0 → count edge (range_with_len from parts) + ((if same then 1 else 0) + 0) ≤ 1
    by_test true none = omega (arith, none)
    by_test false none = omega (arith, none)

pub count-low : (edge from parts : ℕ) → edge < from → count edge (range_with_len from parts) + count edge ((from + parts) ∷ []) ≡ 0
count-low edge from parts below =
    let row = count-before edge from parts below in
    let here = ap (λ (same : Bool). (if same then 1 else 0) + 0) (ne_eqb (from + parts) edge (λ same. omega (arith, below, same))) in
    omega (arith, row, here)

-- what is told of two parts
pub told-append : {Kind Value Told : Type 0} (tell : Kind → List Value → List Told) (values : ℕ → Value) (front back : List (Cell Kind))
    → told tell values (front ++ back) ≡ told tell values front ++ told tell values back
told-append {Kind} tell values front back = flat_map-append (λ (cell : Cell Kind). tell cell.kind (map values cell.ins)) front back

-- related values at the edges of a list
pub related-values : {One Other : Type 0} (Related : One → Other → Type 0) (edges : List ℕ) (one : ℕ → One) (other : ℕ → Other)
    → OfAll (λ edge. Related (one edge) (other edge)) edges → AllZip Related (map one edges) (map other edges)
related-values Related [] one other all = tt
related-values Related (edge ∷ edges) one other all =
    (all edge (or_left (edge == edge) (has edge edges) (eq-eqb edge edge refl)), related-values Related edges one other (λ another there. all another (or_right (edge == another) (has another edges) there)))

pub all-related : {One Other : Type 0} (Related : One → Other → Type 0) (edges : List ℕ) (one : ℕ → One) (other : ℕ → Other)
    → AllZip Related (map one edges) (map other edges) → OfAll (λ edge. Related (one edge) (other edge)) edges
all-related Related [] one other all edge there = absurd (true≢false (sym there))
all-related Related (first ∷ edges) one other all edge there =
    ⊎_elim (λ (here : (first == edge) ≡ true). rw (← eqb-true first edge here) all.0) (λ (here : has edge edges ≡ true). all-related Related edges one other all.1 edge here)
    (or_cases (first == edge) (has edge edges) there)
