-- Sums over numbers, over nodes and over edges.
use Rattle.std.proofs.Common.{◌≡◌, ℕ, zero, suc, ◌+◌, ◌<◌, ◌≤◌, ◌==◌, List, [], ◌∷◌, ◌++◌, Bool, true, false, ◌||◌, if◌then◌else◌, length, slice_get, Some, inl, inr, refl, ap, sym, ◌∙◌, arith, eq-eqb, length-append}
use Rattle.std.specs.List.{flat_map, range_with_len, sum_by}
use Rattle.std.proofs.lemmas.Bool.{cases_lt, eqb-false, eqb-true, ne_eqb, or_left, or_parts, or_right}
use Rattle.std.proofs.lemmas.List.Sums.{sum_by-append, sum_by-cons, sum_by-le-sum_by}
use Rattle.fl_graph.specs.Net.{count, has}
use Rattle.fl_graph.specs.Runs.{add}
use Rattle.fl_graph.specs.declared.pieces.Piece.{Piece}
use Rattle.fl_net.specs.Moves.{moves_at, moves_of}
use Rattle.fl_net.specs.Runs.{Plan}
use Rattle.fl_net.proofs.PortLemmas.{count-first, count-other, uncounted}

-- a sum of sums
pub sum_by-both : {X : Type 0} (one other : X → ℕ) (items : List X) → sum_by (λ (item : X). one item + other item) items ≡ sum_by one items + sum_by other items
sum_by-both one other [] = refl
sum_by-both {X} one other (item ∷ items) =
    let rest = sum_by-both one other items in
    let all = sum_by-cons (λ (item : X). one item + other item) item items in
    let first = sum_by-cons one item items in
    let second = sum_by-cons other item items in
    omega (arith, rest, all, first, second)

pub sum_by-flat_map : {X Y : Type 0} (f : Y → ℕ) (part : X → List Y) (items : List X) → sum_by f (flat_map part items) ≡ sum_by (λ (item : X). sum_by f (part item)) items
sum_by-flat_map f part [] = refl
sum_by-flat_map {X} {Y} f part (item ∷ items) =
    sum_by-append f (part item) (flat_map part items)
    ∙ ap (λ (rest : ℕ). sum_by f (part item) + rest) (sum_by-flat_map f part items)
    ∙ sym (sum_by-cons (λ (item : X). sum_by f (part item)) item items)

-- a sum of nothing
pub sum-none : (f : ℕ → ℕ) (edges : List ℕ) → ((edge : ℕ) → has edge edges ≡ true → f edge ≡ 0) → sum_by f edges ≡ 0
sum-none f [] none = refl
sum-none f (edge ∷ edges) none =
    let here = none edge (or_left (edge == edge) (has edge edges) (eq-eqb edge edge refl)) in
    let rest = sum-none f edges (λ other there. none other (or_right (edge == other) (has other edges) there)) in
    let all = sum_by-cons f edge edges in
    omega (arith, here, rest, all)

-- what is no more at each edge of a list is no more over all
pub edges-le : (f g : ℕ → ℕ) (edges : List ℕ) → ((edge : ℕ) → has edge edges ≡ true → f edge ≤ g edge) → sum_by f edges ≤ sum_by g edges
edges-le f g [] each = omega arith
edges-le f g (edge ∷ edges) each =
    let here = each edge (or_left (edge == edge) (has edge edges) (eq-eqb edge edge refl)) in
    let rest = edges-le f g edges (λ other there. each other (or_right (edge == other) (has other edges) there)) in
    let low = sum_by-cons f edge edges in
    let high = sum_by-cons g edge edges in
    omega (arith, here, rest, low, high)

-- nor over all nodes, where it is no more at each
pub nodes-le : {X : Type 0} (f : ℕ → ℕ) (g : X → ℕ) (from : ℕ) (cells : List X) → ((place : ℕ) (cell : X) → slice_get cells place ≡ Some cell → f (from + place) ≤ g cell)
    → sum_by f (range_with_len from (length cells)) ≤ sum_by g cells
nodes-le f g from [] each = omega arith
nodes-le f g from (cell ∷ cells) each =
    let first : from + zero ≡ from = omega arith in
    let same = ap f first in
    let here = each zero cell refl in
    let rest = nodes-le f g (from + 1) cells (λ place found at.
    let next : from + suc place ≡ (from + 1) + place = omega arith in
    let moved = ap f next in
    let behind = each (suc place) found at in omega (arith, moved, behind)) in
    let low = sum_by-cons f from (range_with_len (from + 1) (length cells)) in
    let high = sum_by-cons g cell cells in
    omega (arith, same, here, rest, low, high)

numbers-same : (f g : ℕ → ℕ) (from size : ℕ) → ((number : ℕ) → from ≤ number → g number ≡ f number) → sum_by g (range_with_len from size) ≡ sum_by f (range_with_len from size)
numbers-same f g from zero same = refl
numbers-same f g from (suc size) same =
    let here = same from (omega arith) in
    let rest = numbers-same f g (from + 1) size (λ number behind. same number (omega (arith, behind))) in
    let low = sum_by-cons f from (range_with_len (from + 1) size) in
    let high = sum_by-cons g from (range_with_len (from + 1) size) in
    omega (arith, here, rest, low, high)

-- what is no more at each number is no more over all
pub numbers-le : (f g : ℕ → ℕ) (from size : ℕ) → ((number : ℕ) → from ≤ number → number < from + size → f number ≤ g number)
    → sum_by f (range_with_len from size) ≤ sum_by g (range_with_len from size)
numbers-le f g from zero each = omega arith
numbers-le f g from (suc size) each =
    let here = each from (omega arith) (omega arith) in
    let rest = numbers-le f g (from + 1) size (λ number low high. each number (omega (arith, low)) (omega (arith, high))) in
    let low = sum_by-cons f from (range_with_len (from + 1) size) in
    let high = sum_by-cons g from (range_with_len (from + 1) size) in
    omega (arith, here, rest, low, high)

-- so much more at one number is so much more over all
numbers-more : (f g : ℕ → ℕ) (more from size place : ℕ) → from ≤ place → place < from + size → g place ≡ f place + more → ((other : ℕ) → (other == place) ≡ false → g other ≡ f other)
    → sum_by g (range_with_len from size) ≡ sum_by f (range_with_len from size) + more
numbers-more f g more from zero place low high here others = absurd (omega (arith, low, high))
numbers-more f g more from (suc size) place low high here others = by_place (from == place) refl (λ above. numbers-more f g more (from + 1) size place above (omega (arith, high)) here others)
  where
    by_place : (test : Bool) → (from == place) ≡ test
        → (from + 1 ≤ place → sum_by g (range_with_len (from + 1) size) ≡ sum_by f (range_with_len (from + 1) size) + more)
        → sum_by g (from ∷ range_with_len (from + 1) size) ≡ sum_by f (from ∷ range_with_len (from + 1) size) + more
    by_place true is behind =
        let at = eqb-true from place is in
        let first : g from ≡ f from + more = ap g at ∙ here ∙ ap (λ (number : ℕ). f number + more) (sym at) in
        let rest = numbers-same f g (from + 1) size (λ number later. others number (ne_eqb number place (λ same. omega (arith, later, same, at)))) in
        let before = sum_by-cons f from (range_with_len (from + 1) size) in
        let after = sum_by-cons g from (range_with_len (from + 1) size) in
        omega (arith, first, rest, before, after)
    by_place false is behind =
        let first = others from is in
        let above : from + 1 ≤ place = elim (cases_lt from place) [ inl less ↦ omega (arith, less) | inr most ↦ absurd (eqb-false from place is (omega (arith, low, most))) ] in
        let rest = behind above in
        let before = sum_by-cons f from (range_with_len (from + 1) size) in
        let after = sum_by-cons g from (range_with_len (from + 1) size) in
        omega (arith, first, rest, before, after)

-- over edges that are numbered below a bound, each once, the sum is at most that over all numbers
module _ (f : ℕ → ℕ) (bound : ℕ) where
  once-is : (edges : List ℕ) → ((edge : ℕ) → count edge edges ≤ 1) → ((edge : ℕ) → has edge edges ≡ true → edge < bound)
      → sum_by (λ (number : ℕ). if has number edges then f number else 0) (range_with_len 0 bound) ≡ sum_by f edges
  once-is [] once below = sum-none (λ (number : ℕ). 0) (range_with_len 0 bound) (λ number there. refl)
  once-is (edge ∷ edges) once below =
      let here = eq-eqb edge edge refl in
      let first = once edge in
      let more = count-first edge edge edges here in
      let absent : has edge edges ≡ false = uncounted edge edges (omega (arith, first, more)) in
      let rest = once-is edges (λ other. behind other (once other)) (λ other there. below other (or_right (edge == other) (has other edges) there)) in
      let all = numbers-more (λ (number : ℕ). if has number edges then f number else 0) (λ (number : ℕ). if has number (edge ∷ edges) then f number else 0) (f edge) 0 bound edge
      (omega arith) (let low = below edge (or_left (edge == edge) (has edge edges) here) in omega (arith, low))
      (let more_here = ap (λ (test : Bool). if test || has edge edges then f edge else 0) here in
      let none_before = ap (λ (test : Bool). if test then f edge else 0) absent in omega (arith, more_here, none_before))
      (λ other apart. ap (λ (test : Bool). if test || has other edges then f other else 0) (turned other apart)) in
      let sum = sum_by-cons f edge edges in
      omega (arith, rest, all, sum)
    where
      behind : (other : ℕ) → count other (edge ∷ edges) ≤ 1 → count other edges ≤ 1
      behind other both = by_test (edge == other) both
        where
          by_test : (test : Bool) → (if test then 1 else 0) + count other edges ≤ 1 → count other edges ≤ 1
          by_test true both = omega (arith, both)
          by_test false both = omega (arith, both)

      turned : (other : ℕ) → (other == edge) ≡ false → (edge == other) ≡ false
      turned other apart = ne_eqb edge other (λ same. eqb-false other edge apart (sym same))

  pub once-le : (edges : List ℕ) → ((edge : ℕ) → count edge edges ≤ 1) → ((edge : ℕ) → has edge edges ≡ true → edge < bound)
      → sum_by f edges ≤ sum_by f (range_with_len 0 bound)
  once-le edges once below =
      let same = once-is edges once below in
      let less = sum_by-le-sum_by (λ (number : ℕ). if has number edges then f number else 0) f (range_with_len 0 bound) (λ number. by_test number (has number edges)) in
      omega (arith, same, less)
    where
      by_test : (number : ℕ) (test : Bool) → (if test then f number else 0) ≤ f number
      by_test number true = omega arith
      by_test number false = omega arith

-- a piece more on an edge is one more where a list has the edge once, and else none
module _ (edge : ℕ) (last : Piece) (pieces : ℕ → List Piece) where
  pieces-same : (edges : List ℕ) → has edge edges ≡ false
      → sum_by (λ (other : ℕ). length (add edge last pieces other)) edges ≡ sum_by (λ (other : ℕ). length (pieces other)) edges
  pieces-same [] none = refl
  pieces-same (first ∷ edges) none =
      let parts = or_parts (first == edge) (has edge edges) none in
      let here = ap (λ (test : Bool). length (if test then pieces first ++ last ∷ [] else pieces first)) parts.0 in
      let rest = pieces-same edges parts.1 in
      let before = sum_by-cons (λ (other : ℕ). length (pieces other)) first edges in
      let after = sum_by-cons (λ (other : ℕ). length (add edge last pieces other)) first edges in
      omega (arith, here, rest, before, after)

  pieces-more : (edges : List ℕ) → count edge edges ≡ 1
      → sum_by (λ (other : ℕ). length (add edge last pieces other)) edges ≡ sum_by (λ (other : ℕ). length (pieces other)) edges + 1
  pieces-more [] once = absurd (omega (arith, once))
  pieces-more (first ∷ edges) once = by_first (first == edge) refl (pieces-more edges)
    where
      by_first : (test : Bool) → (first == edge) ≡ test
          → (count edge edges ≡ 1 → sum_by (λ (other : ℕ). length (add edge last pieces other)) edges ≡ sum_by (λ (other : ℕ). length (pieces other)) edges + 1)
          → sum_by (λ (other : ℕ). length (add edge last pieces other)) (first ∷ edges) ≡ sum_by (λ (other : ℕ). length (pieces other)) (first ∷ edges) + 1
      by_first true is behind =
          let more = count-first first edge edges is in
          let rest = pieces-same edges (uncounted edge edges (omega (arith, more, once))) in
          let longer = length-append (pieces first) (last ∷ []) in
          let here = ap (λ (test : Bool). length (if test then pieces first ++ last ∷ [] else pieces first)) is in
          let before = sum_by-cons (λ (other : ℕ). length (pieces other)) first edges in
          let after = sum_by-cons (λ (other : ℕ). length (add edge last pieces other)) first edges in
          omega (arith, rest, longer, here, before, after)
      by_first false is behind =
          let rest = behind (sym (count-other first edge edges is) ∙ once) in
          let here = ap (λ (test : Bool). length (if test then pieces first ++ last ∷ [] else pieces first)) is in
          let before = sum_by-cons (λ (other : ℕ). length (pieces other)) first edges in
          let after = sum_by-cons (λ (other : ℕ). length (add edge last pieces other)) first edges in
          omega (arith, rest, here, before, after)

-- so a piece that one node took, or put, is one move more
module _ (plan : Plan) (took put : ℕ → List Piece) (nodes node edge : ℕ) (last : Piece) (within : node < nodes) where
  pub moves-took : count edge (plan.ins node) ≡ 1 → ((other : ℕ) → (other == node) ≡ false → has edge (plan.ins other) ≡ false)
      → moves_of plan nodes (add edge last took) put ≡ moves_of plan nodes took put + 1
  moves-took once others =
      numbers-more (moves_at plan took put) (moves_at plan (add edge last took) put) 1 0 nodes node (omega arith) (omega (arith, within))
      (let more = pieces-more edge last took (plan.ins node) once in omega (arith, more))
      (λ other apart. ap (λ (taken : ℕ). taken + sum_by (λ (it : ℕ). length (put it)) (plan.outs other)) (pieces-same edge last took (plan.ins other) (others other apart)))

  pub moves-put : count edge (plan.outs node) ≡ 1 → ((other : ℕ) → (other == node) ≡ false → has edge (plan.outs other) ≡ false)
      → moves_of plan nodes took (add edge last put) ≡ moves_of plan nodes took put + 1
  moves-put once others =
      numbers-more (moves_at plan took put) (moves_at plan took (add edge last put)) 1 0 nodes node (omega arith) (omega (arith, within))
      (let more = pieces-more edge last put (plan.outs node) once in omega (arith, more))
      (λ other apart. ap (λ (given : ℕ). sum_by (λ (it : ℕ). length (took it)) (plan.ins other) + given) (pieces-same edge last put (plan.outs other) (others other apart)))
