-- Tables of places, filled from the last edge to the first, and nodes that get new edges one after another.
use Rattle.std.proofs.Common.{◌≡◌, ℕ, zero, suc, ◌+◌, ◌-◌, ◌<◌, ◌≤◌, ◌==◌, List, [], ◌∷◌, ◌++◌, Bool, true, false, if◌then◌else◌, length, map, get_or, set, take, drop, replicate, refl, ap, sym, ◌∙◌, append-nil, arith, eq-eqb, ⊎_elim}
use Rattle.std.proofs.lemmas.Bool.{ne_eqb, cases_eq}
use Rattle.std.proofs.lemmas.List.{drop_more, drop_all, take_all, take_more, get_or-set_same, get_or-set_other, get_or_at, set_at, length-map, length-take-le, length-replicate, length-set}
use Rattle.fl_rewrites.specs.Numbering.{place}
use Rattle.fl_rewrites.specs.Inner.Tables.{looked_up, bound, place_from}

empty-table : (size count edge : ℕ) → get_or (replicate size count) edge count ≡ count
empty-table zero count edge = refl
empty-table (suc size) count zero = refl
empty-table (suc size) count (suc edge) = empty-table size count edge

table-begins : (edges : List ℕ) (size count : ℕ) → count ≡ length edges → (edge : ℕ) → looked_up (replicate size count) count edge ≡ place_from count count (drop count edges) edge
table-begins edges size count whole edge = empty-table size count edge ∙ sym (ap (λ (left : List ℕ). place_from count count left edge) (drop_all count edges (omega (arith, whole))))

bound-above : (edges : List ℕ) (number d : ℕ) → number < length edges → get_or edges number d < bound edges
bound-above [] number d below = absurd (omega (arith, below))
bound-above (edge ∷ edges) zero d below = omega arith
bound-above (edge ∷ edges) (suc number) d below = let rest = bound-above edges number d (omega (arith, below)) in omega (arith, rest)

-- the edges from this one on have their places in the table
pub record IsFilled (places edges : List ℕ) (count left : ℕ) : Type 0 where
  pub within : left ≤ length edges
  pub size : length places ≡ bound edges
  pub table : (edge : ℕ) → looked_up places count edge ≡ place_from left count (drop left edges) edge

pub filled-begins : (edges : List ℕ) (size count : ℕ) → size ≡ bound edges → count ≡ length edges → IsFilled (replicate size count) edges count count
filled-begins edges size count bounded whole =
    record { within = omega (arith, whole); size = length-replicate size count ∙ bounded; table = table-begins edges size count whole }

table-goes-on : (places edges : List ℕ) (count left d : ℕ) → 0 < left → left ≤ length edges → length places ≡ bound edges
    → ((edge : ℕ) → looked_up places count edge ≡ place_from left count (drop left edges) edge)
    → (edge : ℕ) → looked_up (set places (get_or edges (left - 1) d) (left - 1)) count edge ≡ place_from (left - 1) count (drop (left - 1) edges) edge
table-goes-on places edges count left d some within size table edge =
    let number : ℕ = left - 1 in
    let here : ℕ = get_or edges number d in
    let next : number + 1 ≡ left = omega (arith, some) in
    let rest : drop number edges ≡ here ∷ drop left edges = drop_more edges number d (omega (arith, some, within)) ∙ ap (λ (from : ℕ). here ∷ drop from edges) next in
    let above : here < bound edges = bound-above edges number d (omega (arith, some, within)) in
    let goes_on : place_from number count (drop number edges) edge ≡ (if here == edge then number else place_from left count (drop left edges) edge) =
    ap (λ (left_over : List ℕ). place_from number count left_over edge) rest ∙ ap (λ (from : ℕ). if here == edge then number else place_from from count (drop left edges) edge) next in
    ⊎_elim (λ (same : here ≡ edge).
    ap (λ (at : ℕ). get_or (set places here number) at count) (sym same) ∙ get_or-set_same places here number count (omega (arith, above, size))
    ∙ sym (goes_on ∙ ap (λ (equal : Bool). if equal then number else place_from left count (drop left edges) edge) (eq-eqb here edge same)))
    (λ (other : here ≡ edge → ⊥).
    get_or-set_other places here edge number count (λ same. other (sym same)) ∙ table edge
    ∙ sym (goes_on ∙ ap (λ (equal : Bool). if equal then number else place_from left count (drop left edges) edge) (ne_eqb here edge other)))
    (cases_eq here edge)

pub filled-goes-on : (places edges : List ℕ) (count left d : ℕ) → 0 < left → IsFilled places edges count left
    → IsFilled (set places (get_or edges (left - 1) d) (left - 1)) edges count (left - 1)
filled-goes-on places edges count left d some filled =
    record {
      within = (let within = filled.within in omega (arith, within));
      size = length-set places (get_or edges (left - 1) d) (left - 1) ∙ filled.size;
      table = table-goes-on places edges count left d some filled.within filled.size filled.table;
    }

-- the place that is written is there
pub filled-above : (places edges : List ℕ) (count left d : ℕ) → 0 < left → IsFilled places edges count left → get_or edges (left - 1) d < length places
filled-above places edges count left d some filled =
    let within = filled.within in
    let above = bound-above edges (left - 1) d (omega (arith, some, within)) in
    let size = filled.size in omega (arith, above, size)

place-from : (from : ℕ) (edges : List ℕ) (edge : ℕ) → place_from from (from + length edges) edges edge ≡ from + place edges edge
place-from from [] edge = refl
place-from from (other ∷ edges) edge =
    let size : from + length (other ∷ edges) ≡ (from + 1) + length edges = omega arith in
    ap (λ (count : ℕ). if other == edge then from else place_from (from + 1) count edges edge) size ∙ by_first (other == edge) (place-from (from + 1) edges edge)
  where
    by_first : (here : Bool) → place_from (from + 1) ((from + 1) + length edges) edges edge ≡ (from + 1) + place edges edge
        → (if here then from else place_from (from + 1) ((from + 1) + length edges) edges edge) ≡ from + (if here then 0 else 1 + place edges edge)
    by_first true rest = omega arith
    by_first false rest = omega (arith, rest)

pub filled-ends : (places edges : List ℕ) (count left : ℕ) → count ≡ length edges → left ≤ 0 → IsFilled places edges count left
    → (edge : ℕ) → looked_up places count edge ≡ place edges edge
filled-ends places edges count left whole ends filled edge =
    let none : left ≡ 0 = omega (arith, ends) in
    let all : count ≡ 0 + length edges = omega (arith, whole) in
    filled.table edge ∙ ap (λ (from : ℕ). place_from from count (drop from edges) edge) none ∙ ap (λ (size : ℕ). place_from 0 size edges edge) all ∙ place-from 0 edges edge ∙ omega arith

-- items that are changed one after another
module _ {Item : Type 0} (change : Item → Item) where
  abbrev pub changed_up_to : ℕ → List Item → List Item
  changed_up_to number items = map change (take number items) ++ drop number items

  pub changes-on : (items now : List Item) (number : ℕ) (d : Item) → number < length items → now ≡ changed_up_to number items
      → set now number (change (get_or now number d)) ≡ changed_up_to (number + 1) items
  changes-on items now number d below is =
      let here : Item = get_or items number d in
      let front : List Item = map change (take number items) in
      let size : length front ≡ number = length-map (take number items) change ∙ length-take-le number items (omega (arith, below)) in
      let rest : drop number items ≡ here ∷ drop (number + 1) items = drop_more items number d below in
      let whole : now ≡ front ++ (here ∷ drop (number + 1) items) = is ∙ ap (λ (left : List Item). front ++ left) rest in
      let found : get_or now number d ≡ here = ap (λ (it : List Item). get_or it number d) whole ∙ get_or_at front here (drop (number + 1) items) d number size in
      ap (λ (it : Item). set now number (change it)) found ∙ ap (λ (it : List Item). set it number (change here)) whole
      ∙ set_at front here (drop (number + 1) items) (change here) number size
      ∙ pushed (take number items) here (drop (number + 1) items)
      ∙ ap (λ (it : List Item). map change it ++ drop (number + 1) items) (sym (take_more items number d below))
    where
      pushed : (first : List Item) (one : Item) (last : List Item) → map change first ++ (change one ∷ last) ≡ map change (first ++ one ∷ []) ++ last
      pushed [] one last = refl
      pushed (item ∷ first) one last = ap (λ (others : List Item). change item ∷ others) (pushed first one last)

  pub changed-all : (items now : List Item) (number : ℕ) → length items ≤ number → now ≡ changed_up_to number items → now ≡ map change items
  changed-all items now number past is =
      is ∙ ap (λ (it : List Item). map change it ++ drop number items) (take_all number items past) ∙ ap (λ (it : List Item). map change items ++ it) (drop_all number items past) ∙ append-nil (map change items)

pub ruleset table_laws = (filled-begins, filled-goes-on, filled-above, filled-ends, changes-on, changed-all)
