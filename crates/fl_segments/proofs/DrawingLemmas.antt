-- Graphs that are made node by node: their edges, and what is found among their nodes.
use Rattle.std.proofs.Common.{◌≡◌, ℕ, zero, suc, ◌+◌, List, [], ◌∷◌, ◌++◌, Bool, true, false, ◌&&◌, ◌||◌, Option, if◌then◌else◌, nat_lt, length, refl, ap, sym, ◌∙◌, append-nil, arith}
use Rattle.std.specs.List.{range_with_len, list_all, list_any, count_by, filter_map, flat_map, cons_option}
use Rattle.std.proofs.lemmas.Bool.{and_from, ltb-true}
use Rattle.std.proofs.lemmas.Grind.{flat_map-append}
use Rattle.std.proofs.lemmas.List.FromFn.{length-range_with_len}
use Rattle.std.proofs.lemmas.List.Sums.{sum_by-cons}
use Rattle.fl_graph.specs.Net.{has, count, takes, gives}
use Rattle.fl_graph.specs.declared.graphs.Cell.{Cell}
use Rattle.fl_graph.specs.Checks.{takes_given, each_after}
use Rattle.fl_graph.specs.Kinds.{may_have, has_its_ports}
use Rattle.fl_graph.specs.Valid.{HasEdges}
use Rattle.fl_graph.specs.declared.kinds.NodeKind.{NodeKind}
use Rattle.fl_graph.specs.declared.kinds.NodeKind.TheVariants as kind
use Rattle.fl_graph.proofs.ListLemmas.{holds-has, all-has}
use Rattle.fl_graph.proofs.EdgeLemmas.{leads_on-each}
use Rattle.fl_segments.specs.Inner.Drawing.{Step, cell_of, outs_of, next_of, drawn, behind}
use Rattle.fl_segments.proofs.RowLemmas.{range-append, range-below, range-has, range-once}

-- how many edges these give, and those that they take
abbrev pub given : List Step → ℕ
given [] = 0
given (it ∷ steps) = it.outs + given steps

abbrev pub taken : List Step → List ℕ
taken steps = flat_map (λ it. it.ins) steps

-- each takes edges that are given before
abbrev pub AreBelow : ℕ → List Step → Type 0
AreBelow next [] = Unit {0}
AreBelow next (it ∷ steps) = (list_all (λ edge. nat_lt edge next) it.ins ≡ true) × AreBelow (next_of it.outs next) steps

pub drawn-append : (next : ℕ) (front back : List Step) → drawn next (front ++ back) ≡ drawn next front ++ drawn (behind next front) back
drawn-append next [] back = refl
drawn-append next (it ∷ front) back = ap (λ (cells : List (Cell NodeKind)). cell_of it (outs_of it.outs next) ∷ cells) (drawn-append (next_of it.outs next) front back)

pub behind-append : (next : ℕ) (front back : List Step) → behind next (front ++ back) ≡ behind (behind next front) back
behind-append next [] back = refl
behind-append next (it ∷ front) back = behind-append (next_of it.outs next) front back

pub next-is : (outs next : ℕ) → next_of outs next ≡ next + outs
next-is zero next = omega arith
next-is (suc outs) next = next-is outs (next + 1) ∙ omega arith

pub next_sum : (outs next sum : ℕ) → sum ≡ next + outs → sum ≡ next_of outs next
next_sum outs next sum is = is ∙ sym (next-is outs next)

pub behind-given : (next : ℕ) (steps : List Step) → behind next steps ≡ next + given steps
behind-given next [] = omega arith
behind-given next (it ∷ steps) =
    let here = next-is it.outs next in
    let rest = behind-given (next_of it.outs next) steps in
    rest ∙ ap (λ (from : ℕ). from + given steps) here ∙ omega arith

pub given-append : (front back : List Step) → given (front ++ back) ≡ given front + given back
given-append [] back = omega arith
given-append (it ∷ front) back = let rest = given-append front back in omega (arith, rest)

pub below-append : (next : ℕ) (front back : List Step) → AreBelow next front → AreBelow (behind next front) back → AreBelow next (front ++ back)
below-append next [] back first rest = rest
below-append next (it ∷ front) back first rest = (first.0, below-append (next_of it.outs next) front back first.1 rest)

pub takes-drawn : (next : ℕ) (steps : List Step) → takes (drawn next steps) ≡ taken steps
takes-drawn next [] = refl
takes-drawn next (it ∷ steps) = ap (λ (edges : List ℕ). it.ins ++ edges) (takes-drawn (next_of it.outs next) steps)

pub gives-drawn : (next : ℕ) (steps : List Step) → gives (drawn next steps) ≡ range_with_len next (given steps)
gives-drawn next [] = refl
gives-drawn next (it ∷ steps) =
    ap (λ (edges : List ℕ). range_with_len next it.outs ++ edges) (gives-drawn (next_of it.outs next) steps)
    ∙ ap (λ (from : ℕ). range_with_len next it.outs ++ range_with_len from (given steps)) (next-is it.outs next) ∙ range-append next it.outs (given steps)

outs-row : (outs next : ℕ) → range_with_len 0 next ++ range_with_len next outs ≡ range_with_len 0 (next_of outs next)
outs-row outs next =
    let here : 0 + next ≡ next = omega arith in
    ap (λ (from : ℕ). range_with_len 0 next ++ range_with_len from outs) (sym here) ∙ range-append 0 next outs ∙ ap (range_with_len 0) (sym (next-is outs next))

order-drawn : (before : List (Cell NodeKind)) (next : ℕ) (steps : List Step) → gives before ≡ range_with_len 0 next → AreBelow next steps
    → each_after takes_given before (drawn next steps) ≡ true
order-drawn before next [] row below = refl
order-drawn before next (it ∷ steps) row below =
    let cell : Cell NodeKind = cell_of it (outs_of it.outs next) in
    let here : takes_given before cell ≡ true =
    all-has (λ edge. has edge (gives before)) it.ins (λ edge there.
    ap (has edge) row ∙ range-has 0 next edge (omega arith) (let less = ltb-true edge next (holds-has (λ edge. nat_lt edge next) edge it.ins below.0 there) in omega (arith, less))) in
    let all : gives (before ++ cell ∷ []) ≡ range_with_len 0 (next_of it.outs next) =
    flat_map-append (λ (cell : Cell NodeKind). cell.outs) before (cell ∷ []) ∙ ap (λ (outs : List ℕ). gives before ++ outs) (append-nil (outs_of it.outs next))
    ∙ ap (λ (edges : List ℕ). edges ++ outs_of it.outs next) row ∙ outs-row it.outs next in
    and_from (takes_given before cell) (each_after takes_given (before ++ cell ∷ []) (drawn (next_of it.outs next) steps)) here
    (order-drawn (before ++ cell ∷ []) (next_of it.outs next) steps all below.1)

-- each edge is taken once
abbrev pub AreTaken : List Step → Type 0
AreTaken steps = (edge : ℕ) → count edge (taken steps) ≡ count edge (range_with_len 0 (given steps))

pub edges-drawn : (steps : List Step) → AreBelow 0 steps → AreTaken steps → HasEdges (drawn 0 steps)
edges-drawn steps below all =
    let cells : List (Cell NodeKind) = drawn 0 steps in
    let row : gives cells ≡ range_with_len 0 (given steps) = gives-drawn 0 steps in
    let size : length (gives cells) ≡ given steps = ap length row ∙ length-range_with_len 0 (given steps) in
    record {
      below = λ edge there. let less = range-below 0 (given steps) edge (ap (has edge) (sym row) ∙ there) in omega (arith, less, size);
      once = λ edge. rw row (range-once 0 (given steps) edge);
      taken = λ edge. ap (count edge) (takes-drawn 0 steps) ∙ all edge ∙ ap (count edge) (sym row);
      later = leads_on-each cells ∙ order-drawn [] 0 steps refl below;
    }

-- what is asked of the kinds of all
module _ (test : NodeKind → Bool) where
  pub all-drawn : (next : ℕ) (steps : List Step) → list_all (λ (cell : Cell NodeKind). test cell.kind) (drawn next steps) ≡ list_all (λ (it : Step). test it.kind) steps
  all-drawn next [] = refl
  all-drawn next (it ∷ steps) = ap (λ rest. test it.kind && rest) (all-drawn (next_of it.outs next) steps)

  pub any-drawn : (next : ℕ) (steps : List Step) → list_any (λ (cell : Cell NodeKind). test cell.kind) (drawn next steps) ≡ list_any (λ (it : Step). test it.kind) steps
  any-drawn next [] = refl
  any-drawn next (it ∷ steps) = ap (λ rest. test it.kind || rest) (any-drawn (next_of it.outs next) steps)

  pub count-drawn : (next : ℕ) (steps : List Step) → count_by (λ (cell : Cell NodeKind). test cell.kind) (drawn next steps) ≡ count_by (λ (it : Step). test it.kind) steps
  count-drawn next [] = refl
  count-drawn next (it ∷ steps) =
      sum_by-cons (λ (cell : Cell NodeKind). if test cell.kind then 1 else 0) (cell_of it (outs_of it.outs next)) (drawn (next_of it.outs next) steps)
      ∙ ap (λ rest. (if test it.kind then 1 else 0) + rest) (count-drawn (next_of it.outs next) steps)
      ∙ sym (sum_by-cons (λ (it : Step). if test it.kind then 1 else 0) it steps)

module _ {Found : Type 0} (find : NodeKind → Option Found) where
  pub found-drawn : (next : ℕ) (steps : List Step) → filter_map (λ (cell : Cell NodeKind). find cell.kind) (drawn next steps) ≡ filter_map (λ (it : Step). find it.kind) steps
  found-drawn next [] = refl
  found-drawn next (it ∷ steps) = ap (λ (rest : List Found). cons_option (find it.kind) rest) (found-drawn (next_of it.outs next) steps)

module _ {Told : Type 0} (tell : NodeKind → ℕ → List Told) where
  pub told-drawn : (next : ℕ) (steps : List Step)
      → flat_map (λ (cell : Cell NodeKind). tell cell.kind (length cell.ins)) (drawn next steps) ≡ flat_map (λ (it : Step). tell it.kind (length it.ins)) steps
  told-drawn next [] = refl
  told-drawn next (it ∷ steps) = ap (λ (rest : List Told). tell it.kind (length it.ins) ++ rest) (told-drawn (next_of it.outs next) steps)

-- each has the ports of its kind
abbrev pub fits_ports : Step → Bool
fits_ports it = may_have it.kind (length it.ins) it.outs

pub ports-drawn : (next : ℕ) (steps : List Step) → list_all has_its_ports (drawn next steps) ≡ list_all fits_ports steps
ports-drawn next [] = refl
ports-drawn next (it ∷ steps) =
    ap (λ (outs : ℕ). may_have it.kind (length it.ins) outs && list_all has_its_ports (drawn (next_of it.outs next) steps)) (length-range_with_len next it.outs)
    ∙ ap (λ rest. fits_ports it && rest) (ports-drawn (next_of it.outs next) steps)

-- it joins no maps
abbrev pub joins_none : NodeKind → Bool
joins_none (kind.Agg inv) = false
joins_none (kind.Finish inv) = false
joins_none other = true
