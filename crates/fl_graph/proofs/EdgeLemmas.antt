-- Who gives an edge and what it carries, found by looking among the nodes before.
use Rattle.std.proofs.Common.{◌≡◌, ℕ, ◌==◌, List, [], ◌∷◌, Bool, true, false, ◌&&◌, ◌||◌, if◌then◌else◌, refl, ap, sym, ◌∙◌, map}
use Rattle.std.specs.List.{list_all}
use Rattle.std.proofs.lemmas.List.Folds.{list_any-append, list_all-map}
use Rattle.ut_args.specs.Invocations.{words_of}
use Rattle.fl_graph.specs.Net.{has, gives, step, after}
use Rattle.fl_graph.specs.declared.graphs.Cell.{Cell}
use Rattle.fl_graph.specs.Makers.{Made, made_by, makes, absent, is_given, is_mapped, tells_order, tells_maps, leads_on, joins_maps, all_hold}
use Rattle.fl_graph.specs.Checks.{each_after, takes_given, comes_mapped, are_mapped, may_join, joins_its_maps}
use Rattle.fl_graph.specs.declared.kinds.NodeKind.{NodeKind}
use Rattle.fl_graph.specs.declared.kinds.NodeKind.TheVariants as kind
use Rattle.fl_graph.proofs.ListLemmas.{and-true, list_all-agree}
use Rattle.fl_graph.proofs.NetLemmas.{store-all, told_each}

is_given-made_by : (node : NodeKind) → is_given (made_by node) ≡ true
is_given-made_by (kind.Map inv) = refl
is_given-made_by (kind.Agg inv) = refl
is_given-made_by other = refl

-- an edge is given behind the nodes where it was before or one of them gives it
given-after : (cells : List (Cell NodeKind)) (made : ℕ → Made) (edge : ℕ) → is_given (after makes cells made edge) ≡ (is_given (made edge) || has edge (gives cells))
given-after [] made edge = or-none (is_given (made edge))
  where
    or-none : (test : Bool) → test ≡ (test || false)
    or-none true = refl
    or-none false = refl
given-after (cell ∷ cells) made edge =
    let stored = ap is_given (store-all cell.outs (made_by cell.kind) made edge) in
    let there = list_any-append (λ (other : ℕ). other == edge) cell.outs (gives cells) in
    given-after cells (step makes cell made) edge
    ∙ ap (λ (given : Bool). given || has edge (gives cells)) stored
    ∙ choice (has edge cell.outs) (has edge (gives cells))
    ∙ ap (λ (given : Bool). is_given (made edge) || given) (sym there)
  where
    choice : (here more : Bool) → (is_given (if here then made_by cell.kind else made edge) || more) ≡ (is_given (made edge) || (here || more))
    choice true more = ap (λ (given : Bool). given || more) (is_given-made_by cell.kind) ∙ sym (or-true (is_given (made edge)))
      where
        or-true : (test : Bool) → (test || true) ≡ true
        or-true true = refl
        or-true false = refl
    choice false more = refl

-- what the nodes before say of an edge's maps
mapped-after : (words : List (List ℕ)) (cells : List (Cell NodeKind)) (made : ℕ → Made) (edge : ℕ)
    → is_mapped words (after makes cells made edge) ≡ comes_mapped words edge (is_mapped words (made edge)) cells
mapped-after words [] made edge = refl
mapped-after words (cell ∷ cells) made edge =
    mapped-after words cells (step makes cell made) edge
    ∙ ap (λ (mapped : Bool). comes_mapped words edge mapped cells) (ap (is_mapped words) (store-all cell.outs (made_by cell.kind) made edge) ∙ choice (has edge cell.outs))
  where
    choice : (here : Bool) → is_mapped words (if here then made_by cell.kind else made edge) ≡ (if here then is_mapped words (made_by cell.kind) else is_mapped words (made edge))
    choice true = refl
    choice false = refl

order_told : (before : List (Cell NodeKind)) (cell : Cell NodeKind) → all_hold (tells_order cell.kind (map (after makes before absent) cell.ins)) ≡ takes_given before cell
order_told before cell =
    and-true (list_all is_given (map (after makes before absent) cell.ins))
    ∙ list_all-map is_given (after makes before absent) cell.ins
    ∙ list_all-agree (λ edge. is_given (after makes before absent edge)) (λ edge. has edge (gives before)) (given-after before absent) cell.ins

-- the order of nodes, by looking among those before
pub leads_on-each : (cells : List (Cell NodeKind)) → leads_on cells ≡ each_after takes_given [] cells
leads_on-each cells = told_each makes tells_order absent takes_given order_told [] cells

words_told : (words : List (List ℕ)) (before : List (Cell NodeKind)) (ins : List ℕ) → (list_all (is_mapped words) (map (after makes before absent) ins) && true) ≡ are_mapped words before ins
words_told words before ins =
    and-true (list_all (is_mapped words) (map (after makes before absent) ins))
    ∙ list_all-map (is_mapped words) (after makes before absent) ins
    ∙ list_all-agree (λ edge. is_mapped words (after makes before absent edge)) (λ edge. comes_mapped words edge false before) (mapped-after words before absent) ins

maps_told : (before : List (Cell NodeKind)) (node : NodeKind) (ins : List ℕ) → all_hold (tells_maps node (map (after makes before absent) ins)) ≡ may_join node before ins
maps_told before (kind.Agg inv) ins = words_told (words_of inv) before ins
maps_told before (kind.Finish inv) ins = words_told (words_of inv) before ins
maps_told before other ins = refl

-- the maps that aggregates and finishes join, likewise
pub joins_maps-each : (cells : List (Cell NodeKind)) → joins_maps cells ≡ each_after joins_its_maps [] cells
joins_maps-each cells = told_each makes tells_maps absent joins_its_maps (λ before cell. maps_told before cell.kind cell.ins) [] cells
