-- The flow is the one assignment of texts to edges that meets the equation of each node.
use Rattle.std.proofs.Common.{◌≡◌, ℕ, ◌+◌, ◌<◌, ◌==◌, ◌&&◌, ◌||◌, Bool, true, false, List, [], ◌∷◌, ◌++◌, length, map, if◌then◌else◌, refl, ap, sym, ◌∙◌, append_assoc, append-nil, arith}
use Rattle.std.specs.List.{list_all}
use Rattle.std.proofs.lemmas.Bool.{true≢false, and_parts, or_from, eqb-true, true_from_ne_false}
use Rattle.std.proofs.lemmas.List.Folds.{list_any-append}
use Rattle.std.proofs.lemmas.Grind.{flat_map-append}
use Rattle.fl_graph.specs.Net.{has, gives, store, step, after}
use Rattle.fl_graph.specs.declared.graphs.Cell.{Cell}
use Rattle.fl_graph.specs.Checks.{takes_given, each_after}
use Rattle.fl_graph.specs.Valid.{Valid}
use Rattle.fl_graph.specs.declared.graphs.StatusRule.{StatusRule}
use Rattle.fl_graph.specs.declared.kinds.NodeKind.{NodeKind}
use Rattle.fl_graph.proofs.NetLemmas.{Agree, values-agree}
use Rattle.fl_graph.proofs.ListLemmas.{holds-has, count-none}
use Rattle.fl_graph.proofs.EdgeLemmas.{leads_on-each}
use Rattle.fl_graph.proofs.CheckLemmas.{each_number}
use Rattle.fl_classes.specs.Flow.{Placed, placed, placed_from, is_source, equation, flow, no_texts, Solves}

-- the values that are stored at edges are theirs, and no other edge's
store-given : (edges : List ℕ) (texts now : ℕ → List ℕ) (edge : ℕ) → store edges (map texts edges) now edge ≡ (if has edge edges then texts edge else now edge)
store-given [] texts now edge = refl
store-given (first ∷ edges) texts now edge = by_first (first == edge) refl (store-given edges texts now edge)
  where
    by_first : (here : Bool) → (first == edge) ≡ here → store edges (map texts edges) now edge ≡ (if has edge edges then texts edge else now edge)
        → (if here then texts first else store edges (map texts edges) now edge) ≡ (if here || has edge edges then texts edge else now edge)
    by_first true is _ = ap texts (eqb-true first edge is)
    by_first false _ rest = rest

-- one node after another
module _ (sources : List (List ℕ)) (texts : ℕ → List ℕ) where
  solved-step : (before : List (Cell Placed)) (cell : Cell Placed) (now : ℕ → List ℕ) → takes_given before cell ≡ true
      → map texts cell.outs ≡ equation sources cell.kind (length cell.outs) (map texts cell.ins) → Agree (gives before) now texts
      → Agree (gives (before ++ cell ∷ [])) (step (equation sources) cell now) texts
  solved-step before cell now given solves agree edge there =
      let ins : map now cell.ins ≡ map texts cell.ins =
      values-agree cell.ins now texts (λ edge taken. agree edge (holds-has (λ edge. has edge (gives before)) edge cell.ins given taken)) in
      let stored : step (equation sources) cell now edge ≡ (if has edge cell.outs then texts edge else now edge) =
      ap (λ texts. store cell.outs (equation sources cell.kind (length cell.outs) texts) now edge) ins
      ∙ ap (λ new. store cell.outs new now edge) (sym solves) ∙ store-given cell.outs texts now edge in
      stored ∙ by_out (has edge cell.outs) refl
    where
      whole : gives (before ++ cell ∷ []) ≡ gives before ++ (cell.outs ++ [])
      whole = flat_map-append (λ (cell : Cell Placed). cell.outs) before (cell ∷ [])

      by_out : (out : Bool) → has edge cell.outs ≡ out → (if out then texts edge else now edge) ≡ texts edge
      by_out true _ = refl
      by_out false none = agree edge (true_from_ne_false (has edge (gives before)) (λ absent.
          true≢false (sym there ∙ ap (has edge) whole ∙ list_any-append (λ other. other == edge) (gives before) (cell.outs ++ [])
          ∙ or_from (has edge (gives before)) (has edge (cell.outs ++ [])) absent (ap (has edge) (append-nil cell.outs) ∙ none))))

  solved : (before cells : List (Cell Placed)) (now : ℕ → List ℕ) → each_after takes_given before cells ≡ true → Solves sources cells texts
      → Agree (gives before) now texts → Agree (gives (before ++ cells)) (after (equation sources) cells now) texts
  solved before [] now given solves agree edge there = agree edge (ap (λ cells. has edge (gives cells)) (sym (append-nil before)) ∙ there)
  solved before (cell ∷ cells) now given solves agree edge there =
      let parts = and_parts (takes_given before cell) (each_after takes_given (before ++ cell ∷ []) cells) given in
      solved (before ++ cell ∷ []) cells (step (equation sources) cell now) parts.1 solves.1
      (solved-step before cell now parts.0 solves.0 agree) edge
      (ap (λ cells. has edge (gives cells)) (append_assoc before (cell ∷ []) cells) ∙ there)

-- the places of sources change no edge
gives-placed : (number : ℕ) (cells : List (Cell NodeKind)) → gives (placed_from number cells) ≡ gives cells
gives-placed number [] = refl
gives-placed number (cell ∷ cells) = ap (λ others. cell.outs ++ others) (gives-placed (if is_source cell.kind then number + 1 else number) cells)

order-placed : (number : ℕ) (before : List (Cell Placed)) (others cells : List (Cell NodeKind)) → gives before ≡ gives others
    → each_after takes_given before (placed_from number cells) ≡ each_after takes_given others cells
order-placed number before others [] same = refl
order-placed number before others (cell ∷ cells) same =
    let here : Cell Placed = record { kind = (number, cell.kind); ins = cell.ins; outs = cell.outs; stage = cell.stage } in
    let next : ℕ = if is_source cell.kind then number + 1 else number in
    let behind : gives (before ++ here ∷ []) ≡ gives (others ++ cell ∷ []) =
    flat_map-append (λ (cell : Cell Placed). cell.outs) before (here ∷ []) ∙ ap (λ edges. edges ++ (cell.outs ++ [])) same
    ∙ sym (flat_map-append (λ (cell : Cell NodeKind). cell.outs) others (cell ∷ [])) in
    ap (λ edges. list_all (λ edge. has edge edges) cell.ins && each_after takes_given (before ++ here ∷ []) (placed_from next cells)) same
    ∙ ap (λ rest. takes_given others cell && rest) (order-placed next (before ++ here ∷ []) (others ++ cell ∷ []) cells behind)

-- the flow
pub flow-solves : (cells : List (Cell NodeKind)) (status : StatusRule) → Valid cells status → (sources : List (List ℕ)) (texts : ℕ → List ℕ)
    → Solves sources (placed cells) texts → (edge : ℕ) → edge < length (gives cells) → flow cells sources edge ≡ texts edge
flow-solves cells status valid sources texts solves edge within =
    let order : each_after takes_given [] (placed cells) ≡ true =
    order-placed 0 [] [] cells refl ∙ sym (leads_on-each cells) ∙ valid.edges.later in
    let there : has edge (gives cells) ≡ true =
    true_from_ne_false (has edge (gives cells)) (λ none.
    let absent = count-none edge (gives cells) none in let once = (each_number cells status valid edge within).0 in absurd (omega arith)) in
    solved sources texts [] (placed cells) no_texts order solves (λ edge none. absurd (true≢false (sym none))) edge
    (ap (has edge) (gives-placed 0 cells) ∙ there)

pub ruleset flow_laws = (flow-solves)
