-- The places of sources change neither a graph's edges nor their order nor what its nodes tell.
use Rattle.std.proofs.Common.{◌≡◌, ℕ, suc, ◌+◌, length, ◌&&◌, List, [], ◌∷◌, ◌++◌, if◌then◌else◌, map, refl, ap, sym, ◌∙◌}
use Rattle.std.specs.List.{list_all, flat_map}
use Rattle.std.proofs.lemmas.Grind.{flat_map-append}
use Rattle.fl_graph.specs.Net.{has, gives, takes}
use Rattle.fl_graph.specs.declared.graphs.Cell.{Cell}
use Rattle.fl_graph.specs.Checks.{takes_given, each_after}
use Rattle.fl_graph.specs.declared.kinds.NodeKind.{NodeKind}
use Rattle.fl_classes.specs.Flow.{Placed, placed_from, is_source}

pub gives-placed : (number : ℕ) (cells : List (Cell NodeKind)) → gives (placed_from number cells) ≡ gives cells
gives-placed number [] = refl
gives-placed number (cell ∷ cells) = ap (λ (others : List ℕ). cell.outs ++ others) (gives-placed (if is_source cell.kind then number + 1 else number) cells)

pub takes-placed : (number : ℕ) (cells : List (Cell NodeKind)) → takes (placed_from number cells) ≡ takes cells
takes-placed number [] = refl
takes-placed number (cell ∷ cells) = ap (λ (others : List ℕ). cell.ins ++ others) (takes-placed (if is_source cell.kind then number + 1 else number) cells)

pub length-placed : (number : ℕ) (cells : List (Cell NodeKind)) → length (placed_from number cells) ≡ length cells
length-placed number [] = refl
length-placed number (cell ∷ cells) = ap (λ (others : ℕ). suc others) (length-placed (if is_source cell.kind then number + 1 else number) cells)

pub order-placed : (number : ℕ) (before : List (Cell Placed)) (others cells : List (Cell NodeKind)) → gives before ≡ gives others
    → each_after takes_given before (placed_from number cells) ≡ each_after takes_given others cells
order-placed number before others [] same = refl
order-placed number before others (cell ∷ cells) same =
    let here : Cell Placed = record { kind = (number, cell.kind); ins = cell.ins; outs = cell.outs; stage = cell.stage } in
    let next : ℕ = if is_source cell.kind then number + 1 else number in
    let behind : gives (before ++ here ∷ []) ≡ gives (others ++ cell ∷ []) =
    flat_map-append (λ (cell : Cell Placed). cell.outs) before (here ∷ []) ∙ ap (λ (edges : List ℕ). edges ++ (cell.outs ++ [])) same
    ∙ sym (flat_map-append (λ (cell : Cell NodeKind). cell.outs) others (cell ∷ [])) in
    ap (λ (edges : List ℕ). list_all (λ (edge : ℕ). has edge edges) cell.ins && each_after takes_given (before ++ here ∷ []) (placed_from next cells)) same
    ∙ ap (λ rest. takes_given others cell && rest) (order-placed next (before ++ here ∷ []) (others ++ cell ∷ []) cells behind)

-- what is told of a node's kind and the texts of its ins
module _ {Told : Type 0} (tell : NodeKind → List (List ℕ) → List Told) (texts : ℕ → List ℕ) where
  pub told-placed : (number : ℕ) (cells : List (Cell NodeKind))
      → flat_map (λ (cell : Cell Placed). tell cell.kind.1 (map texts cell.ins)) (placed_from number cells) ≡ flat_map (λ (cell : Cell NodeKind). tell cell.kind (map texts cell.ins)) cells
  told-placed number [] = refl
  told-placed number (cell ∷ cells) =
      ap (λ (others : List Told). tell cell.kind (map texts cell.ins) ++ others) (told-placed (if is_source cell.kind then number + 1 else number) cells)
