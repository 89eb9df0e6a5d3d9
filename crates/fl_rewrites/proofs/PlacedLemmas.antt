-- Nodes with the number of sources before each: what they are wired to and what they tell is that of the nodes alone.
use Rattle.std.proofs.Common.{◌≡◌, ℕ, ◌+◌, ◌≤◌, List, [], ◌∷◌, ◌++◌, Bool, ◌&&◌, if◌then◌else◌, map, refl, ap, sym, subst, ◌∙◌}
use Rattle.std.specs.List.{list_all}
use Rattle.std.proofs.lemmas.Grind.{flat_map-append}
use Rattle.fl_graph.specs.Net.{has, count, takes, gives}
use Rattle.fl_graph.specs.Checks.{takes_given, each_after}
use Rattle.fl_graph.specs.declared.graphs.Cell.{Cell}
use Rattle.fl_graph.specs.declared.kinds.NodeKind.{NodeKind}
use Rattle.fl_classes.specs.Flow.{Placed, placed, placed_from, is_source}
use Rattle.fl_rewrites.specs.Numbering.{place, renamed, numbered}
use Rattle.fl_rewrites.proofs.OrderLemmas.{IsWired, told}

-- the number of sources before the node behind these
abbrev pub sources_behind : ℕ → List (Cell NodeKind) → ℕ
sources_behind number [] = number
sources_behind number (cell ∷ cells) = sources_behind (if is_source cell.kind then number + 1 else number) cells

abbrev pub numbered_cell : ℕ → Cell NodeKind → Cell Placed
numbered_cell number cell = record { kind = (number, cell.kind); ins = cell.ins; outs = cell.outs; stage = cell.stage }

abbrev pub next_source : ℕ → Cell NodeKind → ℕ
next_source number cell = if is_source cell.kind then number + 1 else number

pub placed-append : (number : ℕ) (front back : List (Cell NodeKind)) → placed_from number (front ++ back) ≡ placed_from number front ++ placed_from (sources_behind number front) back
placed-append number [] back = refl
placed-append number (cell ∷ front) back = ap (λ (rest : List (Cell Placed)). numbered_cell number cell ∷ rest) (placed-append (next_source number cell) front back)

pub behind-append : (number : ℕ) (front back : List (Cell NodeKind)) → sources_behind number (front ++ back) ≡ sources_behind (sources_behind number front) back
behind-append number [] back = refl
behind-append number (cell ∷ front) back = behind-append (next_source number cell) front back

pub gives-placed : (number : ℕ) (cells : List (Cell NodeKind)) → gives (placed_from number cells) ≡ gives cells
gives-placed number [] = refl
gives-placed number (cell ∷ cells) = ap (λ (others : List ℕ). cell.outs ++ others) (gives-placed (next_source number cell) cells)

pub takes-placed : (number : ℕ) (cells : List (Cell NodeKind)) → takes (placed_from number cells) ≡ takes cells
takes-placed number [] = refl
takes-placed number (cell ∷ cells) = ap (λ (others : List ℕ). cell.ins ++ others) (takes-placed (next_source number cell) cells)

later-placed : (number : ℕ) (before : List (Cell Placed)) (others cells : List (Cell NodeKind)) → gives before ≡ gives others
    → each_after takes_given before (placed_from number cells) ≡ each_after takes_given others cells
later-placed number before others [] same = refl
later-placed number before others (cell ∷ cells) same =
    let here : Cell Placed = numbered_cell number cell in
    let behind : gives (before ++ here ∷ []) ≡ gives (others ++ cell ∷ []) =
    flat_map-append (λ (cell : Cell Placed). cell.outs) before (here ∷ []) ∙ ap (λ (edges : List ℕ). edges ++ (cell.outs ++ [])) same
    ∙ sym (flat_map-append (λ (cell : Cell NodeKind). cell.outs) others (cell ∷ [])) in
    ap (λ (edges : List ℕ). list_all (λ edge. has edge edges) cell.ins && each_after takes_given (before ++ here ∷ []) (placed_from (next_source number cell) cells)) same
    ∙ ap (λ (rest : Bool). takes_given others cell && rest) (later-placed (next_source number cell) (before ++ here ∷ []) (others ++ cell ∷ []) cells behind)

pub wired-placed : (cells : List (Cell NodeKind)) → IsWired cells → IsWired (placed cells)
wired-placed cells wired =
    record {
      once = λ edge. subst (λ (edges : List ℕ). count edge edges ≤ 1) (sym (gives-placed 0 cells)) (wired.once edge);
      taken = λ edge. ap (count edge) (takes-placed 0 cells) ∙ wired.taken edge ∙ ap (count edge) (sym (gives-placed 0 cells));
      later = later-placed 0 [] [] cells refl ∙ wired.later;
    }

placed-renamed : (turn : ℕ → ℕ) (number : ℕ) (cells : List (Cell NodeKind)) → placed_from number (map (renamed turn) cells) ≡ map (renamed turn) (placed_from number cells)
placed-renamed turn number [] = refl
placed-renamed turn number (cell ∷ cells) = ap (λ (rest : List (Cell Placed)). renamed turn (numbered_cell number cell) ∷ rest) (placed-renamed turn (next_source number cell) cells)

pub placed-numbered : (cells : List (Cell NodeKind)) → placed (numbered cells) ≡ numbered (placed cells)
placed-numbered cells =
    placed-renamed (place (gives cells)) 0 cells ∙ ap (λ (edges : List ℕ). map (renamed (place edges)) (placed cells)) (sym (gives-placed 0 cells))

module _ {Value Told : Type 0} (tell : NodeKind → List Value → List Told) (known : ℕ → Value) where
  pub told-placed : (number : ℕ) (cells : List (Cell NodeKind)) → told (λ (node : Placed) (ins : List Value). tell node.1 ins) known (placed_from number cells) ≡ told tell known cells
  told-placed number [] = refl
  told-placed number (cell ∷ cells) = ap (λ (rest : List Told). tell cell.kind (map known cell.ins) ++ rest) (told-placed (next_source number cell) cells)
