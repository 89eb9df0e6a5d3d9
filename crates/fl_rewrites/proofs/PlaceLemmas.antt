-- The node with a number, and those before and behind it.
use Rattle.std.proofs.Common.{◌≡◌, ℕ, zero, suc, ◌+◌, ◌<◌, ◌≤◌, List, [], ◌∷◌, ◌++◌, true, false, Some, length, take, drop, get_or, refl, ap, sym, ◌∙◌, arith, ⊎_elim}
use Rattle.std.specs.List.{slice_get}
use Rattle.std.proofs.lemmas.Option.{none-some, same_Some}
use Rattle.std.proofs.lemmas.List.Quantifiers.{position-Some}
use Rattle.std.proofs.lemmas.Option.{get_or_from_slice_get}
use Rattle.std.proofs.lemmas.Bool.{true≢false, false_from_ne_true, cases_lt}
use Rattle.fl_graph.specs.Net.{has, gives}
use Rattle.fl_graph.specs.declared.graphs.Cell.{Cell}
use Rattle.fl_graph.specs.declared.graphs.Graph.{Graph}
use Rattle.fl_graph.specs.declared.kinds.NodeKind.{NodeKind}
use Rattle.fl_rewrites.specs.Places.{replaced, taker_of, giver_of}
use Rattle.fl_rewrites.specs.Replacing.{with_nodes}
use Rattle.fl_rewrites.proofs.SpliceLemmas.{has-either}

module _ {Kind : Type 0} where
  -- the node has this number, between those before and behind it
  pub record StandsAt (cells : List (Cell Kind)) (place : ℕ) (cell : Cell Kind) : Type 0 where
    pub front : List (Cell Kind)
    pub back : List (Cell Kind)
    pub whole : cells ≡ front ++ (cell ∷ back)
    pub number : length front ≡ place
    pub others : (become : Cell Kind → List (Cell Kind)) → replaced become place cells ≡ front ++ (become cell ++ back)

  pub stands-at : (cells : List (Cell Kind)) (place : ℕ) (cell : Cell Kind) → slice_get cells place ≡ Some cell → StandsAt cells place cell
  stands-at [] place cell there = absurd (none-some cell there)
  stands-at (first ∷ cells) zero cell there =
      let same : first ≡ cell = same_Some first cell there in
      record {
        front = [];
        back = cells;
        whole = ap (λ (it : Cell Kind). it ∷ cells) same;
        number = refl;
        others = λ become. ap (λ (it : Cell Kind). become it ++ cells) same;
      }
  stands-at (first ∷ cells) (suc place) cell there =
      let rest = stands-at cells place cell there in
      record {
        front = first ∷ rest.front;
        back = rest.back;
        whole = ap (λ (others : List (Cell Kind)). first ∷ others) rest.whole;
        number = ap suc rest.number;
        others = λ become. ap (λ (others : List (Cell Kind)). first ∷ others) (rest.others become);
      }

  -- the node that takes an edge does so
  pub taker-takes : (edge : ℕ) (cells : List (Cell Kind)) (place : ℕ) (cell : Cell Kind) → taker_of edge cells ≡ Some place → slice_get cells place ≡ Some cell → has edge cell.ins ≡ true
  taker-takes edge cells place cell taken there =
      let found = position-Some (λ (it : Cell Kind). has edge it.ins) cells place cell taken in
      ap (λ (it : Cell Kind). has edge it.ins) (sym (get_or_from_slice_get cells place cell cell there)) ∙ found.1

  -- so does the first one that gives it
  pub giver-gives : (edge : ℕ) (cells : List (Cell Kind)) (place : ℕ) (cell : Cell Kind) → giver_of edge cells ≡ Some place → slice_get cells place ≡ Some cell → has edge cell.outs ≡ true
  giver-gives edge cells place cell given there =
      let found = position-Some (λ (it : Cell Kind). has edge it.outs) cells place cell given in
      ap (λ (it : Cell Kind). has edge it.outs) (sym (get_or_from_slice_get cells place cell cell there)) ∙ found.1

  none-before : (edge : ℕ) (front back : List (Cell Kind)) (d : Cell Kind) → ((place : ℕ) → place < length front → has edge (get_or (front ++ back) place d).outs ≡ false) → has edge (gives front) ≡ false
  none-before edge [] back d none = refl
  none-before edge (cell ∷ front) back d none =
      false_from_ne_true (has edge (gives (cell ∷ front))) (λ there.
      ⊎_elim (λ (own : has edge cell.outs ≡ true). true≢false (sym own ∙ none 0 (omega arith)))
      (λ (later : has edge (gives front) ≡ true). true≢false (sym later ∙ none-before edge front back d (λ place low. none (suc place) (omega (arith, low)))))
      (has-either edge cell.outs (gives front) there))

  slice-front : (front back : List (Cell Kind)) (place : ℕ) → place < length front → slice_get (front ++ back) place ≡ slice_get front place
  slice-front [] back place low = absurd (omega (arith, low))
  slice-front (cell ∷ front) back zero low = refl
  slice-front (cell ∷ front) back (suc place) low = slice-front front back place (omega (arith, low))

  -- the first node that gives an edge is among those before, where one of these does
  pub giver-among : (edge : ℕ) (front back : List (Cell Kind)) (place : ℕ) (cell : Cell Kind) → has edge (gives front) ≡ true → giver_of edge (front ++ back) ≡ Some place
      → slice_get (front ++ back) place ≡ Some cell → slice_get front place ≡ Some cell
  giver-among edge front back place cell there given found =
      let first = position-Some (λ (it : Cell Kind). has edge it.outs) (front ++ back) place cell given in
      ⊎_elim (λ (low : place < length front). sym (slice-front front back place low) ∙ found)
      (λ (high : length front ≤ place).
      absurd (true≢false (sym there ∙ none-before edge front back cell (λ number low. first.2 number (omega (arith, low, high))))))
      (cases_lt place (length front))

  -- nodes in the place of the one behind these
  pub replaced-at : (become : Cell Kind → List (Cell Kind)) (front : List (Cell Kind)) (cell : Cell Kind) (back : List (Cell Kind)) → replaced become (length front) (front ++ (cell ∷ back)) ≡ front ++ (become cell ++ back)
  replaced-at become [] cell back = refl
  replaced-at become (first ∷ front) cell back = ap (λ (rest : List (Cell Kind)). first ∷ rest) (replaced-at become front cell back)

  -- they are those before it, then these, then those behind it
  pub replaced_taken : (cells news : List (Cell Kind)) (place : ℕ) → place < length cells
      → (take place (take (place + 1) cells) ++ news) ++ drop (place + 1) cells ≡ replaced (λ (cell : Cell Kind). news) place cells
  replaced_taken [] news place below = absurd (omega (arith, below))
  replaced_taken (cell ∷ cells) news zero below = refl
  replaced_taken (cell ∷ cells) news (suc place) below =
      let next : suc place + 1 ≡ suc (place + 1) = omega arith in
      ap (λ (size : ℕ). (take (suc place) (take size (cell ∷ cells)) ++ news) ++ drop size (cell ∷ cells)) next
      ∙ ap (λ (rest : List (Cell Kind)). cell ∷ rest) (replaced_taken cells news place (omega (arith, below)))

  replaced-longer : (cells news : List (Cell Kind)) (place below : ℕ) → place < length cells → below < place → below < length (replaced (λ (cell : Cell Kind). news) place cells)
  replaced-longer [] news place below within before = absurd (omega (arith, within))
  replaced-longer (cell ∷ cells) news zero below within before = absurd (omega (arith, before))
  replaced-longer (cell ∷ cells) news (suc place) zero within before = omega arith
  replaced-longer (cell ∷ cells) news (suc place) (suc below) within before =
      let rest = replaced-longer cells news place below (omega (arith, within)) (omega (arith, before)) in omega (arith, rest)

-- a node before them is still there
pub with_nodes_longer : (graph new : Graph) (cells : List (Cell NodeKind)) (place below named : ℕ) → new ≡ with_nodes place cells named graph → place < length graph.nodes → below < place → below < length new.nodes
with_nodes_longer graph new cells place below named is within before =
    let size = ap (λ (it : Graph). length it.nodes) is in
    let longer = replaced-longer graph.nodes cells place below within before in omega (arith, size, longer)

pub ruleset place_laws = with_nodes_longer
