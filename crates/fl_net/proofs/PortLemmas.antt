-- The ports of a node: what a piece more on an edge is at them, and that no other node has the edge.
use Rattle.std.proofs.Common.{◌≡◌, ℕ, zero, suc, ◌+◌, ◌≤◌, ◌==◌, List, [], ◌∷◌, ◌++◌, Bool, true, false, ◌||◌, if◌then◌else◌, slice_get, Some, refl, ap, sym, ◌∙◌, arith, eq-eqb}
use Rattle.std.specs.List.{flat_map}
use Rattle.std.proofs.lemmas.Bool.{or_parts, or_left, or_right, eqb-true, ne_eqb}
use Rattle.std.proofs.Math.Dec.{eqb-suc-suc}
use mathlib.Core.Path.{fun_ext}
use Rattle.fl_graph.specs.Net.{has, count, takes}
use Rattle.fl_graph.specs.declared.graphs.Cell.{Cell}
use Rattle.fl_graph.specs.Runs.{add}
use Rattle.fl_graph.specs.Valid.{Valid}
use Rattle.fl_graph.specs.declared.graphs.StatusRule.{StatusRule}
use Rattle.fl_graph.specs.declared.kinds.NodeKind.{NodeKind}
use Rattle.fl_graph.specs.declared.pieces.Piece.{Piece}
use Rattle.fl_graph.proofs.ListLemmas.{count-append, count-has}
use Rattle.fl_net.specs.Laws.{at_ports}

-- the edge at a port is one of the edges
pub stands-has : (edges : List ℕ) (port edge : ℕ) → slice_get edges port ≡ Some edge → has edge edges ≡ true
stands-has [] port edge stands = absurd (cc)
stands-has (first ∷ edges) zero edge stands = or_left (first == edge) (has edge edges) (eq-eqb first edge (cc))
stands-has (first ∷ edges) (suc port) edge stands = or_right (first == edge) (has edge edges) (stands-has edges port edge stands)

-- an edge that is there stands at a port
pub port_of : (edges : List ℕ) (edge : ℕ) → has edge edges ≡ true → (port : ℕ) × (slice_get edges port ≡ Some edge)
port_of [] edge there = absurd (cc)
port_of (first ∷ edges) edge there = by_first (first == edge) refl there (port_of edges edge)
  where
    by_first : (here : Bool) → (first == edge) ≡ here → (here || has edge edges) ≡ true
        → (has edge edges ≡ true → (port : ℕ) × (slice_get edges port ≡ Some edge)) → (port : ℕ) × (slice_get (first ∷ edges) port ≡ Some edge)
    by_first true is behind rest = (zero, ap (λ (it : ℕ). Some it) (eqb-true first edge is))
    by_first false is behind rest = let found = rest behind in (suc found.0, found.1)

-- the pieces at a port are those of its edge
pub at_ports-stands : (edges : List ℕ) (pieces : ℕ → List Piece) (port edge : ℕ) → slice_get edges port ≡ Some edge → at_ports edges pieces port ≡ pieces edge
at_ports-stands [] pieces port edge stands = absurd (cc)
at_ports-stands (first ∷ edges) pieces zero edge stands = ap pieces (cc)
at_ports-stands (first ∷ edges) pieces (suc port) edge stands = at_ports-stands edges pieces port edge stands

-- an edge that is counted in no place is not there
pub uncounted : (edge : ℕ) (edges : List ℕ) → count edge edges ≤ 0 → has edge edges ≡ false
uncounted edge edges none = by_test (has edge edges) refl
  where
    by_test : (there : Bool) → has edge edges ≡ there → there ≡ false
    by_test true is = let some = count-has edge edges is in absurd (omega (arith, some, none))
    by_test false is = refl

-- the edge in front is counted, or it is another
pub count-first : (first edge : ℕ) (edges : List ℕ) → (first == edge) ≡ true → count edge (first ∷ edges) ≡ 1 + count edge edges
count-first first edge edges here = ap (λ (test : Bool). (if test then 1 else 0) + count edge edges) here

pub count-other : (first edge : ℕ) (edges : List ℕ) → (first == edge) ≡ false → count edge (first ∷ edges) ≡ count edge edges
count-other first edge edges elsewhere =
    let none = ap (λ (test : Bool). (if test then 1 else 0) + count edge edges) elsewhere in omega (arith, none)

-- the edge in front is not this one, where this one stands behind it and is there once
pub first_other : (first edge : ℕ) (edges : List ℕ) (port : ℕ) → slice_get edges port ≡ Some edge → count edge (first ∷ edges) ≡ 1 → (first == edge) ≡ false
first_other first edge edges port stands once = by_test (first == edge) refl
  where
    by_test : (here : Bool) → (first == edge) ≡ here → here ≡ false
    by_test true is =
        let some = count-has edge edges (stands-has edges port edge stands) in
        let more = count-first first edge edges is in
        absurd (omega (arith, some, more, once))
    by_test false is = refl

-- an edge that is there once behind another is there once without it
pub once_behind : (first edge : ℕ) (edges : List ℕ) (port : ℕ) → slice_get edges port ≡ Some edge → count edge (first ∷ edges) ≡ 1 → count edge edges ≡ 1
once_behind first edge edges port stands once = sym (count-other first edge edges (first_other first edge edges port stands once)) ∙ once

module _ (edge : ℕ) (last : Piece) (pieces : ℕ → List Piece) where
  elsewhere_at : (edges : List ℕ) (port : ℕ) → has edge edges ≡ false → at_ports edges (add edge last pieces) port ≡ at_ports edges pieces port
  elsewhere_at [] port none = refl
  elsewhere_at (first ∷ edges) zero none =
      let parts = or_parts (first == edge) (has edge edges) none in
      ap (λ (here : Bool). if here then pieces first ++ last ∷ [] else pieces first) parts.0
  elsewhere_at (first ∷ edges) (suc port) none =
      let parts = or_parts (first == edge) (has edge edges) none in elsewhere_at edges port parts.1

  add_at : (edges : List ℕ) (port other : ℕ) → slice_get edges port ≡ Some edge → count edge edges ≡ 1
      → at_ports edges (add edge last pieces) other ≡ add port last (at_ports edges pieces) other
  add_at [] port other stands once = absurd (cc)
  add_at (first ∷ edges) zero zero stands once =
      ap (λ (here : Bool). if here then pieces first ++ last ∷ [] else pieces first) (eq-eqb first edge (cc))
  add_at (first ∷ edges) zero (suc other) stands once =
      let more = count-first first edge edges (eq-eqb first edge (cc)) in
      let none : has edge edges ≡ false = uncounted edge edges (omega (arith, more, once)) in
      let elsewhere : (suc other == zero) ≡ false = ne_eqb (suc other) zero (λ same. omega arith) in
      elsewhere_at edges other none
      ∙ ap (λ (here : Bool). if here then at_ports edges pieces other ++ last ∷ [] else at_ports edges pieces other) (sym elsewhere)
  add_at (first ∷ edges) (suc port) zero stands once =
      let elsewhere : (zero == suc port) ≡ false = ne_eqb zero (suc port) (λ same. omega arith) in
      ap (λ (here : Bool). if here then pieces first ++ last ∷ [] else pieces first) (first_other first edge edges port stands once ∙ sym elsewhere)
  add_at (first ∷ edges) (suc port) (suc other) stands once =
      add_at edges port other stands (once_behind first edge edges port stands once)
      ∙ ap (λ (test : Bool). if test then at_ports edges pieces other ++ last ∷ [] else at_ports edges pieces other) (sym (eqb-suc-suc other port))

-- a piece more on an edge is one more at the port that has it
pub at_ports-add : (edges : List ℕ) (edge port : ℕ) (last : Piece) (pieces : ℕ → List Piece) → slice_get edges port ≡ Some edge → count edge edges ≡ 1
    → at_ports edges (add edge last pieces) ≡ add port last (at_ports edges pieces)
at_ports-add edges edge port last pieces stands once = fun_ext (λ (other : ℕ). add_at edge last pieces edges port other stands once)

-- and changes nothing at the ports of a node that hasn't it
pub at_ports-elsewhere : (edges : List ℕ) (edge : ℕ) (last : Piece) (pieces : ℕ → List Piece) → has edge edges ≡ false
    → at_ports edges (add edge last pieces) ≡ at_ports edges pieces
at_ports-elsewhere edges edge last pieces none = fun_ext (λ (port : ℕ). elsewhere_at edge last pieces edges port none)

-- how often an edge is in the lists of one node, or of two, of all
module _ {Kind : Type 0} (part : Cell Kind → List ℕ) (edge : ℕ) where
  pub part_within : (cells : List (Cell Kind)) (node : ℕ) (cell : Cell Kind) → slice_get cells node ≡ Some cell
      → count edge (part cell) ≤ count edge (flat_map part cells)
  part_within [] node cell at_node = absurd (cc)
  part_within (first ∷ cells) zero cell at_node =
      let both = count-append edge (part first) (flat_map part cells) in
      let same : count edge (part first) ≡ count edge (part cell) = ap (λ (it : Cell Kind). count edge (part it)) (cc) in
      omega (arith, both, same)
  part_within (first ∷ cells) (suc node) cell at_node =
      let both = count-append edge (part first) (flat_map part cells) in
      let rest = part_within cells node cell at_node in omega (arith, both, rest)

  parts_within : (cells : List (Cell Kind)) (node other : ℕ) (cell another : Cell Kind)
      → slice_get cells node ≡ Some cell → slice_get cells other ≡ Some another → (node ≡ other → ⊥)
      → count edge (part cell) + count edge (part another) ≤ count edge (flat_map part cells)
  parts_within [] node other cell another at_node at_other apart = absurd (cc)
  parts_within (first ∷ cells) zero zero cell another at_node at_other apart = absurd (apart refl)
  parts_within (first ∷ cells) zero (suc other) cell another at_node at_other apart =
      let both = count-append edge (part first) (flat_map part cells) in
      let same : count edge (part first) ≡ count edge (part cell) = ap (λ (it : Cell Kind). count edge (part it)) (cc) in
      let rest = part_within cells other another at_other in omega (arith, both, same, rest)
  parts_within (first ∷ cells) (suc node) zero cell another at_node at_other apart =
      let both = count-append edge (part first) (flat_map part cells) in
      let same : count edge (part first) ≡ count edge (part another) = ap (λ (it : Cell Kind). count edge (part it)) (cc) in
      let rest = part_within cells node cell at_node in omega (arith, both, same, rest)
  parts_within (first ∷ cells) (suc node) (suc other) cell another at_node at_other apart =
      let both = count-append edge (part first) (flat_map part cells) in
      let rest = parts_within cells node other cell another at_node at_other (λ (same : node ≡ other). apart (ap (λ (it : ℕ). suc it) same)) in
      omega (arith, both, rest)

  module _ (cells : List (Cell Kind)) (once : count edge (flat_map part cells) ≤ 1) where
    pub single_part : (node : ℕ) (cell : Cell Kind) → slice_get cells node ≡ Some cell → has edge (part cell) ≡ true → count edge (part cell) ≡ 1
    single_part node cell at_node there =
        let some = count-has edge (part cell) there in
        let within = part_within cells node cell at_node in omega (arith, some, within, once)

    pub one_part : (node other : ℕ) (cell another : Cell Kind) → slice_get cells node ≡ Some cell → slice_get cells other ≡ Some another
        → has edge (part cell) ≡ true → (node ≡ other → ⊥) → has edge (part another) ≡ false
    one_part node other cell another at_node at_other there apart =
        let some = count-has edge (part cell) there in
        let within = parts_within cells node other cell another at_node at_other apart in
        uncounted edge (part another) (omega (arith, some, within, once))

module _ (cells : List (Cell NodeKind)) (status : StatusRule) (valid : Valid cells status) (edge : ℕ) where
  taken_once : count edge (takes cells) ≤ 1
  taken_once = let same = valid.edges.taken edge in let once = valid.edges.once edge in omega (arith, same, once)

  -- no other node takes an edge that a node takes, and it takes it at one port
  pub one-taker : (node other : ℕ) (cell another : Cell NodeKind) → slice_get cells node ≡ Some cell → slice_get cells other ≡ Some another
      → has edge cell.ins ≡ true → (node ≡ other → ⊥) → has edge another.ins ≡ false
  one-taker = one_part (λ (cell : Cell NodeKind). cell.ins) edge cells taken_once

  pub single-in : (node : ℕ) (cell : Cell NodeKind) → slice_get cells node ≡ Some cell → has edge cell.ins ≡ true → count edge cell.ins ≡ 1
  single-in = single_part (λ (cell : Cell NodeKind). cell.ins) edge cells taken_once

  -- no other node gives an edge that a node gives, and it gives it at one port
  pub one-giver : (node other : ℕ) (cell another : Cell NodeKind) → slice_get cells node ≡ Some cell → slice_get cells other ≡ Some another
      → has edge cell.outs ≡ true → (node ≡ other → ⊥) → has edge another.outs ≡ false
  one-giver = one_part (λ (cell : Cell NodeKind). cell.outs) edge cells (valid.edges.once edge)

  pub single-out : (node : ℕ) (cell : Cell NodeKind) → slice_get cells node ≡ Some cell → has edge cell.outs ≡ true → count edge cell.outs ≡ 1
  single-out = single_part (λ (cell : Cell NodeKind). cell.outs) edge cells (valid.edges.once edge)
