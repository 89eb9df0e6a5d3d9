-- The plan of a valid graph: each edge is taken by one node and given by one, and those from outside and to the outside are no others.
use Rattle.std.proofs.Common.{◌≡◌, ℕ, zero, suc, ◌+◌, ◌<◌, ◌≤◌, ◌==◌, List, [], ◌∷◌, Bool, true, false, ◌||◌, if◌then◌else◌, length, slice_get, Option, Some, None, refl, ap, sym, ◌∙◌, arith, eq-eqb}
use Rattle.std.specs.List.{list_all, flat_map}
use Rattle.std.proofs.lemmas.Bool.{and_parts, true≢false, true_from_ne_false, eqb-true, ne_eqb}
use Rattle.std.proofs.lemmas.List.{nil_from_length}
use Rattle.fl_graph.specs.Net.{has, count, gives}
use Rattle.fl_graph.specs.declared.graphs.Cell.{Cell}
use Rattle.fl_graph.specs.Kinds.{may_have, has_its_ports}
use Rattle.fl_graph.specs.Valid.{Valid}
use Rattle.fl_graph.specs.declared.graphs.StatusRule.{StatusRule}
use Rattle.fl_graph.specs.declared.kinds.NodeKind.{NodeKind}
use Rattle.fl_graph.specs.declared.kinds.NodeKind.TheVariants as kind
use Rattle.fl_graph.proofs.ListLemmas.{count-has, count-none}
use Rattle.fl_classes.specs.Flow.{is_source}
use Rattle.fl_classes.specs.Kinds.{is_sink, is_writer}
use Rattle.fl_net.specs.Runs.{Plan, IsWired}
use Rattle.fl_net.specs.Plans.{outer_edge, IsPlanOf}
use Rattle.fl_net.proofs.PortLemmas.{part_within, single_part, one_part}

-- a test that holds of all nodes holds of the one at a place
pub holds_at : {Kind : Type 0} (test : Cell Kind → Bool) (cells : List (Cell Kind)) (node : ℕ) (cell : Cell Kind)
    → list_all test cells ≡ true → slice_get cells node ≡ Some cell → test cell ≡ true
holds_at test [] node cell all at_node = absurd (cc)
holds_at test (first ∷ cells) zero cell all at_node =
    let same : test first ≡ test cell = ap test (cc) in sym same ∙ (and_parts (test first) (list_all test cells) all).0
holds_at test (first ∷ cells) (suc node) cell all at_node = holds_at test cells node cell (and_parts (test first) (list_all test cells) all).1 at_node

none_there : (edges : List ℕ) → (length edges == 0) ≡ true → edges ≡ []
none_there edges is = nil_from_length edges (eqb-true (length edges) 0 is)

one_there : (edges : List ℕ) → (length edges == 1) ≡ true → (edge : ℕ) × (edges ≡ edge ∷ [])
one_there [] is = absurd (true≢false (sym is))
one_there (edge ∷ []) is = (edge, refl)
one_there (edge ∷ next ∷ edges) is = let many = eqb-true (length (edge ∷ next ∷ edges)) 1 is in absurd (omega (arith, many))

-- a source has one out alone, a node that writes one in, and a sink no out
pub source_ports : (node : NodeKind) (ins outs : List ℕ) → is_source node ≡ true → may_have node (length ins) (length outs) ≡ true
    → (ins ≡ []) × ((edge : ℕ) × (outs ≡ edge ∷ []))
source_ports (kind.Source source) ins outs is fits =
    let parts = and_parts (length ins == 0) (length outs == 1) fits in (none_there ins parts.0, one_there outs parts.1)
source_ports other ins outs is fits = absurd (true≢false (sym is))

pub writer_ports : (node : NodeKind) (ins outs : List ℕ) → is_writer node ≡ true → may_have node (length ins) (length outs) ≡ true → (edge : ℕ) × (ins ≡ edge ∷ [])
writer_ports (kind.Sink sink) ins outs is fits = one_there ins (and_parts (length ins == 1) (length outs == 0) fits).0
writer_ports (kind.TeeFile path mode) ins outs is fits = one_there ins (and_parts (length ins == 1) (length outs == 1) fits).0
writer_ports other ins outs is fits = absurd (true≢false (sym is))

pub sink_ports : (node : NodeKind) (ins outs : List ℕ) → is_sink node ≡ true → may_have node (length ins) (length outs) ≡ true → outs ≡ []
sink_ports (kind.Sink sink) ins outs is fits = none_there outs (and_parts (length ins == 1) (length outs == 0) fits).1
sink_ports other ins outs is fits = absurd (true≢false (sym is))

-- no source writes
pub source_no_writer : (node : NodeKind) → is_source node ≡ true → is_writer node ≡ false
source_no_writer (kind.Source source) is = refl
source_no_writer other is = absurd (true≢false (sym is))

same_edge : (first edge : ℕ) → Some first ≡ Some edge → edge ≡ first
same_edge first edge same = cc

-- the one edge of a list
pub sole_edge : (first edge : ℕ) → has edge (first ∷ []) ≡ true → edge ≡ first
sole_edge first edge there = sym (eqb-true first edge (alone (first == edge) there))
  where
    alone : (test : Bool) → (test || false) ≡ true → test ≡ true
    alone true is = refl
    alone false is = is

-- an edge of a plan's node is an edge of the graph at that node, or comes from outside or goes there
data Stands (cells : List (Cell NodeKind)) (part : Cell NodeKind → List ℕ) (ends : NodeKind → Bool) (node edge : ℕ) : Type 0 where
  Inside : (cell : Cell NodeKind) → slice_get cells node ≡ Some cell → has edge (part cell) ≡ true → Stands cells part ends node edge
  Outside : (cell : Cell NodeKind) → slice_get cells node ≡ Some cell → ends cell.kind ≡ true → edge ≡ outer_edge cells node → Stands cells part ends node edge

-- the edges on one side of the nodes: its own, and where the node is an end of this side, the outer edge before them
record IsSide (cells : List (Cell NodeKind)) (part : Cell NodeKind → List ℕ) (ends : NodeKind → Bool) (edges : ℕ → List ℕ) : Type 0 where
  known : (node : ℕ) (cell : Cell NodeKind) → slice_get cells node ≡ Some cell → edges node ≡ (if ends cell.kind then outer_edge cells node ∷ part cell else part cell)
  unknown : (node : ℕ) → slice_get cells node ≡ None → edges node ≡ []
  below : (edge : ℕ) → 1 ≤ count edge (flat_map part cells) → edge < length (gives cells)
  once : (edge : ℕ) → count edge (flat_map part cells) ≤ 1

module _ (cells : List (Cell NodeKind)) (part : Cell NodeKind → List ℕ) (ends : NodeKind → Bool) (edges : ℕ → List ℕ) (side : IsSide cells part ends edges) where
  stands : (node edge : ℕ) → has edge (edges node) ≡ true → Stands cells part ends node edge
  stands node edge there = by_cell (slice_get cells node) refl
    where
      by_first : (cell : Cell NodeKind) (first : Bool) → slice_get cells node ≡ Some cell → ends cell.kind ≡ true → (outer_edge cells node == edge) ≡ first
          → (first || has edge (part cell)) ≡ true → Stands cells part ends node edge
      by_first cell true at_node is same here = Outside cell at_node is (sym (eqb-true (outer_edge cells node) edge same))
      by_first cell false at_node is same here = Inside cell at_node here

      by_kind : (cell : Cell NodeKind) (outer : Bool) → slice_get cells node ≡ Some cell → ends cell.kind ≡ outer
          → has edge (if outer then outer_edge cells node ∷ part cell else part cell) ≡ true → Stands cells part ends node edge
      by_kind cell true at_node is here = by_first cell (outer_edge cells node == edge) at_node is refl here
      by_kind cell false at_node is here = Inside cell at_node here

      by_cell : (found : Option (Cell NodeKind)) → slice_get cells node ≡ found → Stands cells part ends node edge
      by_cell (Some cell) at_node = by_kind cell (ends cell.kind) at_node refl (ap (has edge) (sym (side.known node cell at_node)) ∙ there)
      by_cell None at_node = absurd (true≢false (sym there ∙ ap (has edge) (side.unknown node at_node)))

  -- the graph's own edges are below those from outside and to the outside
  inside_below : (node edge : ℕ) (cell : Cell NodeKind) → slice_get cells node ≡ Some cell → has edge (part cell) ≡ true → edge < length (gives cells)
  inside_below node edge cell at_node there =
      let some = count-has edge (part cell) there in
      let within = part_within part edge cells node cell at_node in
      side.below edge (omega (arith, some, within))

  side_once : (node edge : ℕ) → has edge (edges node) ≡ true → count edge (edges node) ≡ 1
  side_once node edge there = by_place (stands node edge there)
    where
      here : (cell : Cell NodeKind) (outer : Bool) → slice_get cells node ≡ Some cell → ends cell.kind ≡ outer
          → count edge (edges node) ≡ count edge (if outer then outer_edge cells node ∷ part cell else part cell)
      here cell outer at_node is =
          ap (count edge) (side.known node cell at_node) ∙ ap (λ (test : Bool). count edge (if test then outer_edge cells node ∷ part cell else part cell)) is

      -- the outer edge before its own
      before : (cell : Cell NodeKind) (first : Bool) (own whole : ℕ) → (outer_edge cells node == edge) ≡ first → count edge (part cell) ≡ own → (if first then 1 else 0) + own ≡ whole
          → count edge (outer_edge cells node ∷ part cell) ≡ whole
      before cell first own whole same counted sums =
          ap (λ (test : Bool). (if test then 1 else 0) + count edge (part cell)) same ∙ ap (λ (count : ℕ). (if first then 1 else 0) + count) counted ∙ sums

      inside_once : (cell : Cell NodeKind) (outer : Bool) → slice_get cells node ≡ Some cell → ends cell.kind ≡ outer → has edge (part cell) ≡ true → count edge (edges node) ≡ 1
      inside_once cell false at_node is inside = here cell false at_node is ∙ single_part part edge cells (side.once edge) node cell at_node inside
      inside_once cell true at_node is inside =
          let low = inside_below node edge cell at_node inside in
          here cell true at_node is
          ∙ before cell false 1 1 (ne_eqb (outer_edge cells node) edge (λ same. omega (arith, same, low))) (single_part part edge cells (side.once edge) node cell at_node inside) refl

      by_place : Stands cells part ends node edge → count edge (edges node) ≡ 1
      by_place (Inside cell at_node inside) = inside_once cell (ends cell.kind) at_node refl inside
      by_place (Outside cell at_node is outside) =
          here cell true at_node is
          ∙ before cell true 0 1 (eq-eqb (outer_edge cells node) edge (sym outside)) (count-none edge (part cell) (not_inside cell at_node outside)) refl
        where
          not_inside : (cell : Cell NodeKind) → slice_get cells node ≡ Some cell → edge ≡ outer_edge cells node → has edge (part cell) ≡ false
          not_inside cell at_node outside = by_test (has edge (part cell)) refl
            where
              by_test : (test : Bool) → has edge (part cell) ≡ test → test ≡ false
              by_test true inside = let low = inside_below node edge cell at_node inside in absurd (omega (arith, low, outside))
              by_test false inside = refl

  side_alone : (node other edge : ℕ) → has edge (edges node) ≡ true → has edge (edges other) ≡ true → node ≡ other
  side_alone node other edge there too = by_places (stands node edge there) (stands other edge too)
    where
      by_test : (cell another : Cell NodeKind) → slice_get cells node ≡ Some cell → slice_get cells other ≡ Some another
          → has edge (part cell) ≡ true → has edge (part another) ≡ true → (test : Bool) → (node == other) ≡ test → node ≡ other
      by_test cell another at_node at_other inside also true is = eqb-true node other is
      by_test cell another at_node at_other inside also false is =
          let apart : node ≡ other → ⊥ = λ same. true≢false (sym (eq-eqb node other same) ∙ is) in
          absurd (true≢false (sym also ∙ one_part part edge cells (side.once edge) node other cell another at_node at_other inside apart))

      by_places : Stands cells part ends node edge → Stands cells part ends other edge → node ≡ other
      by_places (Inside cell at_node inside) (Inside another at_other also) = by_test cell another at_node at_other inside also (node == other) refl
      by_places (Inside cell at_node inside) (Outside another at_other is_too also) =
          let low = inside_below node edge cell at_node inside in absurd (omega (arith, low, also))
      by_places (Outside cell at_node is outside) (Inside another at_other also) =
          let low = inside_below other edge another at_other also in absurd (omega (arith, low, outside))
      by_places (Outside cell at_node is outside) (Outside another at_other is_too also) = omega (arith, outside, also)

module _ (cells : List (Cell NodeKind)) (status : StatusRule) (plan : Plan) (valid : Valid cells status) (planned : IsPlanOf cells plan) where
  pub source_has : (node : ℕ) (cell : Cell NodeKind) → slice_get cells node ≡ Some cell → is_source cell.kind ≡ true → (cell.ins ≡ []) × ((edge : ℕ) × (cell.outs ≡ edge ∷ []))
  source_has node cell at_node is = source_ports cell.kind cell.ins cell.outs is (holds_at has_its_ports cells node cell valid.ports at_node)

  pub writer_has : (node : ℕ) (cell : Cell NodeKind) → slice_get cells node ≡ Some cell → is_writer cell.kind ≡ true → (edge : ℕ) × (cell.ins ≡ edge ∷ [])
  writer_has node cell at_node is = writer_ports cell.kind cell.ins cell.outs is (holds_at has_its_ports cells node cell valid.ports at_node)

  pub sink_has : (node : ℕ) (cell : Cell NodeKind) → slice_get cells node ≡ Some cell → is_sink cell.kind ≡ true → cell.outs ≡ []
  sink_has node cell at_node is = sink_ports cell.kind cell.ins cell.outs is (holds_at has_its_ports cells node cell valid.ports at_node)

  pub given_below : (edge : ℕ) → 1 ≤ count edge (gives cells) → edge < length (gives cells)
  given_below edge some =
      valid.edges.below edge (true_from_ne_false (has edge (gives cells)) (λ none. let absent = count-none edge (gives cells) none in omega (arith, absent, some)))

  -- a source has no other in than the one from outside
  ins_known : (node : ℕ) (cell : Cell NodeKind) → slice_get cells node ≡ Some cell → plan.ins node ≡ (if is_source cell.kind then outer_edge cells node ∷ cell.ins else cell.ins)
  ins_known node cell at_node = planned.ins node cell at_node ∙ by_test (is_source cell.kind) refl
    where
      by_test : (test : Bool) → is_source cell.kind ≡ test → (if test then outer_edge cells node ∷ [] else cell.ins) ≡ (if test then outer_edge cells node ∷ cell.ins else cell.ins)
      by_test true is = ap (λ (edges : List ℕ). outer_edge cells node ∷ edges) (sym (source_has node cell at_node is).0)
      by_test false is = refl

  ins_side : IsSide cells (λ (cell : Cell NodeKind). cell.ins) is_source plan.ins
  ins_side = record {
    known = ins_known;
    unknown = planned.no_ins;
    below = λ edge some. let same = valid.edges.taken edge in given_below edge (omega (arith, same, some));
    once = λ edge. let same = valid.edges.taken edge in let once = valid.edges.once edge in omega (arith, same, once);
  }

  outs_side : IsSide cells (λ (cell : Cell NodeKind). cell.outs) is_writer plan.outs
  outs_side = record { known = planned.outs; unknown = planned.no_outs; below = given_below; once = valid.edges.once }

  -- a node whose in comes from outside is a source, and one whose first out goes there writes
  pub record IsEndAt (ends : NodeKind → Bool) (node : ℕ) : Type 0 where
    pub cell : Cell NodeKind
    pub at_node : slice_get cells node ≡ Some cell
    pub is : ends cell.kind ≡ true

  end_at : (ends : NodeKind → Bool) (tells : ℕ → Bool) → ((node : ℕ) (cell : Cell NodeKind) → slice_get cells node ≡ Some cell → tells node ≡ ends cell.kind)
      → ((node : ℕ) → slice_get cells node ≡ None → tells node ≡ false) → (node : ℕ) → tells node ≡ true → IsEndAt ends node
  end_at ends tells known unknown node told = by_cell (slice_get cells node) refl
    where
      by_cell : (found : Option (Cell NodeKind)) → slice_get cells node ≡ found → IsEndAt ends node
      by_cell (Some cell) at_node = record { cell = cell; at_node = at_node; is = sym (known node cell at_node) ∙ told }
      by_cell None at_node = absurd (true≢false (sym told ∙ unknown node at_node))

  pub source_at : (node : ℕ) → plan.reads node ≡ true → IsEndAt is_source node
  source_at = end_at is_source plan.reads planned.reads planned.no_reads

  writer_at : (node : ℕ) → plan.writes node ≡ true → IsEndAt is_writer node
  writer_at = end_at is_writer plan.writes planned.writes planned.no_writes

  -- with its edge from outside, or to it
  pub source_edge : (node : ℕ) (cell : Cell NodeKind) → slice_get cells node ≡ Some cell → is_source cell.kind ≡ true → plan.ins node ≡ outer_edge cells node ∷ []
  source_edge node cell at_node is = planned.ins node cell at_node ∙ ap (λ (test : Bool). if test then outer_edge cells node ∷ [] else cell.ins) is

  pub writer_edges : (node : ℕ) (cell : Cell NodeKind) → slice_get cells node ≡ Some cell → is_writer cell.kind ≡ true → plan.outs node ≡ outer_edge cells node ∷ cell.outs
  writer_edges node cell at_node is = planned.outs node cell at_node ∙ ap (λ (test : Bool). if test then outer_edge cells node ∷ cell.outs else cell.outs) is

  pub writer_edge : (node : ℕ) (cell : Cell NodeKind) → slice_get cells node ≡ Some cell → is_writer cell.kind ≡ true → slice_get (plan.outs node) 0 ≡ Some (outer_edge cells node)
  writer_edge node cell at_node is = ap (λ (edges : List ℕ). slice_get edges 0) (writer_edges node cell at_node is)

  -- other nodes have their own edges alone
  pub own_ins : (node : ℕ) (cell : Cell NodeKind) → slice_get cells node ≡ Some cell → is_source cell.kind ≡ false → plan.ins node ≡ cell.ins
  own_ins node cell at_node is = planned.ins node cell at_node ∙ ap (λ (test : Bool). if test then outer_edge cells node ∷ [] else cell.ins) is

  pub own_outs : (node : ℕ) (cell : Cell NodeKind) → slice_get cells node ≡ Some cell → is_writer cell.kind ≡ false → plan.outs node ≡ cell.outs
  own_outs node cell at_node is = planned.outs node cell at_node ∙ ap (λ (test : Bool). if test then outer_edge cells node ∷ cell.outs else cell.outs) is

  pub own_in_below : (node edge : ℕ) (cell : Cell NodeKind) → slice_get cells node ≡ Some cell → has edge cell.ins ≡ true → edge < length (gives cells)
  own_in_below node edge cell at_node there = inside_below cells (λ (cell : Cell NodeKind). cell.ins) is_source plan.ins ins_side node edge cell at_node there

  pub own_out_below : (node edge : ℕ) (cell : Cell NodeKind) → slice_get cells node ≡ Some cell → has edge cell.outs ≡ true → edge < length (gives cells)
  own_out_below node edge cell at_node there = inside_below cells (λ (cell : Cell NodeKind). cell.outs) is_writer plan.outs outs_side node edge cell at_node there

  -- an edge from outside isn't one to the outside
  ends_apart : (node other : ℕ) → IsEndAt is_source node → IsEndAt is_writer other → outer_edge cells node ≡ outer_edge cells other → ⊥
  ends_apart node other source writer same =
      let one : node ≡ other = omega (arith, same) in
      let found : Some source.cell ≡ Some writer.cell = sym source.at_node ∙ ap (slice_get cells) one ∙ writer.at_node in
      let cell : source.cell ≡ writer.cell = cc in
      true≢false (sym writer.is ∙ ap (λ (it : Cell NodeKind). is_writer it.kind) (sym cell) ∙ source_no_writer source.cell.kind source.is)

  -- an end's edge is no edge on the other side
  from_outside_alone : (node other edge : ℕ) → IsEndAt is_source node → edge ≡ outer_edge cells node → has edge (plan.outs other) ≡ false
  from_outside_alone node other edge source outer = by_test (has edge (plan.outs other)) refl
    where
      by_place : Stands cells (λ (cell : Cell NodeKind). cell.outs) is_writer other edge → ⊥
      by_place (Inside cell at_other inside) =
          let low = inside_below cells (λ (cell : Cell NodeKind). cell.outs) is_writer plan.outs outs_side other edge cell at_other inside in omega (arith, low, outer)
      by_place (Outside cell at_other is outside) = ends_apart node other source (record { cell = cell; at_node = at_other; is = is }) (sym outer ∙ outside)

      by_test : (test : Bool) → has edge (plan.outs other) ≡ test → test ≡ false
      by_test true is = absurd (by_place (stands cells (λ (cell : Cell NodeKind). cell.outs) is_writer plan.outs outs_side other edge is))
      by_test false is = refl

  to_outside_alone : (node other edge : ℕ) → IsEndAt is_writer node → edge ≡ outer_edge cells node → has edge (plan.ins other) ≡ false
  to_outside_alone node other edge writer outer = by_test (has edge (plan.ins other)) refl
    where
      by_place : Stands cells (λ (cell : Cell NodeKind). cell.ins) is_source other edge → ⊥
      by_place (Inside cell at_other inside) =
          let low = inside_below cells (λ (cell : Cell NodeKind). cell.ins) is_source plan.ins ins_side other edge cell at_other inside in omega (arith, low, outer)
      by_place (Outside cell at_other is outside) = ends_apart other node (record { cell = cell; at_node = at_other; is = is }) writer (sym outside ∙ outer)

      by_test : (test : Bool) → has edge (plan.ins other) ≡ test → test ≡ false
      by_test true is = absurd (by_place (stands cells (λ (cell : Cell NodeKind). cell.ins) is_source plan.ins ins_side other edge is))
      by_test false is = refl

  pub plan_is_wired : IsWired plan
  plan_is_wired = record {
    in_once = side_once cells (λ (cell : Cell NodeKind). cell.ins) is_source plan.ins ins_side;
    out_once = side_once cells (λ (cell : Cell NodeKind). cell.outs) is_writer plan.outs outs_side;
    one_taker = side_alone cells (λ (cell : Cell NodeKind). cell.ins) is_source plan.ins ins_side;
    one_giver = side_alone cells (λ (cell : Cell NodeKind). cell.outs) is_writer plan.outs outs_side;
    from_outside = λ node other edge reads there.
        let source = source_at node reads in
        from_outside_alone node other edge source
        (sole_edge (outer_edge cells node) edge (ap (has edge) (sym (source_edge node source.cell source.at_node source.is)) ∙ there));
    to_outside = λ node other edge writes first.
        let writer = writer_at node writes in
        to_outside_alone node other edge writer (same_edge (outer_edge cells node) edge (sym (writer_edge node writer.cell writer.at_node writer.is) ∙ first));
    one_in = λ node reads. let source = source_at node reads in (outer_edge cells node, source_edge node source.cell source.at_node source.is);
    first_out = λ node writes. let writer = writer_at node writes in (outer_edge cells node, writer_edge node writer.cell writer.at_node writer.is);
  }
