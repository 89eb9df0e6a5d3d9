-- Where each node keeps its equation each edge carries its flow, and what a graph leaves is of that flow.
use Rattle.std.proofs.Common.{◌≡◌, ℕ, zero, suc, ◌+◌, ◌<◌, ◌≤◌, ◌==◌, ◌||◌, Bool, true, false, List, [], ◌∷◌, ◌++◌, length, map, drop, get_or, slice_get, Some, if◌then◌else◌, refl, ap, sym, subst, ◌∙◌, append_assoc, append-nil, arith, eq-eqb}
use Rattle.std.specs.List.{flat_map, range_with_len}
use Rattle.std.proofs.lemmas.Bool.{true≢false, and_parts, or_parts, true_from_ne_false}
use Rattle.std.proofs.lemmas.List.Concat.{flat_map_single}
use Rattle.std.proofs.lemmas.List.Folds.{list_any-append}
use Rattle.std.proofs.lemmas.Grind.{flat_map-append}
use Rattle.fl_graph.specs.Net.{has, count, gives, store, step, after, run}
use Rattle.fl_graph.specs.declared.graphs.Cell.{Cell}
use Rattle.fl_graph.specs.Checks.{takes_given, each_after}
use Rattle.ps_lines.specs.Texts.{BeginsWith}
use Rattle.fl_graph.specs.Runs.{text_of, has_end, completed, completion, is_clean}
use Rattle.fl_graph.specs.Valid.{Valid}
use Rattle.fl_graph.specs.declared.graphs.StatusRule.{StatusRule}
use Rattle.fl_graph.specs.declared.kinds.NodeKind.{NodeKind}
use Rattle.fl_graph.specs.declared.pieces.Piece.{Piece}
use Rattle.fl_graph.proofs.NetLemmas.{values-agree, store-other, persist}
use Rattle.fl_graph.proofs.ListLemmas.{holds-has, count-append, count-has, count-none}
use Rattle.fl_graph.proofs.EdgeLemmas.{leads_on-each}
use Rattle.fl_graph.proofs.CheckLemmas.{each_number}
use Rattle.fl_classes.specs.Flow.{Placed, placed, texts_given, equation, no_texts, flow, writes_of, writes, selects, selections}
use Rattle.fl_classes.specs.Nodes.{texts_at}
use Rattle.fl_net.specs.Laws.{Carries, at_ports, given, Keeps, NodesKeep, NetKeeps}
use Rattle.fl_net.proofs.PortLemmas.{stands-has, port_of, at_ports-stands, first_other, once_behind, uncounted}
use Rattle.fl_net.proofs.PieceLemmas.{taken_begins, taken_whole, taken_closed, taken_completes}
use Rattle.fl_net.proofs.PlacedLemmas.{gives-placed, order-placed, told-placed}

-- the value that is stored at an edge's port is the edge's
store-port : {Value : Type 0} (edges : List ℕ) (new : List Value) (values : ℕ → Value) (port edge : ℕ) → slice_get edges port ≡ Some edge → count edge edges ≡ 1
    → store edges new values edge ≡ get_or new port (values edge)
store-port [] new values port edge stands once = absurd (cc)
store-port (first ∷ edges) [] values port edge stands once = refl
store-port {Value} (first ∷ edges) (value ∷ new) values zero edge stands once =
    ap (λ (here : Bool). if here then value else store edges new values edge) (eq-eqb first edge (cc))
store-port {Value} (first ∷ edges) (value ∷ new) values (suc port) edge stands once =
    ap (λ (here : Bool). if here then value else store edges new values edge) (first_other first edge edges port stands once)
    ∙ store-port edges new values port edge stands (once_behind first edge edges port stands once)

-- the value of the edge at a port
get_or-port : (edges : List ℕ) (values : ℕ → List ℕ) (port edge : ℕ) → slice_get edges port ≡ Some edge → get_or (map values edges) port [] ≡ values edge
get_or-port [] values port edge stands = absurd (cc)
get_or-port (first ∷ edges) values zero edge stands = ap values (cc)
get_or-port (first ∷ edges) values (suc port) edge stands = get_or-port edges values port edge stands

-- texts by port that are the values of the edges there are these values
pub texts-values : (edges : List ℕ) (values texts : ℕ → List ℕ) (from : ℕ) → ((port edge : ℕ) → slice_get edges port ≡ Some edge → texts (from + port) ≡ values edge)
    → map texts (range_with_len from (length edges)) ≡ map values edges
texts-values [] values texts from agree = refl
texts-values (first ∷ edges) values texts from agree =
    let here : from ≡ from + zero = omega arith in
    let first_text : texts from ≡ values first = ap texts here ∙ agree zero first refl in
    let rest : map texts (range_with_len (from + 1) (length edges)) ≡ map values edges =
    texts-values edges values texts (from + 1) (λ port edge stands. let next : (from + 1) + port ≡ from + suc port = omega arith in ap texts next ∙ agree (suc port) edge stands) in
    ap (λ (text : List ℕ). text ∷ map texts (range_with_len (from + 1) (length edges))) first_text ∙ ap (λ (others : List (List ℕ)). values first ∷ others) rest

module _ {Kind : Type 0} (before : List (Cell Kind)) (cell : Cell Kind) where
  gives_behind : gives (before ++ cell ∷ []) ≡ gives before ++ cell.outs
  gives_behind = flat_map-append (λ (cell : Cell Kind). cell.outs) before (cell ∷ []) ∙ ap (λ (outs : List ℕ). gives before ++ outs) (append-nil cell.outs)

  has_behind : (edge : ℕ) → has edge (gives (before ++ cell ∷ [])) ≡ (has edge (gives before) || has edge cell.outs)
  has_behind edge = ap (has edge) gives_behind ∙ list_any-append (λ (other : ℕ). other == edge) (gives before) cell.outs

  count_behind : (edge : ℕ) → count edge (gives (before ++ cell ∷ [])) ≡ count edge (gives before) + count edge cell.outs
  count_behind edge = ap (count edge) gives_behind ∙ count-append edge (gives before) cell.outs

-- no edge is given twice by nodes of two parts
abbrev pub AreOnce : {Kind : Type 0} → List (Cell Kind) → List (Cell Kind) → Type 0
AreOnce before cells = (edge : ℕ) → count edge (gives before) + count edge (gives cells) ≤ 1

once-next : {Kind : Type 0} (before : List (Cell Kind)) (cell : Cell Kind) (cells : List (Cell Kind)) → AreOnce before (cell ∷ cells) → AreOnce (before ++ cell ∷ []) cells
once-next before cell cells once edge =
    let all = once edge in
    let both = count-append edge cell.outs (gives cells) in
    let behind = count_behind before cell edge in omega (arith, all, both, behind)

-- an edge that the nodes before give isn't given again
not_again : {Kind : Type 0} (before cells : List (Cell Kind)) (edge : ℕ) → AreOnce before cells → has edge (gives before) ≡ true → has edge (gives cells) ≡ false
not_again before cells edge once there =
    let some = count-has edge (gives before) there in let all = once edge in uncounted edge (gives cells) (omega (arith, some, all))

-- one node after another
module _ (sources : List (List ℕ)) (taken put waiting : ℕ → List Piece) (queued : (edge : ℕ) → put edge ≡ taken edge ++ waiting edge) (clean : (edge : ℕ) → is_clean (put edge) ≡ true) where
  -- the texts now are carried by the edges that these nodes give, and no other edge has one
  record Known (before : List (Cell Placed)) (now : ℕ → List ℕ) : Type 0 where
    carried : (edge : ℕ) → has edge (gives before) ≡ true → Carries (put edge) (now edge)
    none : (edge : ℕ) → has edge (gives before) ≡ false → now edge ≡ []

  module _ (before : List (Cell Placed)) (cell : Cell Placed) (now : ℕ → List ℕ) (known : Known before now) (order : takes_given before cell ≡ true)
      (keeps : Keeps (given sources cell.kind (length cell.ins) (length cell.outs)) (at_ports cell.ins taken) (at_ports cell.outs put))
      (once : (edge : ℕ) → count edge (gives before) + count edge cell.outs ≤ 1) where
    -- how the texts at the ins go on
    rest : ℕ → List ℕ
    rest port = drop (length (text_of (at_ports cell.ins taken port))) (get_or (map now cell.ins) port [])

    texts : List (List ℕ)
    texts = equation sources cell.kind (length cell.outs) (map now cell.ins)

    completes : (port edge : ℕ) → slice_get cell.ins port ≡ Some edge → completion (at_ports cell.ins taken) rest port ≡ now edge
    unfolding rest
    completes port edge stands =
        let there : has edge (gives before) ≡ true = holds-has (λ (edge : ℕ). has edge (gives before)) edge cell.ins order (stands-has cell.ins port edge stands) in
        ap (λ (pieces : List Piece). completed pieces (drop (length (text_of pieces)) (get_or (map now cell.ins) port []))) (at_ports-stands cell.ins taken port edge stands)
        ∙ ap (λ (text : List ℕ). completed (taken edge) (drop (length (text_of (taken edge))) text)) (get_or-port cell.ins now port edge stands)
        ∙ taken_completes (put edge) (taken edge) (waiting edge) (now edge) (queued edge) (clean edge) (known.carried edge there)

    ins_complete : texts_at (length cell.ins) (completion (at_ports cell.ins taken) rest) ≡ map now cell.ins
    ins_complete =
        texts-values cell.ins now (completion (at_ports cell.ins taken) rest) 0
        (λ port edge stands. let here : 0 + port ≡ port = omega arith in ap (completion (at_ports cell.ins taken) rest) here ∙ completes port edge stands)

    equation_met : (port : ℕ) → given sources cell.kind (length cell.ins) (length cell.outs) (completion (at_ports cell.ins taken) rest) port ≡ get_or texts port []
    unfolding texts
    equation_met port = ap (λ (ins : List (List ℕ)). get_or (texts_given sources cell.kind.0 cell.kind.1 (length cell.outs) ins) port []) ins_complete

    -- an out carries the equation's text
    out_carries : (edge port : ℕ) → slice_get cell.outs port ≡ Some edge → Carries (put edge) (get_or texts port [])
    out_carries edge port stands =
        let pieces : at_ports cell.outs put port ≡ put edge = at_ports-stands cell.outs put port edge stands in
        let text = equation_met port in
        record {
          front = subst (λ (it : List Piece). BeginsWith (get_or texts port []) (text_of it)) pieces
              (subst (λ (it : List ℕ). BeginsWith it (text_of (at_ports cell.outs put port))) text (keeps.front rest port));
          whole = λ ended. sym text ∙ keeps.whole port (ap has_end pieces ∙ ended) rest ∙ ap text_of pieces;
        }

    -- which is stored as its own
    stored : (edge port : ℕ) → slice_get cell.outs port ≡ Some edge → step (equation sources) cell now edge ≡ get_or texts port []
    unfolding texts
    stored edge port stands =
        let there = stands-has cell.outs port edge stands in
        let some = count-has edge cell.outs there in
        let all = once edge in
        let absent : now edge ≡ [] = known.none edge (uncounted edge (gives before) (omega (arith, some, all))) in
        store-port cell.outs (equation sources cell.kind (length cell.outs) (map now cell.ins)) now port edge stands (omega (arith, some, all))
        ∙ ap (λ (text : List ℕ). get_or (equation sources cell.kind (length cell.outs) (map now cell.ins)) port text) absent

    kept : (edge : ℕ) → has edge cell.outs ≡ false → step (equation sources) cell now edge ≡ now edge
    kept edge none = store-other cell.outs (equation sources cell.kind (length cell.outs) (map now cell.ins)) now edge none

    known_behind : Known (before ++ cell ∷ []) (step (equation sources) cell now)
    known_behind = record {
      carried = λ edge there. by_out edge (has edge cell.outs) refl (sym (has_behind before cell edge) ∙ there);
      none = λ edge absent.
          let parts = or_parts (has edge (gives before)) (has edge cell.outs) (sym (has_behind before cell edge) ∙ absent) in
          kept edge parts.1 ∙ known.none edge parts.0;
    }
      where
        given_before : (first : Bool) → (first || false) ≡ true → first ≡ true
        given_before true there = refl
        given_before false there = there

        by_out : (edge : ℕ) (out : Bool) → has edge cell.outs ≡ out → (has edge (gives before) || has edge cell.outs) ≡ true → Carries (put edge) (step (equation sources) cell now edge)
        by_out edge true is there =
            let found = port_of cell.outs edge is in
            subst (λ (text : List ℕ). Carries (put edge) text) (sym (stored edge found.0 found.1)) (out_carries edge found.0 found.1)
        by_out edge false is there =
            let earlier = given_before (has edge (gives before)) (ap (λ (out : Bool). has edge (gives before) || out) (sym is) ∙ there) in
            subst (λ (text : List ℕ). Carries (put edge) text) (sym (kept edge is)) (known.carried edge earlier)

  known_all : (before cells : List (Cell Placed)) (now : ℕ → List ℕ) → Known before now → each_after takes_given before cells ≡ true → NodesKeep sources cells taken put
      → AreOnce before cells → Known (before ++ cells) (after (equation sources) cells now)
  known_all before [] now known order keep once = subst (λ (cells : List (Cell Placed)). Known cells now) (sym (append-nil before)) known
  known_all before (cell ∷ cells) now known order keep once =
      let parts = and_parts (takes_given before cell) (each_after takes_given (before ++ cell ∷ []) cells) order in
      let behind = known_behind before cell now known parts.0 keep.0
      (λ edge. let all = once edge in let both = count-append edge cell.outs (gives cells) in omega (arith, all, both)) in
      subst (λ (all : List (Cell Placed)). Known all (after (equation sources) cells (step (equation sources) cell now))) (append_assoc before (cell ∷ []) cells)
      (known_all (before ++ cell ∷ []) cells (step (equation sources) cell now) behind parts.1 keep.1 (once-next before cell cells once))

module _ (cells : List (Cell NodeKind)) (status : StatusRule) (valid : Valid cells status) where
  pub placed_order : each_after takes_given [] (placed cells) ≡ true
  placed_order = order-placed 0 [] [] cells refl ∙ sym (leads_on-each cells) ∙ valid.edges.later

  placed_once : AreOnce [] (placed cells)
  placed_once edge = let same = ap (count edge) (gives-placed 0 cells) in let once = valid.edges.once edge in omega (arith, same, once)

  pub placed_gives : (edge : ℕ) → edge < length (gives cells) → has edge (gives (placed cells)) ≡ true
  placed_gives edge within =
      ap (has edge) (gives-placed 0 cells)
      ∙ true_from_ne_false (has edge (gives cells)) (λ none.
      let absent = count-none edge (gives cells) none in let once = (each_number cells status valid edge within).0 in absurd (omega (arith, absent, once)))

  module _ (sources : List (List ℕ)) (taken put : ℕ → List Piece) (keeps : NetKeeps sources cells taken put) (edge : ℕ) (within : edge < length (gives cells)) where
    pub edge_carries : Carries (put edge) (flow cells sources edge)
    edge_carries =
        let known = known_all sources taken put keeps.waiting keeps.queued keeps.clean [] (placed cells) no_texts
        (record { carried = λ edge there. absurd (true≢false (sym there)); none = λ edge absent. refl }) placed_order keeps.nodes placed_once in
        known.carried edge (placed_gives edge within)

    pub edge_taken : BeginsWith (flow cells sources edge) (text_of (taken edge))
    edge_taken = taken_begins (put edge) (taken edge) (keeps.waiting edge) (flow cells sources edge) (keeps.queued edge) (keeps.clean edge) edge_carries

    pub edge_ended : has_end (taken edge) ≡ true → flow cells sources edge ≡ text_of (taken edge)
    edge_ended = taken_whole (put edge) (taken edge) (keeps.waiting edge) (flow cells sources edge) (keeps.queued edge) (keeps.clean edge) edge_carries

    pub edge_completed : has_end (taken edge) ≡ true → (rest : List ℕ) → completed (taken edge) rest ≡ flow cells sources edge
    edge_completed = taken_closed (put edge) (taken edge) (keeps.waiting edge) (flow cells sources edge) (keeps.queued edge) (keeps.clean edge) edge_carries

-- what nodes tell, one after another, is what each tells of the values at the end, since no edge is given twice
module _ {Kind Value Told : Type 0} (equation : Kind → ℕ → List Value → List Value) (tell : Kind → List Value → List Told) where
  told_at_end : (before cells : List (Cell Kind)) (now : ℕ → Value) → each_after takes_given before cells ≡ true → AreOnce before cells
      → run equation tell cells now ≡ flat_map (λ (cell : Cell Kind). tell cell.kind (map (after equation cells now) cell.ins)) cells
  told_at_end before [] now order once = refl
  told_at_end before (cell ∷ cells) now order once =
      let parts = and_parts (takes_given before cell) (each_after takes_given (before ++ cell ∷ []) cells) order in
      let next = step equation cell now in
      let last = after equation cells next in
      let ins : map now cell.ins ≡ map last cell.ins =
      values-agree cell.ins now last (λ edge taken.
      let there : has edge (gives before) ≡ true = holds-has (λ (edge : ℕ). has edge (gives before)) edge cell.ins parts.0 taken in
      sym (persist equation (cell ∷ cells) now edge (not_again before (cell ∷ cells) edge once there))) in
      ap (λ (values : List Value). tell cell.kind values ++ run equation tell cells next) ins
      ∙ ap (λ (others : List Told). tell cell.kind (map last cell.ins) ++ others) (told_at_end (before ++ cell ∷ []) cells next parts.1 (once-next before cell cells once))

module _ (cells : List (Cell NodeKind)) (status : StatusRule) (valid : Valid cells status) (sources : List (List ℕ)) where
  pub writes_of_the_flow : writes cells sources ≡ flat_map (λ (cell : Cell NodeKind). writes_of cell.kind (map (flow cells sources) cell.ins)) cells
  writes_of_the_flow =
      told_at_end (equation sources) (λ (node : Placed) (ins : List (List ℕ)). writes_of node.1 ins) [] (placed cells) no_texts (placed_order cells status valid) (placed_once cells status valid)
      ∙ told-placed writes_of (flow cells sources) 0 cells

  pub selections_of_the_flow : selections cells sources ≡ map (λ (cell : Cell NodeKind). selects cell.kind (map (flow cells sources) cell.ins)) cells
  selections_of_the_flow =
      told_at_end (equation sources) (λ (node : Placed) (ins : List (List ℕ)). selects node.1 ins ∷ []) [] (placed cells) no_texts (placed_order cells status valid) (placed_once cells status valid)
      ∙ told-placed (λ (node : NodeKind) (ins : List (List ℕ)). selects node ins ∷ []) (flow cells sources) 0 cells
      ∙ flat_map_single (λ (cell : Cell NodeKind). selects cell.kind (map (flow cells sources) cell.ins)) cells

pub ruleset net_laws = (writes_of_the_flow, selections_of_the_flow)
