-- A run over texts moves no more pieces than the flow has bytes, and an end more on each edge.
use Rattle.std.proofs.Common.{◌≡◌, ℕ, ◌+◌, ◌<◌, ◌≤◌, List, [], ◌∷◌, ◌++◌, Bool, true, false, if◌then◌else◌, length, map, get_or, slice_get, Some, refl, ap, sym, subst, ◌∙◌, append-nil, arith, length-append}
use Rattle.std.specs.List.{list_all, range_with_len, sum_by}
use Rattle.std.proofs.lemmas.Bool.{and_parts, true≢false}
use Rattle.std.proofs.lemmas.List.{length-take}
use Rattle.std.proofs.lemmas.List.Sums.{sum_by-cons}
use Rattle.fl_graph.specs.Net.{gives, takes}
use Rattle.fl_graph.specs.declared.graphs.Cell.{Cell}
use Rattle.ps_lines.specs.Texts.{BeginsWith}
use Rattle.fl_graph.specs.Machines.{State}
use Rattle.fl_graph.specs.Runs.{text_of, is_clean}
use Rattle.fl_graph.specs.Valid.{Valid}
use Rattle.fl_graph.specs.declared.graphs.StatusRule.{StatusRule}
use Rattle.fl_graph.specs.declared.kinds.NodeKind.{NodeKind}
use Rattle.fl_graph.specs.declared.pieces.Piece.{Piece}
use Rattle.fl_graph.specs.declared.pieces.Piece.TheVariants as piece
use Rattle.fl_graph.proofs.ListLemmas.{count-has}
use Rattle.fl_classes.specs.Flow.{Placed, flow, is_source, only, placed}
use Rattle.fl_net.specs.Inputs.{RunsOver}
use Rattle.fl_classes.specs.Kinds.{is_writer}
use Rattle.fl_net.specs.Laws.{NetKeeps}
use Rattle.fl_net.specs.Moves.{edges_of, moves_at, moves_over, most_moves, most_over_edges, most_pieces, outer_texts}
use Rattle.fl_net.specs.Plans.{outer_edge, AreTold}
use Rattle.fl_net.specs.Runs.{Plan, Reached}
use Rattle.fl_net.specs.Steps.{has_bytes, waiting_on}
use Rattle.fl_net.specs.declared.nets.Ports.{Ports}
use Rattle.fl_net.proofs.HaltLemmas.{reached_halts}
use Rattle.fl_net.proofs.KeepLemmas.{at_unplaced, halted_keeps, unplaced}
use Rattle.fl_net.proofs.LawLemmas.{edge_carries}
use Rattle.fl_net.proofs.OuterLemmas.{put_carries}
use Rattle.fl_net.proofs.PlacedLemmas.{gives-placed, length-placed, takes-placed}
use Rattle.fl_net.proofs.PlanLemmas.{given_below, own_in_below, own_ins, own_out_below, own_outs, source_edge, source_no_writer, writer_edges}
use Rattle.fl_net.proofs.SumLemmas.{edges-le, nodes-le, numbers-le, once-le, sum_by-both, sum_by-flat_map}

has_some : (bytes : List ℕ) → has_bytes (piece.Bytes bytes) ≡ true → 1 ≤ length bytes
has_some [] none = absurd (true≢false (sym none))
has_some (byte ∷ bytes) some = omega arith

-- each piece but the last has a byte or is a mark, and nothing stands behind what closes
pieces-few : (pieces : List Piece) → is_clean pieces ≡ true → list_all has_bytes pieces ≡ true → length pieces ≤ most_pieces (text_of pieces)
pieces-few [] clean sized = omega arith
pieces-few (piece.Bytes bytes ∷ []) clean sized =
    let some = has_some bytes (and_parts (has_bytes (piece.Bytes bytes)) true sized).0 in
    let all = length-append bytes [] in
    omega (arith, some, all)
pieces-few (piece.Bytes bytes ∷ next ∷ pieces) clean sized =
    let parts = and_parts (has_bytes (piece.Bytes bytes)) (list_all has_bytes (next ∷ pieces)) sized in
    let rest = pieces-few (next ∷ pieces) clean parts.1 in
    let all = length-append bytes (text_of (next ∷ pieces)) in
    let some = has_some bytes parts.0 in
    omega (arith, rest, all, some)
pieces-few (piece.Mark ∷ []) clean sized = omega arith
pieces-few (piece.Mark ∷ next ∷ pieces) clean sized = let rest = pieces-few (next ∷ pieces) clean sized in omega (arith, rest)
pieces-few (piece.End ∷ []) clean sized = omega arith
pieces-few (piece.End ∷ next ∷ pieces) clean sized = absurd (true≢false (sym clean))
pieces-few (piece.Broken ∷ []) clean sized = omega arith
pieces-few (piece.Broken ∷ next ∷ pieces) clean sized = absurd (true≢false (sym clean))

-- a text that begins so is as long
begins-length : (text front : List ℕ) → BeginsWith text front → length front ≤ length text
begins-length text front begins =
    let same = ap (λ (it : List ℕ). length it) begins in
    let least = length-take (length front) text in
    omega (arith, same, least)

some_text : (one other : List ℕ) → Some one ≡ Some other → one ≡ other
some_text one other is = cc

module _ {Machine : Type 0} (state : Machine → State) (cells : List (Cell NodeKind)) (status : StatusRule) (valid : Valid cells status) (inputs : ℕ → List ℕ)
    (moves : ℕ) (failed : ℕ → Bool) (ports : List Ports) (machines : List Machine) (wires : List (List Piece)) (runs : RunsOver state cells inputs moves failed ports machines wires)
    (sources : List (List ℕ)) (told : AreTold sources cells (λ node. Some (inputs node))) where
  abbrev plan : Plan
  plan = runs.goes.plan

  abbrev reached : Reached state plan machines wires (λ node. Some []) (λ node. Some [])
  reached = runs.goes.reached

  keeps : NetKeeps sources cells reached.took reached.put
  keeps =
      halted_keeps cells status plan valid runs.planned (λ node. Some [])
      (reached_halts state plan machines wires (λ node. Some []) (λ node. Some []) reached (length cells) runs.counted) sources
      (λ number found at_number source. runs.told number ∙ told number found at_number source)

  -- what was put on an edge that carries a front of a text
  put_few : (edge : ℕ) (text : List ℕ) → BeginsWith text (text_of (reached.put edge)) → length (reached.put edge) ≤ most_pieces text
  put_few edge text begins =
      let few = pieces-few (reached.put edge) (reached.clean edge) (reached.sized edge) in
      let front = begins-length text (text_of (reached.put edge)) begins in
      omega (arith, few, front)

  took_few : (edge : ℕ) → length (reached.took edge) ≤ length (reached.put edge)
  took_few edge =
      let all = ap (λ (pieces : List Piece). length pieces) (reached.queued edge) in
      let both = length-append (reached.took edge) (waiting_on wires edge) in
      omega (arith, all, both)

  -- the most pieces on an edge of the graph
  abbrev most : ℕ → ℕ
  most edge = most_pieces (flow cells sources edge)

  put_on : (edge : ℕ) → edge < length (gives cells) → length (reached.put edge) ≤ most edge
  put_on edge within = put_few edge (flow cells sources edge) (edge_carries cells status valid sources reached.took reached.put keeps edge within).front

  took_from : (edge : ℕ) → edge < length (gives cells) → length (reached.took edge) ≤ most edge
  took_from edge within = let less = took_few edge in let few = put_on edge within in omega (arith, less, few)

  -- what a node has moved: over its edges in the graph, and over one from outside or to it
  abbrev most_at : Cell Placed → ℕ
  most_at cell = (sum_by most cell.ins + sum_by most cell.outs) + sum_by most_pieces (outer_texts (flow cells sources) sources cell)

  module _ (node : ℕ) (cell : Cell Placed) (at_node : slice_get (placed cells) node ≡ Some cell) where
    at_cell : slice_get cells node ≡ Some (unplaced cell)
    at_cell = at_unplaced 0 cells node cell at_node

    own_taken : is_source cell.kind.1 ≡ false → sum_by (λ (edge : ℕ). length (reached.took edge)) (plan.ins node) ≤ sum_by most cell.ins
    own_taken is =
        subst (λ (edges : List ℕ). sum_by (λ (edge : ℕ). length (reached.took edge)) edges ≤ sum_by most cell.ins)
        (sym (own_ins cells status plan valid runs.planned node (unplaced cell) at_cell is))
        (edges-le (λ (edge : ℕ). length (reached.took edge)) most cell.ins
        (λ edge there. took_from edge (own_in_below cells status plan valid runs.planned node edge (unplaced cell) at_cell there)))

    own_given : is_writer cell.kind.1 ≡ false → sum_by (λ (edge : ℕ). length (reached.put edge)) (plan.outs node) ≤ sum_by most cell.outs
    own_given is =
        subst (λ (edges : List ℕ). sum_by (λ (edge : ℕ). length (reached.put edge)) edges ≤ sum_by most cell.outs)
        (sym (own_outs cells status plan valid runs.planned node (unplaced cell) at_cell is))
        (edges-le (λ (edge : ℕ). length (reached.put edge)) most cell.outs
        (λ edge there. put_on edge (own_out_below cells status plan valid runs.planned node edge (unplaced cell) at_cell there)))

    outer_taken : is_source cell.kind.1 ≡ true → sum_by (λ (edge : ℕ). length (reached.took edge)) (plan.ins node) ≤ most_pieces (get_or sources cell.kind.0 [])
    outer_taken is =
        let outer = source_edge cells status plan valid runs.planned node (unplaced cell) at_cell is in
        let read : get_or sources cell.kind.0 [] ≡ text_of (reached.put (outer_edge cells node)) ++ [] =
        some_text (get_or sources cell.kind.0 []) (text_of (reached.put (outer_edge cells node)) ++ [])
        (sym (runs.told node ∙ told node cell at_node is) ∙ reached.read node (outer_edge cells node) (runs.planned.reads node (unplaced cell) at_cell ∙ is) outer) in
        let whole = read ∙ append-nil (text_of (reached.put (outer_edge cells node))) in
        let few = pieces-few (reached.put (outer_edge cells node)) (reached.clean (outer_edge cells node)) (reached.sized (outer_edge cells node)) in
        let same = ap (λ (text : List ℕ). length text) whole in
        let less = took_few (outer_edge cells node) in
        subst (λ (edges : List ℕ). sum_by (λ (edge : ℕ). length (reached.took edge)) edges ≤ most_pieces (get_or sources cell.kind.0 [])) (sym outer)
        (omega (arith, few, same, less))

    outer_given : is_writer cell.kind.1 ≡ true
        → sum_by (λ (edge : ℕ). length (reached.put edge)) (plan.outs node) ≤ most_pieces (only (map (flow cells sources) cell.ins)) + sum_by most cell.outs
    outer_given is =
        let own = edges-le (λ (edge : ℕ). length (reached.put edge)) most cell.outs
        (λ edge there. put_on edge (own_out_below cells status plan valid runs.planned node edge (unplaced cell) at_cell there)) in
        let all = sum_by-cons (λ (edge : ℕ). length (reached.put edge)) (outer_edge cells node) cell.outs in
        let few = put_few (outer_edge cells node) (only (map (flow cells sources) cell.ins))
        (put_carries state cells status valid inputs moves failed ports machines wires runs sources told node (unplaced cell) at_cell is).front in
        subst (λ (edges : List ℕ). sum_by (λ (edge : ℕ). length (reached.put edge)) edges ≤ most_pieces (only (map (flow cells sources) cell.ins)) + sum_by most cell.outs)
        (sym (writer_edges cells status plan valid runs.planned node (unplaced cell) at_cell is))
        (omega (arith, few, own, all))

    -- the texts of a node of this kind
    abbrev ends : Bool → Bool → List (List ℕ)
    ends source writer = if source then get_or sources cell.kind.0 [] ∷ [] else if writer then only (map (flow cells sources) cell.ins) ∷ [] else []

    node_few : moves_at plan reached.took reached.put node ≤ most_at cell
    node_few = by_kind (is_source cell.kind.1) (is_writer cell.kind.1) refl refl
      where
        outer : (source writer : Bool) → is_source cell.kind.1 ≡ source → is_writer cell.kind.1 ≡ writer
            → sum_by most_pieces (outer_texts (flow cells sources) sources cell) ≡ sum_by most_pieces (ends source writer)
        outer source writer is_one is_other =
            ap (λ (test : Bool). sum_by most_pieces (ends test (is_writer cell.kind.1))) is_one ∙ ap (λ (test : Bool). sum_by most_pieces (ends source test)) is_other

        by_kind : (source writer : Bool) → is_source cell.kind.1 ≡ source → is_writer cell.kind.1 ≡ writer → moves_at plan reached.took reached.put node ≤ most_at cell
        by_kind true writer is_one is_other =
            let taken = outer_taken is_one in
            let given = own_given (source_no_writer cell.kind.1 is_one) in
            let texts = outer true writer is_one is_other in
            omega (arith, taken, given, texts)
        by_kind false true no_source is_one =
            let taken = own_taken no_source in
            let given = outer_given is_one in
            let texts = outer false true no_source is_one in
            omega (arith, taken, given, texts)
        by_kind false false no_source no_writer =
            let taken = own_taken no_source in
            let given = own_given no_writer in
            omega (arith, taken, given)

  -- each edge is taken once and given once
  taken_few : sum_by most (takes (placed cells)) ≤ sum_by most (range_with_len 0 (length (gives cells)))
  taken_few =
      subst (λ (edges : List ℕ). sum_by most edges ≤ sum_by most (range_with_len 0 (length (gives cells)))) (sym (takes-placed 0 cells))
      (once-le most (length (gives cells)) (takes cells)
      (λ edge. let same = valid.edges.taken edge in let once = valid.edges.once edge in omega (arith, same, once))
      (λ edge there.
      let some = count-has edge (takes cells) there in
      let same = valid.edges.taken edge in
      given_below cells status plan valid runs.planned edge (omega (arith, some, same))))

  given_few : sum_by most (gives (placed cells)) ≤ sum_by most (range_with_len 0 (length (gives cells)))
  given_few =
      subst (λ (edges : List ℕ). sum_by most edges ≤ sum_by most (range_with_len 0 (length (gives cells)))) (sym (gives-placed 0 cells))
      (once-le most (length (gives cells)) (gives cells) valid.edges.once valid.edges.below)

  pub few_over_edges : sum_by (moves_over reached.took reached.put) (edges_of cells) ≤ most_over_edges cells sources
  few_over_edges =
      let all = numbers-le (moves_over reached.took reached.put) (λ (edge : ℕ). most edge + most edge) 0 (length (gives cells))
      (λ edge low high.
      let within : edge < length (gives cells) = omega (arith, high) in
      let taken = took_from edge within in
      let given = put_on edge within in omega (arith, taken, given)) in
      let both = sum_by-both most most (edges_of cells) in
      omega (arith, all, both)

  pub few_moves : moves ≤ most_moves cells sources
  few_moves =
      let all = nodes-le (moves_at plan reached.took reached.put) most_at 0 (placed cells)
      (λ node cell at_node. let here : 0 + node ≡ node = omega arith in let same = ap (moves_at plan reached.took reached.put) here in let few = node_few node cell at_node in omega (arith, same, few)) in
      let nodes = ap (λ (size : ℕ). sum_by (moves_at plan reached.took reached.put) (range_with_len 0 size)) (length-placed 0 cells) in
      let made = runs.moved in
      let parts = sum_by-both (λ (cell : Cell Placed). sum_by most cell.ins + sum_by most cell.outs) (λ (cell : Cell Placed). sum_by most_pieces (outer_texts (flow cells sources) sources cell)) (placed cells) in
      let sides = sum_by-both (λ (cell : Cell Placed). sum_by most cell.ins) (λ (cell : Cell Placed). sum_by most cell.outs) (placed cells) in
      let ins = sum_by-flat_map most (λ (cell : Cell Placed). cell.ins) (placed cells) in
      let outs = sum_by-flat_map most (λ (cell : Cell Placed). cell.outs) (placed cells) in
      let outer = sum_by-flat_map most_pieces (outer_texts (flow cells sources) sources) (placed cells) in
      let taken = taken_few in
      let given = given_few in
      omega (arith, all, nodes, made, parts, sides, ins, outs, outer, taken, given)
