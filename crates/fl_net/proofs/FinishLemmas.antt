-- What a run leaves at the ends of a graph's plan: the ends of the nodes that write have fronts of the flow where it halted, and where it
-- finished all of it, with the sources' ends at their end and each node selecting by the flow.
use Rattle.std.proofs.Common.{◌≡◌, ℕ, suc, ◌+◌, List, [], ◌∷◌, ◌++◌, Bool, true, false, ◌||◌, if◌then◌else◌, length, map, drop, slice_get, nat_lt, Option, Some, None, refl, ap, sym, subst, ◌∙◌, append-nil, arith}
use Rattle.std.proofs.lemmas.Bool.{or_parts, true≢false, lt-ltb}
use Rattle.std.proofs.lemmas.List.{take-append-drop}
use Rattle.std.proofs.lemmas.Option.{slice_get_within}
use Rattle.std.specs.Option.{option_map}
use Rattle.ps_world.specs.Told.{bytes_then, then_bytes, GrewByPrefix, IsEnded}
use Rattle.ps_world.proofs.ToldLemmas.{grew_by_front}
use Rattle.fl_graph.specs.declared.graphs.Cell.{Cell}
use Rattle.fl_graph.specs.Machines.{State}
use Rattle.fl_graph.specs.Runs.{text_of, has_end, are_closed, completed, completion, Stopped}
use Rattle.fl_graph.specs.Valid.{Valid}
use Rattle.fl_graph.specs.declared.graphs.StatusRule.{StatusRule}
use Rattle.fl_graph.specs.declared.kinds.NodeKind.{NodeKind}
use Rattle.fl_graph.specs.declared.kinds.NodeKind.TheVariants as kind
use Rattle.fl_graph.specs.declared.pieces.Piece.{Piece}
use Rattle.fl_graph.proofs.StateLemmas.{Run-shut}
use Rattle.fl_classes.specs.Flow.{is_source, only, flow, selects}
use Rattle.fl_classes.specs.Nodes.{texts_at}
use Rattle.fl_classes.specs.Kinds.{is_sink, is_writer, run_kind, run_ins}
use Rattle.fl_net.specs.Ends.{IsReadOff}
use Rattle.fl_net.specs.Laws.{Carries, at_ports}
use Rattle.fl_net.specs.Steps.{waiting_on}
use Rattle.fl_net.specs.Runs.{Plan, IsUnbroken, Reached, Halted}
use Rattle.fl_net.specs.Plans.{outer_edge, IsPlanOf, AreTold}
use Rattle.fl_net.proofs.PortLemmas.{stands-has, at_ports-stands}
use Rattle.fl_net.proofs.LawLemmas.{texts-values, edge_carries, edge_completed}
use Rattle.fl_net.proofs.PlanLemmas.{writer_has, source_no_writer, source_edge, writer_edge, writer_edges, own_ins, own_in_below}
use Rattle.fl_net.proofs.HaltLemmas.{has_end-front, machine_at, taken_ends, reached_halts}
use Rattle.fl_net.proofs.KeepLemmas.{owes_writer, hands_on, machine_keeps, halted_keeps}

-- what has grown by a prefix of what carries a text has grown by a prefix of the text
grew_by_carried : (old new : Option (List ℕ)) (pieces : List Piece) (text : List ℕ) → Carries pieces text → GrewByPrefix old new (text_of pieces) → GrewByPrefix old new text
grew_by_carried old new pieces text carries grew =
    let rest = drop (length (text_of pieces)) text in
    let whole : text_of pieces ++ rest ≡ text =
    ap (λ (front : List ℕ). front ++ rest) (sym carries.front) ∙ take-append-drop (length (text_of pieces)) text in
    subst (λ (it : List ℕ). GrewByPrefix old new it) whole (grew_by_front old new (text_of pieces) rest grew)

abbrev emptied_of : Option (List ℕ) → Option (List ℕ)
emptied_of told = option_map (λ (bytes : List ℕ). []) told

-- what was read of a text up to its end is all of it
read_off : (text : List ℕ) (before after : Option (List ℕ)) → before ≡ bytes_then text after → IsEnded after → IsReadOff before after
read_off text before None is ended = ap emptied_of (sym is)
read_off text before (Some left) is ended = ended ∙ ap emptied_of (sym is)

module _ (cells : List (Cell NodeKind)) (status : StatusRule) (plan : Plan) (valid : Valid cells status) (planned : IsPlanOf cells plan)
    (taken : ℕ → Option (List ℕ)) (halted : Halted plan (length cells) taken) (sources : List (List ℕ)) (told : AreTold sources cells plan.left)
    (node : ℕ) (cell : Cell NodeKind) (at_node : slice_get cells node ≡ Some cell) (writes : is_writer cell.kind ≡ true) where
  is_no_source : is_source cell.kind ≡ false
  is_no_source = by_test (is_source cell.kind) refl
    where
      by_test : (test : Bool) → is_source cell.kind ≡ test → test ≡ false
      by_test true is = absurd (true≢false (sym writes ∙ source_no_writer cell.kind is))
      by_test false is = refl

  -- what a node that writes puts out carries the flow of its in
  pub writer_carries : Carries (halted.put (outer_edge cells node)) (only (map (flow cells sources) cell.ins))
  writer_carries =
      let ports = writer_has cells status plan valid planned node cell at_node writes in
      let edge : ℕ = ports.0 in
      let stands : slice_get cell.ins 0 ≡ Some edge = ap (λ (edges : List ℕ). slice_get edges 0) ports.1 in
      let below = own_in_below cells status plan valid planned node edge cell at_node (stands-has cell.ins 0 edge stands) in
      let begins = planned.begins node cell at_node in
      let carried = edge_carries cells status valid sources halted.took halted.put (halted_keeps cells status plan valid planned taken halted sources told) edge below in
      subst (λ (edges : List ℕ). Carries (halted.put (outer_edge cells node)) (only (map (flow cells sources) edges))) (sym ports.1)
      (hands_on (plan.starts node).due halted.took halted.put halted.waiting halted.queued halted.clean edge (outer_edge cells node) cell.outs (flow cells sources edge)
      (λ texts. begins.owes texts 0 ∙ owes_writer cell.kind (length cell.ins) (length cell.outs) texts writes (ap (λ (edges : List ℕ). length edges) ports.1))
      (machine_keeps cells status plan valid planned taken halted node cell (edge ∷ []) (outer_edge cells node ∷ cell.outs) at_node
      (own_ins cells status plan valid planned node cell at_node is_no_source ∙ ports.1) (writer_edges cells status plan valid planned node cell at_node writes))
      carried)

  -- so its end took a front of it
  pub halted_writes : GrewByPrefix (plan.taken node) (taken node) (only (map (flow cells sources) cell.ins))
  halted_writes =
      grew_by_carried (plan.taken node) (taken node) (halted.put (outer_edge cells node)) (only (map (flow cells sources) cell.ins)) writer_carries
      (halted.written node (outer_edge cells node) (planned.writes node cell at_node ∙ writes) (writer_edge cells status plan valid planned node cell at_node writes))

-- the machines of ends select nothing, as ends do, and any other selects what its node does
selects_end : (node : NodeKind) (texts ins : List (List ℕ)) → (is_source node || is_sink node) ≡ true → selects (run_kind node) texts ≡ selects node ins
selects_end (kind.Source source) texts ins is = refl
selects_end (kind.Sink sink) texts ins is = refl
selects_end other texts ins is = absurd (true≢false (sym is))

selects_other : (node : NodeKind) (ins : ℕ) (texts : ℕ → List ℕ) → (is_source node || is_sink node) ≡ false → selects (run_kind node) (texts_at (run_ins node ins) texts) ≡ selects node (texts_at ins texts)
selects_other (kind.Source source) ins texts is = absurd (true≢false is)
selects_other (kind.Sink sink) ins texts is = absurd (true≢false is)
selects_other other ins texts is = refl

module _ {Machine : Type 0} (state : Machine → State) (cells : List (Cell NodeKind)) (status : StatusRule) (plan : Plan) (valid : Valid cells status) (planned : IsPlanOf cells plan)
    (machines : List Machine) (wires : List (List Piece)) (left taken : ℕ → Option (List ℕ)) (reached : Reached state plan machines wires left taken) where
  module _ (counted : length machines ≡ length cells) (unbroken : IsUnbroken state machines reached.put)
      (stopped : (node : ℕ) (machine : Machine) → slice_get machines node ≡ Some machine
      → ((port : ℕ) → (state machine).takes port ≡ false) × ((port : ℕ) → (state machine).puts port ≡ false)) where
    -- a machine stands for each node
    pub its_machine : (node : ℕ) (cell : Cell NodeKind) → slice_get cells node ≡ Some cell → (machine : Machine) × (slice_get machines node ≡ Some machine)
    its_machine node cell at_node = let within = slice_get_within cells node cell at_node in machine_at machines node (omega (arith, within, counted))

    its_stop : (node : ℕ) (machine : Machine) → slice_get machines node ≡ Some machine
        → Stopped (plan.starts node) (state machine) (at_ports (plan.ins node) reached.took) (at_ports (plan.outs node) reached.put)
    its_stop node machine at_machine =
        let shut = stopped node machine at_machine in
        Run-shut (plan.starts node) (state machine) (at_ports (plan.ins node) reached.took) (at_ports (plan.outs node) reached.put) (plan.failed node)
        (reached.runs node machine at_machine) shut.0 shut.1

    -- it has taken the end of each of its ins
    pub in_ends : (node : ℕ) (machine : Machine) (port edge : ℕ) → slice_get machines node ≡ Some machine → slice_get (plan.ins node) port ≡ Some edge
        → (plan.starts node).takes port ≡ true → has_end (reached.took edge) ≡ true
    in_ends node machine port edge at_machine stands opened =
        let stop = its_stop node machine at_machine in
        taken_ends state plan machines wires left taken reached unbroken edge (ap are_closed (sym (at_ports-stands (plan.ins node) reached.took port edge stands)) ∙ stop.ins port opened)

    pub finished_reads : (node : ℕ) (cell : Cell NodeKind) → slice_get cells node ≡ Some cell → is_source cell.kind ≡ true → IsReadOff (plan.left node) (left node)
    finished_reads node cell at_node source =
        let found = its_machine node cell at_node in
        let outer = source_edge cells status plan valid planned node cell at_node source in
        let begins = planned.begins node cell at_node in
        let opened : (plan.starts node).takes 0 ≡ true = begins.takes_all 0 ∙ ap (λ (test : Bool). nat_lt 0 (if test then 1 else length cell.ins)) source in
        let ended = in_ends node found.0 0 (outer_edge cells node) found.1 (ap (λ (edges : List ℕ). slice_get edges 0) outer) opened in
        let reads = planned.reads node cell at_node ∙ source in
        read_off (text_of (reached.put (outer_edge cells node))) (plan.left node) (left node) (reached.read node (outer_edge cells node) reads outer)
        (reached.ended node (outer_edge cells node) reads outer
        (ap has_end (reached.queued (outer_edge cells node)) ∙ has_end-front (reached.took (outer_edge cells node)) (waiting_on wires (outer_edge cells node)) ended))

    -- a node that writes has put the end of its text
    pub writer_ended : (node : ℕ) (cell : Cell NodeKind) → slice_get cells node ≡ Some cell → is_writer cell.kind ≡ true → has_end (reached.put (outer_edge cells node)) ≡ true
    writer_ended node cell at_node writes =
        let found = its_machine node cell at_node in
        let begins = planned.begins node cell at_node in
        let stop = its_stop node found.0 found.1 in
        let opened : (plan.starts node).puts 0 ≡ true = begins.puts_all 0 ∙ ap (λ (test : Bool). nat_lt 0 (if test then suc (length cell.outs) else length cell.outs)) writes ∙ lt-ltb 0 (suc (length cell.outs)) (omega arith) in
        ap has_end (sym (at_ports-stands (plan.outs node) reached.put 0 (outer_edge cells node) (writer_edge cells status plan valid planned node cell at_node writes)))
        ∙ stop.ended (unbroken.whole node found.0 found.1) 0 opened

    module _ (sources : List (List ℕ)) (told : AreTold sources cells plan.left) where
      pub finished_writes : (node : ℕ) (cell : Cell NodeKind) → slice_get cells node ≡ Some cell → is_writer cell.kind ≡ true → waiting_on wires (outer_edge cells node) ≡ []
          → taken node ≡ then_bytes (plan.taken node) (only (map (flow cells sources) cell.ins))
      finished_writes node cell at_node writes drained =
          let outer : ℕ = outer_edge cells node in
          let first = writer_edge cells status plan valid planned node cell at_node writes in
          let carries = writer_carries cells status plan valid planned taken (reached_halts state plan machines wires left taken reached (length cells) counted) sources told node cell at_node writes in
          let all_taken : reached.put outer ≡ reached.took outer =
          reached.queued outer ∙ ap (λ (rest : List Piece). reached.took outer ++ rest) drained ∙ append-nil (reached.took outer) in
          reached.written node outer (planned.writes node cell at_node ∙ writes) first
          ∙ ap (λ (text : List ℕ). then_bytes (plan.taken node) text) (ap text_of (sym all_taken) ∙ sym (carries.whole (writer_ended node cell at_node writes)))

      -- the ins of a node that is no source come to their flow, whatever is said to follow
      ins_come : (node : ℕ) (cell : Cell NodeKind) (machine : Machine) → slice_get cells node ≡ Some cell → slice_get machines node ≡ Some machine → is_source cell.kind ≡ false
          → (rest : ℕ → List ℕ) → texts_at (length cell.ins) (completion (at_ports (plan.ins node) reached.took) rest) ≡ map (flow cells sources) cell.ins
      ins_come node cell machine at_node at_machine no_source rest =
          texts-values cell.ins (flow cells sources) (completion (at_ports (plan.ins node) reached.took) rest) 0
          (λ port edge stands.
          let here : 0 + port ≡ port = omega arith in
          let there : slice_get (plan.ins node) port ≡ Some edge =
          ap (λ (edges : List ℕ). slice_get edges port) (own_ins cells status plan valid planned node cell at_node no_source) ∙ stands in
          let begins = planned.begins node cell at_node in
          let opened : (plan.starts node).takes port ≡ true =
          begins.takes_all port ∙ ap (λ (test : Bool). nat_lt port (if test then 1 else length cell.ins)) no_source
          ∙ lt-ltb port (length cell.ins) (slice_get_within cell.ins port edge stands) in
          let keeps = halted_keeps cells status plan valid planned taken (reached_halts state plan machines wires left taken reached (length cells) counted) sources told in
          let below = own_in_below cells status plan valid planned node edge cell at_node (stands-has cell.ins port edge stands) in
          ap (completion (at_ports (plan.ins node) reached.took) rest) here
          ∙ ap (λ (pieces : List Piece). completed pieces (rest port)) (at_ports-stands (plan.ins node) reached.took port edge there)
          ∙ edge_completed cells status valid sources reached.took reached.put keeps edge below (in_ends node machine port edge at_machine there opened) (rest port))

      pub finished_selects : (node : ℕ) (cell : Cell NodeKind) (machine : Machine) → slice_get cells node ≡ Some cell → slice_get machines node ≡ Some machine
          → (rest : ℕ → List ℕ) → (state machine).selects rest ≡ selects cell.kind (map (flow cells sources) cell.ins)
      finished_selects node cell machine at_node at_machine rest =
          let stop = its_stop node machine at_machine in
          let begins = planned.begins node cell at_node in
          sym (stop.selection (unbroken.whole node machine at_machine) rest)
          ∙ begins.may_select (completion (at_ports (plan.ins node) reached.took) rest)
          ∙ by_end (is_source cell.kind || is_sink cell.kind) (completion (at_ports (plan.ins node) reached.took) rest) refl (λ no_source. ins_come node cell machine at_node at_machine no_source rest)
        where
          by_end : (test : Bool) (texts : ℕ → List ℕ) → (is_source cell.kind || is_sink cell.kind) ≡ test
              → (is_source cell.kind ≡ false → texts_at (length cell.ins) texts ≡ map (flow cells sources) cell.ins)
              → selects (run_kind cell.kind) (texts_at (run_ins cell.kind (length cell.ins)) texts) ≡ selects cell.kind (map (flow cells sources) cell.ins)
          by_end true texts is come = selects_end cell.kind (texts_at (run_ins cell.kind (length cell.ins)) texts) (map (flow cells sources) cell.ins) is
          by_end false texts is come =
              selects_other cell.kind (length cell.ins) texts is ∙ ap (selects cell.kind) (come (or_parts (is_source cell.kind) (is_sink cell.kind) is).0)
