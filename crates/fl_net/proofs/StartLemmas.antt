-- A graph's network at its beginning follows the graph's plan, and stands at the plan's start.
use Rattle.std.proofs.Common.{◌≡◌, ℕ, zero, suc, ◌<◌, ◌≤◌, List, [], ◌∷◌, Bool, true, false, if◌then◌else◌, length, slice_get, get_or, nat_lt, Option, Some, None, refl, ap, sym, subst, ◌∙◌, arith}
use mathlib.Core.Path.{fun_ext}
use Rattle.std.specs.Option.{option_map_or}
use Rattle.std.specs.List.{flat_map}
use Rattle.std.proofs.lemmas.Bool.{true≢false, true_from_ne_false, ltb-true}
use Rattle.std.proofs.lemmas.Option.{slice_get_within, slice_get-get_or}
use Rattle.ps_world.proofs.ToldLemmas.{then_bytes-nil, bytes_then-nil}
use Rattle.fl_graph.specs.Net.{has, count, gives, takes}
use Rattle.fl_graph.specs.declared.graphs.Cell.{Cell}
use Rattle.fl_graph.specs.Machines.{State}
use Rattle.fl_graph.specs.declared.pieces.Act.TheVariants as act
use Rattle.fl_graph.specs.Runs.{Run}
use Rattle.fl_graph.specs.Valid.{Valid}
use Rattle.fl_graph.specs.declared.graphs.StatusRule.{StatusRule}
use Rattle.fl_graph.specs.declared.kinds.NodeKind.{NodeKind}
use Rattle.fl_graph.specs.declared.pieces.Piece.{Piece}
use Rattle.fl_graph.proofs.ListLemmas.{count-has, count-none}
use Rattle.fl_graph.proofs.StateLemmas.{Run-start}
use Rattle.fl_classes.specs.Flow.{is_source}
use Rattle.fl_classes.specs.Nodes.{Begins}
use Rattle.fl_classes.specs.Kinds.{is_writer, run_kind, run_ins, run_outs}
use Rattle.fl_net.specs.Laws.{at_ports}
use Rattle.fl_net.specs.Runs.{Plan, IsWired, Follows, Reached}
use Rattle.fl_net.specs.Plans.{outer_edge, edges_in, edges_out, IsPlanOf, IsNetOf}
use Rattle.fl_net.specs.Points.{IsUnderWay}
use Rattle.fl_net.specs.declared.nets.Ports.{Ports}
use Rattle.fl_net.proofs.PortLemmas.{stands-has, part_within}
use Rattle.fl_net.proofs.PlanLemmas.{plan_is_wired}
use Rattle.fl_net.proofs.HaltLemmas.{machine_at}

-- nothing was taken and nothing put
at_ports-nothing : (edges : List ℕ) (port : ℕ) → at_ports edges (λ _. []) port ≡ []
at_ports-nothing [] port = refl
at_ports-nothing (edge ∷ edges) zero = refl
at_ports-nothing (edge ∷ edges) (suc port) = at_ports-nothing edges port

-- an end's edge to the outside, and those behind it
outer_length : (test : Bool) (outer : ℕ) (behind edges : List ℕ) → length (if test then outer ∷ behind else edges) ≡ (if test then suc (length behind) else length edges)
outer_length true outer behind edges = refl
outer_length false outer behind edges = refl

-- a machine of a node that isn't there
abbrev pub no_state : State
no_state = record {
  act = act.Stop;
  takes = λ _. false;
  puts = λ _. false;
  numbered_ins = λ _. false;
  numbered_outs = λ _. false;
  broken = false;
  due = λ _ _. [];
  selects = λ _. false;
}

module _ {Machine : Type 0} (state : Machine → State) (cells : List (Cell NodeKind)) (status : StatusRule) (valid : Valid cells status)
    (ports : List Ports) (machines : List Machine) (wires : List (List Piece)) (net : IsNetOf state cells ports machines wires) (left taken : ℕ → Option (List ℕ)) where
  abbrev pub start_plan : Plan
  start_plan = record {
    ins = λ node. option_map_or (edges_in cells node) (slice_get cells node) [];
    outs = λ node. option_map_or (edges_out cells node) (slice_get cells node) [];
    starts = λ node. option_map_or state (slice_get machines node) no_state;
    reads = λ node. option_map_or (λ cell. is_source cell.kind) (slice_get cells node) false;
    writes = λ node. option_map_or (λ cell. is_writer cell.kind) (slice_get cells node) false;
    left = left;
    taken = taken;
    failed = λ node. false;
  }

  -- a node has its machine, and a machine its node
  node_machine : (node : ℕ) (cell : Cell NodeKind) → slice_get cells node ≡ Some cell → (machine : Machine) × (slice_get machines node ≡ Some machine)
  node_machine node cell at_node =
      let within = slice_get_within cells node cell at_node in
      let counted = net.all_machines in
      machine_at machines node (omega (arith, within, counted))

  machine_node : (node : ℕ) (machine : Machine) → slice_get machines node ≡ Some machine → (cell : Cell NodeKind) × (slice_get cells node ≡ Some cell)
  machine_node node machine at_machine =
      let within = slice_get_within machines node machine at_machine in
      let counted = net.all_machines in
      machine_at cells node (omega (arith, within, counted))

  ports_node : (node : ℕ) (own : Ports) → slice_get ports node ≡ Some own → (cell : Cell NodeKind) × (slice_get cells node ≡ Some cell)
  ports_node node own at_ports =
      let within = slice_get_within ports node own at_ports in
      let counted = net.all_ports in
      machine_at cells node (omega (arith, within, counted))

  start_of : (node : ℕ) (machine : Machine) → slice_get machines node ≡ Some machine → start_plan.starts node ≡ state machine
  start_of node machine at_machine = ap (λ (found : Option Machine). option_map_or state found no_state) at_machine

  pub start_is_planned : IsPlanOf cells start_plan
  start_is_planned = record {
    ins = λ node cell at_node. ap (λ (found : Option (Cell NodeKind)). option_map_or (edges_in cells node) found []) at_node;
    outs = λ node cell at_node. ap (λ (found : Option (Cell NodeKind)). option_map_or (edges_out cells node) found []) at_node;
    reads = λ node cell at_node. ap (λ (found : Option (Cell NodeKind)). option_map_or (λ (it : Cell NodeKind). is_source it.kind) found false) at_node;
    writes = λ node cell at_node. ap (λ (found : Option (Cell NodeKind)). option_map_or (λ (it : Cell NodeKind). is_writer it.kind) found false) at_node;
    no_ins = λ node none. ap (λ (found : Option (Cell NodeKind)). option_map_or (edges_in cells node) found []) none;
    no_outs = λ node none. ap (λ (found : Option (Cell NodeKind)). option_map_or (edges_out cells node) found []) none;
    no_reads = λ node none. ap (λ (found : Option (Cell NodeKind)). option_map_or (λ (it : Cell NodeKind). is_source it.kind) found false) none;
    no_writes = λ node none. ap (λ (found : Option (Cell NodeKind)). option_map_or (λ (it : Cell NodeKind). is_writer it.kind) found false) none;
    begins = λ node cell at_node.
        let its = node_machine node cell at_node in
        subst (λ (start : State). Begins (run_kind cell.kind) (run_ins cell.kind (length cell.ins)) (run_outs cell.kind (length cell.outs)) start)
        (sym (start_of node its.0 its.1)) (net.begins node cell its.0 at_node its.1);
  }

  pub start_is_wired : IsWired start_plan
  start_is_wired = plan_is_wired cells status start_plan valid start_is_planned

  -- each edge of a node has its wire
  given_below : (edge : ℕ) → 1 ≤ count edge (gives cells) → edge < length (gives cells)
  given_below edge some =
      valid.edges.below edge (true_from_ne_false (has edge (gives cells)) (λ none. let absent = count-none edge (gives cells) none in omega (arith, absent, some)))

  module _ (part behind : Cell NodeKind → List ℕ) (ends : NodeKind → Bool) (below : (edge : ℕ) → 1 ≤ count edge (flat_map part cells) → edge < length (gives cells))
      (among : (cell : Cell NodeKind) (edge : ℕ) → has edge (behind cell) ≡ true → has edge (part cell) ≡ true) (node : ℕ) where
    abbrev edges_of : Option (Cell NodeKind) → List ℕ
    edges_of found = option_map_or (λ (cell : Cell NodeKind). if ends cell.kind then outer_edge cells node ∷ behind cell else part cell) found []

    own_below : (edges : List ℕ) (port : ℕ) (cell : Cell NodeKind) → slice_get cells node ≡ Some cell → ((edge : ℕ) → has edge edges ≡ true → has edge (part cell) ≡ true)
        → port < length edges → get_or edges port 0 < length (gives cells)
    own_below edges port cell at_node own within =
        let edge = get_or edges port 0 in
        let there = count-has edge (part cell) (own edge (stands-has edges port edge (slice_get-get_or edges port 0 within))) in
        let all = part_within part edge cells node cell at_node in
        below edge (omega (arith, there, all))

    outer_below : (port : ℕ) (cell : Cell NodeKind) → slice_get cells node ≡ Some cell → port < length (outer_edge cells node ∷ behind cell)
        → get_or (outer_edge cells node ∷ behind cell) port 0 < length wires
    outer_below zero cell at_node within =
        let there = slice_get_within cells node cell at_node in
        let all = net.all_wires in
        let low : outer_edge cells node < length wires = omega (arith, there, all) in low
    outer_below (suc port) cell at_node within =
        let low = own_below (behind cell) port cell at_node (among cell) (omega (arith, within)) in
        let all = net.all_wires in
        let less : get_or (behind cell) port 0 < length wires = omega (arith, low, all) in less

    edges_wired : (port : ℕ) → port < length (edges_of (slice_get cells node)) → get_or (edges_of (slice_get cells node)) port 0 < length wires
    edges_wired port within = by_cell (slice_get cells node) refl within
      where
        by_kind : (cell : Cell NodeKind) (outer : Bool) → slice_get cells node ≡ Some cell → port < length (if outer then outer_edge cells node ∷ behind cell else part cell)
            → get_or (if outer then outer_edge cells node ∷ behind cell else part cell) port 0 < length wires
        by_kind cell true at_node inside = outer_below port cell at_node inside
        by_kind cell false at_node inside = let low = own_below (part cell) port cell at_node (λ edge there. there) inside in let all = net.all_wires in omega (arith, low, all)

        by_cell : (found : Option (Cell NodeKind)) → slice_get cells node ≡ found → port < length (edges_of found) → get_or (edges_of found) port 0 < length wires
        by_cell (Some cell) at_node here = by_kind cell (ends cell.kind) at_node here
        by_cell None at_node here = absurd (omega (arith, here))

    -- and the open ports of its machine are its own
    ports_own : (opened : State → ℕ → Bool) → ((port : ℕ) → opened no_state port ≡ false)
        → ((cell : Cell NodeKind) (machine : Machine) (port : ℕ) → slice_get cells node ≡ Some cell → slice_get machines node ≡ Some machine
        → opened (state machine) port ≡ nat_lt port (if ends cell.kind then suc (length (behind cell)) else length (part cell)))
        → (port : ℕ) → opened (option_map_or state (slice_get machines node) no_state) port ≡ true → port < length (edges_of (slice_get cells node))
    ports_own opened shut begins port is = by_machine (slice_get machines node) refl is
      where
        by_machine : (found : Option Machine) → slice_get machines node ≡ found → opened (option_map_or state found no_state) port ≡ true
            → port < length (edges_of (slice_get cells node))
        by_machine (Some machine) at_machine open_here =
            let its = machine_node node machine at_machine in
            let cell : Cell NodeKind = its.0 in
            let within = ltb-true port (if ends cell.kind then suc (length (behind cell)) else length (part cell)) (sym (begins cell machine port its.1 at_machine) ∙ open_here) in
            let same : length (edges_of (slice_get cells node)) ≡ (if ends cell.kind then suc (length (behind cell)) else length (part cell)) =
            ap (λ (found : Option (Cell NodeKind)). length (edges_of found)) its.1 ∙ outer_length (ends cell.kind) (outer_edge cells node) (behind cell) (part cell) in
            subst (λ (count : ℕ). port < count) (sym same) within
        by_machine None at_machine open_here = absurd (true≢false (sym open_here ∙ shut port))

  taken_below : (edge : ℕ) → 1 ≤ count edge (takes cells) → edge < length (gives cells)
  taken_below edge some = let same = valid.edges.taken edge in given_below edge (omega (arith, same, some))

  -- no out carries blocks
  start_plain : (node port : ℕ) → (start_plan.starts node).numbered_outs port ≡ false
  start_plain node port = by_machine (slice_get machines node) refl
    where
      by_machine : (found : Option Machine) → slice_get machines node ≡ found → (option_map_or state found no_state).numbered_outs port ≡ false
      by_machine None at_machine = refl
      by_machine (Some machine) at_machine = let its = machine_node node machine at_machine in (net.begins node its.0 machine its.1 at_machine).plain_outs port

  -- the network's ports are the plan's
  pub start_follows : Follows start_plan ports (length wires)
  start_follows = record {
    ins = λ node own at_node. let its = ports_node node own at_node in start_is_planned.ins node its.0 its.1 ∙ sym (net.ins node its.0 own its.1 at_node);
    outs = λ node own at_node. let its = ports_node node own at_node in start_is_planned.outs node its.0 its.1 ∙ sym (net.outs node its.0 own its.1 at_node);
    reads = λ node own at_node. let its = ports_node node own at_node in start_is_planned.reads node its.0 its.1 ∙ sym (net.reads node its.0 own its.1 at_node);
    writes = λ node own at_node. let its = ports_node node own at_node in start_is_planned.writes node its.0 its.1 ∙ sym (net.writes node its.0 own its.1 at_node);
    wired_ins = λ node. edges_wired (λ (cell : Cell NodeKind). cell.ins) (λ (cell : Cell NodeKind). []) is_source taken_below (λ cell edge there. absurd (true≢false (sym there))) node;
    wired_outs = λ node. edges_wired (λ (cell : Cell NodeKind). cell.outs) (λ (cell : Cell NodeKind). cell.outs) is_writer given_below (λ cell edge there. there) node;
    in_ports = λ node. ports_own (λ (cell : Cell NodeKind). cell.ins) (λ (cell : Cell NodeKind). []) is_source taken_below (λ cell edge there. absurd (true≢false (sym there))) node (λ (it : State) (port : ℕ). it.takes port) (λ port. refl)
        (λ cell machine port at_node at_machine. (net.begins node cell machine at_node at_machine).takes_all port);
    out_ports = λ node. ports_own (λ (cell : Cell NodeKind). cell.outs) (λ (cell : Cell NodeKind). cell.outs) is_writer given_below (λ cell edge there. there) node (λ (it : State) (port : ℕ). it.puts port) (λ port. refl)
        (λ cell machine port at_node at_machine. (net.begins node cell machine at_node at_machine).puts_all port);
    plain_outs = start_plain;
  }

  pub start_whole : (node : ℕ) (machine : Machine) → slice_get machines node ≡ Some machine → (state machine).broken ≡ false
  start_whole node machine at_machine = let its = machine_node node machine at_machine in (net.begins node its.0 machine its.1 at_machine).is_whole

  -- no machine has taken or put anything
  pub start_runs : (node : ℕ) (machine : Machine) → slice_get machines node ≡ Some machine
      → Run (start_plan.starts node) (state machine) (at_ports (start_plan.ins node) (λ (_ : ℕ). [])) (at_ports (start_plan.outs node) (λ (_ : ℕ). [])) false
  start_runs node machine at_machine =
      let nothing : (edges : List ℕ) → (λ (_ : ℕ). []) ≡ at_ports edges (λ (_ : ℕ). []) = λ edges. fun_ext (λ (port : ℕ). sym (at_ports-nothing edges port)) in
      subst (λ (start : State). Run start (state machine) (at_ports (start_plan.ins node) (λ (_ : ℕ). [])) (at_ports (start_plan.outs node) (λ (_ : ℕ). [])) false)
      (sym (start_of node machine at_machine))
      (subst (λ (put : ℕ → List Piece). Run (state machine) (state machine) (at_ports (start_plan.ins node) (λ (_ : ℕ). [])) put false) (nothing (start_plan.outs node))
      (subst (λ (took : ℕ → List Piece). Run (state machine) (state machine) took (λ (_ : ℕ). []) false) (nothing (start_plan.ins node))
      (Run-start (state machine) (start_whole node machine at_machine))))

  -- before anything has moved
  pub start_is_reached : Reached state start_plan machines wires left taken
  start_is_reached = record {
    took = λ edge. [];
    put = λ edge. [];
    queued = λ edge. sym (net.none_waits edge);
    clean = λ edge. refl;
    plain = λ edge. refl;
    sized = λ edge. refl;
    runs = start_runs;
    sound = λ unfailed. record { whole = start_whole; edges = λ edge. refl };
    read = λ node edge reads is. sym (bytes_then-nil (left node));
    ended = λ node edge reads is ended. absurd (true≢false (sym ended));
    written = λ node edge writes is. sym (then_bytes-nil (taken node));
  }

  -- all that later steps want of the plan
  abbrev pub net_plan : (plan : Plan) × IsPlanOf cells plan × IsWired plan × Follows plan ports (length wires) × Reached state plan machines wires left taken × (plan.left ≡ left) × (plan.taken ≡ taken) × ((node : ℕ) → plan.failed node ≡ false)
  net_plan = (start_plan, start_is_planned, start_is_wired, start_follows, start_is_reached, refl, refl, λ node. refl)

  -- so a run is under way, where each source has an end to read from and each node that writes one to write to
  pub net_under_way : (reads writes : ℕ → Bool) (faults : ℕ → ℕ)
      → ((node : ℕ) (cell : Cell NodeKind) → slice_get cells node ≡ Some cell → is_source cell.kind ≡ true → reads node ≡ true)
      → ((node : ℕ) (cell : Cell NodeKind) → slice_get cells node ≡ Some cell → is_writer cell.kind ≡ true → writes node ≡ true)
      → IsUnderWay state (record { ports = ports; machines = machines; wires = wires; left = left; taken = taken; reads = reads; writes = writes; faults = faults })
  net_under_way reads writes faults readable writable = record {
    goes = record { plan = start_plan; wired = start_is_wired; follows = start_follows; reached = start_is_reached };
    ends = record {
      reading = λ node own at_node is. let its = ports_node node own at_node in readable node its.0 its.1 (sym (net.reads node its.0 own its.1 at_node) ∙ is);
      writing = λ node own at_node is. let its = ports_node node own at_node in writable node its.0 its.1 (sym (net.writes node its.0 own its.1 at_node) ∙ is);
    };
    counted = net.all_machines ∙ sym net.all_ports;
  }
