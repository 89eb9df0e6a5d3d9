-- A network of a valid graph is never stuck: where no piece moves, each machine has stopped.
use Rattle.std.proofs.Common.{◌≡◌, ℕ, zero, suc, ◌+◌, ◌<◌, ◌≤◌, ◌==◌, List, [], ◌∷◌, ◌++◌, Bool, true, false, not, ◌&&◌, ◌||◌, if◌then◌else◌, length, slice_get, get_or, nat_lt, IfSome, Option, Some, None, refl, ap, sym, subst, ◌∙◌, arith, append_assoc, append-nil}
use Rattle.std.specs.List.{list_any}
use Rattle.std.proofs.lemmas.Bool.{and_parts, true≢false, lt-ltb, leb-true, eqb-true}
use Rattle.std.proofs.lemmas.List.Folds.{list_any-append}
use Rattle.std.proofs.lemmas.Option.{slice_get_within, get_or_from_slice_get}
use Rattle.fl_graph.specs.Checks.{each_after, takes_given}
use Rattle.fl_graph.specs.Machines.{MayDo, State, closes}
use Rattle.fl_graph.specs.Net.{has, gives}
use Rattle.fl_graph.specs.declared.graphs.Cell.{Cell}
use Rattle.fl_graph.specs.Runs.{are_closed, is_clean}
use Rattle.fl_graph.specs.Valid.{Valid}
use Rattle.fl_graph.specs.declared.graphs.StatusRule.{StatusRule}
use Rattle.fl_graph.specs.declared.kinds.NodeKind.{NodeKind}
use Rattle.fl_graph.specs.declared.pieces.Act.{Act}
use Rattle.fl_graph.specs.declared.pieces.Act.TheVariants as doing
use Rattle.fl_graph.specs.declared.pieces.Piece.{Piece}
use Rattle.fl_graph.proofs.EdgeLemmas.{leads_on-each}
use Rattle.fl_graph.proofs.ListLemmas.{holds-has}
use Rattle.fl_classes.specs.Flow.{is_source}
use Rattle.fl_net.specs.Inputs.{RunsOver}
use Rattle.fl_classes.specs.Kinds.{is_writer}
use Rattle.fl_graph.proofs.PieceLemmas.{nothing-behind}
use Rattle.fl_net.specs.Laws.{at_ports}
use Rattle.fl_net.specs.Plans.{outer_edge, HasRooms, IsPlanOf, is_sole}
use Rattle.fl_net.specs.Runs.{Plan, IsWired, Follows, Reached}
use Rattle.fl_net.specs.Steps.{has_moved, is_empty, is_full, room_on, waiting_on, progress_at}
use Rattle.fl_net.specs.Stuck.{is_stuck, IsStill, IsStuck}
use Rattle.fl_net.specs.declared.nets.Ports.{Ports}
use Rattle.fl_net.specs.declared.steps.Progress.TheVariants as progress
use Rattle.fl_net.proofs.OutsideLemmas.{some_at}
use Rattle.fl_net.proofs.PlanLemmas.{IsEndAt, own_ins, own_outs, source_at, source_edge, source_has, writer_edges}
use Rattle.fl_net.proofs.PortLemmas.{stands-has, port_of, at_ports-stands}

-- an earlier node that gives an edge
record GivesBefore (cells : List (Cell NodeKind)) (edge bound : ℕ) : Type 0 where
  node : ℕ
  cell : Cell NodeKind
  at_node : slice_get cells node ≡ Some cell
  among_outs : has edge cell.outs ≡ true
  before : node < bound

giver_in : (cells : List (Cell NodeKind)) (edge : ℕ) → has edge (gives cells) ≡ true → GivesBefore cells edge (length cells)
giver_in [] edge there = absurd (cc)
giver_in (cell ∷ cells) edge there =
    by_first (has edge cell.outs) refl (sym (list_any-append (λ (other : ℕ). other == edge) cell.outs (gives cells)) ∙ there) (giver_in cells edge)
  where
    by_first : (here : Bool) → has edge cell.outs ≡ here → (here || has edge (gives cells)) ≡ true
        → (has edge (gives cells) ≡ true → GivesBefore cells edge (length cells)) → GivesBefore (cell ∷ cells) edge (length (cell ∷ cells))
    by_first true is behind rest = record { node = zero; cell = cell; at_node = refl; among_outs = is; before = omega arith }
    by_first false is behind rest =
        let found = rest behind in
        let low = found.before in
        record { node = suc found.node; cell = found.cell; at_node = found.at_node; among_outs = found.among_outs; before = omega (arith, low) }

get_front : (front back : List (Cell NodeKind)) (node : ℕ) (cell : Cell NodeKind) → slice_get front node ≡ Some cell → slice_get (front ++ back) node ≡ Some cell
get_front [] back node cell at = absurd (cc)
get_front (first ∷ front) back zero cell at = at
get_front (first ∷ front) back (suc node) cell at = get_front front back node cell at

-- each in of a node comes from an earlier one
giver_before : (before cells : List (Cell NodeKind)) → each_after takes_given before cells ≡ true
    → (place : ℕ) (cell : Cell NodeKind) (edge : ℕ) → slice_get cells place ≡ Some cell → has edge cell.ins ≡ true
    → GivesBefore (before ++ cells) edge (length before + place)
giver_before before [] each place cell edge at there = absurd (cc)
giver_before before (first ∷ cells) each zero cell edge at there =
    let parts = and_parts (takes_given before first) (each_after takes_given (before ++ first ∷ []) cells) each in
    let same : cell ≡ first = cc in
    let found = giver_in before edge (holds-has (λ (other : ℕ). has other (gives before)) edge first.ins parts.0 (ap (λ (it : Cell NodeKind). has edge it.ins) (sym same) ∙ there)) in
    let low = found.before in
    record { node = found.node; cell = found.cell; at_node = get_front before (first ∷ cells) found.node found.cell found.at_node; among_outs = found.among_outs; before = omega (arith, low) }
giver_before before (first ∷ cells) each (suc place) cell edge at there =
    let parts = and_parts (takes_given before first) (each_after takes_given (before ++ first ∷ []) cells) each in
    let found = giver_before (before ++ first ∷ []) cells parts.1 place cell edge at there in
    let low = found.before in
    let all = length-more before in
    record {
      node = found.node;
      cell = found.cell;
      at_node = ap (λ (it : List (Cell NodeKind)). slice_get it found.node) (sym (append_assoc before (first ∷ []) cells)) ∙ found.at_node;
      among_outs = found.among_outs;
      before = omega (arith, low, all);
    }
  where
    length-more : (nodes : List (Cell NodeKind)) → length (nodes ++ first ∷ []) ≡ length nodes + 1
    length-more [] = refl
    length-more (node ∷ nodes) = let rest = length-more nodes in omega (arith, rest)

-- a node of which this edge is the one in
record TakesAlone (cells : List (Cell NodeKind)) (edge : ℕ) : Type 0 where
  node : ℕ
  cell : Cell NodeKind
  at_node : slice_get cells node ≡ Some cell
  alone : cell.ins ≡ edge ∷ []

sole_in : (edge : ℕ) (ins : List ℕ) → is_sole edge ins ≡ true → ins ≡ edge ∷ []
sole_in edge [] is = absurd (true≢false (sym is))
sole_in edge (other ∷ []) is = ap (λ (it : ℕ). it ∷ []) (eqb-true other edge is)
sole_in edge (other ∷ next ∷ others) is = absurd (true≢false (sym is))

sole_taker : (cells : List (Cell NodeKind)) (edge : ℕ) → list_any (λ cell. is_sole edge cell.ins) cells ≡ true → TakesAlone cells edge
sole_taker [] edge there = absurd (true≢false (sym there))
sole_taker (cell ∷ cells) edge there = by_first (is_sole edge cell.ins) refl there (sole_taker cells edge)
  where
    by_first : (here : Bool) → is_sole edge cell.ins ≡ here → (here || list_any (λ cell. is_sole edge cell.ins) cells) ≡ true
        → (list_any (λ cell. is_sole edge cell.ins) cells ≡ true → TakesAlone cells edge) → TakesAlone (cell ∷ cells) edge
    by_first true is behind rest = record { node = zero; cell = cell; at_node = refl; alone = sole_in edge cell.ins is }
    by_first false is behind rest =
        let found = rest behind in record { node = suc found.node; cell = found.cell; at_node = found.at_node; alone = found.alone }

-- what an edge that is full tells of its room and of what waits there
full_some : (room : Option ℕ) (pieces : List Piece) → IfSome room (λ count. 1 ≤ count) → is_full room pieces ≡ true → is_empty pieces ≡ false
full_some None pieces some full = absurd (true≢false (sym full))
full_some (Some count) [] some full = absurd (let low = leb-true count 0 full in omega (arith, low, some))
full_some (Some count) (first ∷ pieces) some full = refl

-- an act that isn't stuck as it is
not_stuck : (test : Bool) (reads : Bool) → is_stuck (if test then progress.Waits else progress.Gave) reads ≡ true → test ≡ true
not_stuck true reads is = refl
not_stuck false reads is = absurd (true≢false (sym is))

starving : (test : Bool) (reads : Bool) → is_stuck (if test then progress.Starves else progress.Took) reads ≡ true → (test ≡ true) × (reads ≡ false)
starving true true is = absurd (true≢false (sym is))
starving true false is = (refl, refl)
starving false reads is = absurd (true≢false (sym is))

none_waits : (pieces : List Piece) → is_empty pieces ≡ true → pieces ≡ []
none_waits [] is = refl
none_waits (first ∷ pieces) is = absurd (true≢false (sym is))

open_now : (now start closed : Bool) → now ≡ (start && not closed) → now ≡ true → (start ≡ true) × (closed ≡ false)
open_now now true false is opened = (refl, refl)
open_now now true true is opened = absurd (true≢false (sym opened ∙ is))
open_now now false closed is opened = absurd (true≢false (sym opened ∙ is))

shut_now : (now start closed : Bool) → now ≡ (start && not closed) → now ≡ false → start ≡ true → closed ≡ true
shut_now now true true is shut opened = refl
shut_now now true false is shut opened = absurd (true≢false (sym is ∙ shut))
shut_now now false closed is shut opened = absurd (true≢false (sym opened))

module _ {Machine : Type 0} (state : Machine → State) (cells : List (Cell NodeKind)) (status : StatusRule) (valid : Valid cells status)
    (plan : Plan) (planned : IsPlanOf cells plan) (wired : IsWired plan) (ports : List Ports) (machines : List Machine) (rooms : List (Option ℕ)) (wires : List (List Piece))
    (left taken : ℕ → Option (List ℕ)) (follows : Follows plan ports (length wires)) (reached : Reached state plan machines wires left taken)
    (all_ports : length ports ≡ length cells) (all_machines : length machines ≡ length cells)
    (cap : Option ℕ) (has_rooms : HasRooms cells cap rooms) (some_room : IfSome cap (λ room. 1 ≤ room))
    (stuck : IsStuck state ports machines rooms wires) where
  -- a node, with its machine and its ports
  record Stands (node : ℕ) (cell : Cell NodeKind) : Type 0 where
    at_node : slice_get cells node ≡ Some cell
    machine : Machine
    at_machine : slice_get machines node ≡ Some machine
    own : Ports
    at_own : slice_get ports node ≡ Some own

  stand : (node : ℕ) (cell : Cell NodeKind) → slice_get cells node ≡ Some cell → Stands node cell
  stand node cell at_node =
      let within = slice_get_within cells node cell at_node in
      let machine = some_at machines node (omega (arith, within, all_machines)) in
      let own = some_at ports node (omega (arith, within, all_ports)) in
      record { at_node = at_node; machine = machine.0; at_machine = machine.1; own = own.0; at_own = own.1 }

  module _ {node : ℕ} {cell : Cell NodeKind} (here : Stands node cell) where
    ins_are : plan.ins node ≡ here.own.ins.items
    ins_are = follows.ins node here.own here.at_own

    outs_are : plan.outs node ≡ here.own.outs.items
    outs_are = follows.outs node here.own here.at_own

    -- what its machine does next is what it may, and moves nothing
    halts_at : (next_act : Act) → (state here.machine).act ≡ next_act → is_stuck (progress_at next_act here.own.ins.items here.own.outs.items rooms wires) here.own.reads ≡ true
    halts_at next_act is = subst (λ (it : Act). is_stuck (progress_at it here.own.ins.items here.own.outs.items rooms wires) here.own.reads ≡ true) is ((stuck.each node).moves_none here.machine here.own here.at_machine here.at_own)

    may_do : (next_act : Act) → (state here.machine).act ≡ next_act → MayDo (state here.machine) next_act
    may_do next_act is = subst (λ (it : Act). MayDo (state here.machine) it) is ((stuck.each node).may here.machine here.at_machine)

    -- an in that is open is an in of the node, and nothing has closed it
    record OpenIn (port : ℕ) : Type 0 where
      edge : ℕ
      stands : slice_get (plan.ins node) port ≡ Some edge
      same : get_or here.own.ins.items port 0 ≡ edge
      unclosed : are_closed (reached.took edge) ≡ false

    open_in : (port : ℕ) → (state here.machine).takes port ≡ true → OpenIn port
    open_in port opened =
        let run = reached.runs node here.machine here.at_machine in
        let parts = open_now ((state here.machine).takes port) ((plan.starts node).takes port) (are_closed (at_ports (plan.ins node) reached.took port)) (run.ins port) opened in
        let found = some_at (plan.ins node) port (follows.in_ports node port parts.0) in
        record {
          edge = found.0;
          stands = found.1;
          same = get_or_from_slice_get here.own.ins.items port found.0 0 (ap (λ (edges : List ℕ). slice_get edges port) (sym ins_are) ∙ found.1);
          unclosed = ap are_closed (sym (at_ports-stands (plan.ins node) reached.took port found.0 found.1)) ∙ parts.1;
        }

    -- an out that is open is an out of the node
    open_out : (port : ℕ) → (state here.machine).puts port ≡ true → (edge : ℕ) × (slice_get (plan.outs node) port ≡ Some edge) × (get_or here.own.outs.items port 0 ≡ edge)
    open_out port opened =
        let run = reached.runs node here.machine here.at_machine in
        let parts = open_now ((state here.machine).puts port) ((plan.starts node).puts port) (are_closed (at_ports (plan.outs node) reached.put port)) (run.outs port) opened in
        let found = some_at (plan.outs node) port (follows.out_ports node port parts.0) in
        (found.0, found.1, get_or_from_slice_get here.own.outs.items port found.0 0 (ap (λ (edges : List ℕ). slice_get edges port) (sym outs_are) ∙ found.1))

    -- a machine that has stopped has taken each in to its end, and ended each out
    took_all : (port edge : ℕ) → slice_get (plan.ins node) port ≡ Some edge → (plan.starts node).takes port ≡ true → (state here.machine).takes port ≡ false
        → are_closed (reached.took edge) ≡ true
    took_all port edge stands starts shut =
        let run = reached.runs node here.machine here.at_machine in
        ap are_closed (sym (at_ports-stands (plan.ins node) reached.took port edge stands))
        ∙ shut_now ((state here.machine).takes port) ((plan.starts node).takes port) (are_closed (at_ports (plan.ins node) reached.took port)) (run.ins port) shut starts

    put_all : (port edge : ℕ) → slice_get (plan.outs node) port ≡ Some edge → (plan.starts node).puts port ≡ true → (state here.machine).puts port ≡ false
        → are_closed (reached.put edge) ≡ true
    put_all port edge stands starts shut =
        let run = reached.runs node here.machine here.at_machine in
        ap are_closed (sym (at_ports-stands (plan.outs node) reached.put port edge stands))
        ∙ shut_now ((state here.machine).puts port) ((plan.starts node).puts port) (are_closed (at_ports (plan.outs node) reached.put port)) (run.outs port) shut starts

  -- a node that takes an edge is no source, where the edge is its own
  no_source : (node : ℕ) (cell : Cell NodeKind) (edge : ℕ) → slice_get cells node ≡ Some cell → has edge cell.ins ≡ true → is_source cell.kind ≡ false
  no_source node cell edge at_node there = by_test (is_source cell.kind) refl
    where
      by_test : (test : Bool) → is_source cell.kind ≡ test → test ≡ false
      by_test true is = absurd (true≢false (sym there ∙ ap (has edge) (source_has cells status plan valid planned node cell at_node is).0))
      by_test false is = refl

  giver : (node : ℕ) (cell : Cell NodeKind) (edge : ℕ) → slice_get cells node ≡ Some cell → has edge cell.ins ≡ true → GivesBefore cells edge node
  giver node cell edge at_node there =
      let found = giver_before [] cells (sym (leads_on-each cells) ∙ valid.edges.later) node cell edge at_node there in
      let low = found.before in
      record { node = found.node; cell = found.cell; at_node = found.at_node; among_outs = found.among_outs; before = omega (arith, low) }

  -- an edge that a node gives is an open out of its machine at the beginning
  gives_at : (node : ℕ) (cell : Cell NodeKind) (edge : ℕ) → slice_get cells node ≡ Some cell → has edge cell.outs ≡ true
      → (port : ℕ) × ((slice_get (plan.outs node) port ≡ Some edge) × ((plan.starts node).puts port ≡ true))
  gives_at node cell edge at_node there = by_test (is_writer cell.kind) refl
    where
      own : (port : ℕ) × (slice_get cell.outs port ≡ Some edge)
      own = port_of cell.outs edge there

      begins : (port : ℕ) → (plan.starts node).puts port ≡ nat_lt port (if is_writer cell.kind then suc (length cell.outs) else length cell.outs)
      begins port = (planned.begins node cell at_node).puts_all port

      by_test : (test : Bool) → is_writer cell.kind ≡ test → (port : ℕ) × ((slice_get (plan.outs node) port ≡ Some edge) × ((plan.starts node).puts port ≡ true))
      by_test true is =
          let within = slice_get_within cell.outs own.0 edge own.1 in (
            suc own.0,
            (
              ap (λ (edges : List ℕ). slice_get edges (suc own.0)) (writer_edges cells status plan valid planned node cell at_node is) ∙ own.1,
              begins (suc own.0) ∙ ap (λ (test : Bool). nat_lt (suc own.0) (if test then suc (length cell.outs) else length cell.outs)) is
                  ∙ lt-ltb (suc own.0) (suc (length cell.outs)) (omega (arith, within)),
            ),
          )
      by_test false is = (
        own.0,
        (
          ap (λ (edges : List ℕ). slice_get edges own.0) (own_outs cells status plan valid planned node cell at_node is) ∙ own.1,
          begins own.0 ∙ ap (λ (test : Bool). nat_lt own.0 (if test then suc (length cell.outs) else length cell.outs)) is
              ∙ lt-ltb own.0 (length cell.outs) (slice_get_within cell.outs own.0 edge own.1),
        ),
      )

  gives_in_plan : (node : ℕ) (cell : Cell NodeKind) (edge : ℕ) → slice_get cells node ≡ Some cell → has edge cell.outs ≡ true → has edge (plan.outs node) ≡ true
  gives_in_plan node cell edge at_node there = let out = gives_at node cell edge at_node there in stands-has (plan.outs node) out.0 edge out.1.0

  -- a full edge is the one in of a node, and something waits on it
  full_edge : (edge : ℕ) → is_full (room_on rooms edge) (waiting_on wires edge) ≡ true → TakesAlone cells edge × (is_empty (waiting_on wires edge) ≡ false)
  full_edge edge full = by_sole (list_any (λ cell. is_sole edge cell.ins) cells) refl (ap (λ (room : Option ℕ). is_full room (waiting_on wires edge)) (sym (has_rooms edge)) ∙ full)
    where
      by_sole : (sole : Bool) → list_any (λ cell. is_sole edge cell.ins) cells ≡ sole → is_full (if sole then cap else None) (waiting_on wires edge) ≡ true
          → TakesAlone cells edge × (is_empty (waiting_on wires edge) ≡ false)
      by_sole true is at_cap = (sole_taker cells edge is, full_some cap (waiting_on wires edge) some_room at_cap)
      by_sole false is at_cap = absurd (true≢false (sym at_cap))

  -- no node waits: the one behind the full edge would have to wait too, and so on to the last
  never_waits : (fuel node : ℕ) (cell : Cell NodeKind) (here : Stands node cell) (port : ℕ) → length cells ≤ node + fuel → (state here.machine).act ≡ doing.Put port → ⊥
  never_waits zero node cell here port enough is =
      let within = slice_get_within cells node cell here.at_node in omega (arith, within, enough)
  never_waits (suc fuel) node cell here port enough is =
      let out = open_out here port (may_do here (doing.Put port) is) in
      let edge : ℕ = out.0 in
      let full = not_stuck (is_full (room_on rooms edge) (waiting_on wires edge)) here.own.reads
      (subst (λ (it : ℕ). is_stuck (if is_full (room_on rooms it) (waiting_on wires it) then progress.Waits else progress.Gave) here.own.reads ≡ true) out.2 (halts_at here (doing.Put port) is)) in
      behind edge (stands-has (plan.outs node) port edge out.1) (full_edge edge full).0 (full_edge edge full).1 (never_waits fuel)
    where
      behind : (edge : ℕ) → has edge (plan.outs node) ≡ true → TakesAlone cells edge → is_empty (waiting_on wires edge) ≡ false
          → ((node : ℕ) (cell : Cell NodeKind) (here : Stands node cell) (port : ℕ) → length cells ≤ node + fuel → (state here.machine).act ≡ doing.Put port → ⊥) → ⊥
      behind edge gives taker some go_on = by_act (state next.machine).act refl
        where
          next : Stands taker.node taker.cell
          next = stand taker.node taker.cell taker.at_node

          takes : has edge taker.cell.ins ≡ true
          takes = stands-has taker.cell.ins 0 edge (ap (λ (edges : List ℕ). slice_get edges 0) taker.alone)

          sole : plan.ins taker.node ≡ edge ∷ []
          sole = own_ins cells status plan valid planned taker.node taker.cell taker.at_node (no_source taker.node taker.cell edge taker.at_node takes) ∙ taker.alone

          later : node < taker.node
          later =
              let found = giver taker.node taker.cell edge taker.at_node takes in
              let same = wired.one_giver node found.node edge gives (gives_in_plan found.node found.cell edge found.at_node found.among_outs) in
              let low = found.before in omega (arith, same, low)

          only_port : (port : ℕ) → (edge' : ℕ) → slice_get (edge ∷ []) port ≡ Some edge' → edge' ≡ edge
          only_port zero edge' at = cc
          only_port (suc port) edge' at = absurd (cc)

          starts : (plan.starts taker.node).takes 0 ≡ true
          starts =
              (planned.begins taker.node taker.cell taker.at_node).takes_all 0
              ∙ ap (λ (test : Bool). nat_lt 0 (if test then 1 else length taker.cell.ins)) (no_source taker.node taker.cell edge taker.at_node takes)
              ∙ ap (λ (edges : List ℕ). nat_lt 0 (length edges)) taker.alone

          by_act : (next_act : Act) → (state next.machine).act ≡ next_act → ⊥
          by_act (doing.Take port') is' =
              let in_ = open_in next port' (may_do next (doing.Take port') is') in
              let same : in_.edge ≡ edge = only_port port' in_.edge (ap (λ (edges : List ℕ). slice_get edges port') (sym sole) ∙ in_.stands) in
              let empty = (starving (is_empty (waiting_on wires in_.edge)) next.own.reads
              (subst (λ (it : ℕ). is_stuck (if is_empty (waiting_on wires it) then progress.Starves else progress.Took) next.own.reads ≡ true) in_.same (halts_at next (doing.Take port') is'))).0 in
              true≢false (sym empty ∙ ap (λ (it : ℕ). is_empty (waiting_on wires it)) same ∙ some)
          by_act (doing.Put port') is' = go_on taker.node taker.cell next port' (omega (arith, later, enough)) is'
          by_act doing.Stop is' =
              let closed = took_all next 0 edge (ap (λ (edges : List ℕ). slice_get edges 0) sole) starts ((may_do next doing.Stop is').0 0) in
              let none = nothing-behind (reached.took edge) (waiting_on wires edge) (ap is_clean (sym (reached.queued edge)) ∙ reached.clean edge) closed in
              true≢false (sym (ap is_empty none) ∙ some)

  -- no node starves: the one that gives it the edge would have to starve too, and so on to the first
  never_starves : (bound node : ℕ) (cell : Cell NodeKind) (here : Stands node cell) (port : ℕ) → node < bound → (state here.machine).act ≡ doing.Take port → ⊥
  never_starves zero node cell here port low is = omega (arith, low)
  never_starves (suc bound) node cell here port low is =
      let in_ = open_in here port (may_do here (doing.Take port) is) in
      let told = starving (is_empty (waiting_on wires in_.edge)) here.own.reads
      (subst (λ (it : ℕ). is_stuck (if is_empty (waiting_on wires it) then progress.Starves else progress.Took) here.own.reads ≡ true) in_.same (halts_at here (doing.Take port) is)) in
      let inside : is_source cell.kind ≡ false = sym (planned.reads node cell here.at_node) ∙ follows.reads node here.own here.at_own ∙ told.1 in
      let takes : has in_.edge cell.ins ≡ true =
      ap (has in_.edge) (sym (own_ins cells status plan valid planned node cell here.at_node inside)) ∙ stands-has (plan.ins node) port in_.edge in_.stands in
      before in_.edge (giver node cell in_.edge here.at_node takes) (none_waits (waiting_on wires in_.edge) told.0) in_.unclosed (never_starves bound)
    where
      before : (edge : ℕ) → GivesBefore cells edge node → waiting_on wires edge ≡ [] → are_closed (reached.took edge) ≡ false
          → ((node : ℕ) (cell : Cell NodeKind) (here : Stands node cell) (port : ℕ) → node < bound → (state here.machine).act ≡ doing.Take port → ⊥) → ⊥
      before edge found none unclosed go_on = by_act (state next.machine).act refl
        where
          next : Stands found.node found.cell
          next = stand found.node found.cell found.at_node

          own : (port : ℕ) × ((slice_get (plan.outs found.node) port ≡ Some edge) × ((plan.starts found.node).puts port ≡ true))
          own = gives_at found.node found.cell edge found.at_node found.among_outs

          by_act : (next_act : Act) → (state next.machine).act ≡ next_act → ⊥
          by_act (doing.Take port') is' = let lower = found.before in go_on found.node found.cell next port' (omega (arith, lower, low)) is'
          by_act (doing.Put port') is' = never_waits (length cells) found.node found.cell next port' (omega arith) is'
          by_act doing.Stop is' =
              let closed = put_all next own.0 edge own.1.0 own.1.1 ((may_do next doing.Stop is').1 own.0) in
              let all : reached.put edge ≡ reached.took edge =
              reached.queued edge ∙ ap (λ (rest : List Piece). reached.took edge ++ rest) none ∙ append-nil (reached.took edge) in
              true≢false (sym closed ∙ ap are_closed all ∙ unclosed)

  -- so each machine has stopped
  module _ (node : ℕ) (machine : Machine) (at : slice_get machines node ≡ Some machine) where
    its_cell : (cell : Cell NodeKind) × (slice_get cells node ≡ Some cell)
    its_cell = let within = slice_get_within machines node machine at in some_at cells node (omega (arith, within, all_machines))

    its_stand : Stands node its_cell.0
    its_stand = record {
      at_node = its_cell.1;
      machine = machine;
      at_machine = at;
      own = (stand node its_cell.0 its_cell.1).own;
      at_own = (stand node its_cell.0 its_cell.1).at_own;
    }

    pub never_stuck : (state machine).act ≡ doing.Stop
    unfolding its_stand
    never_stuck = by_act (state its_stand.machine).act refl
      where
        by_act : (next_act : Act) → (state its_stand.machine).act ≡ next_act → (state machine).act ≡ doing.Stop
        by_act (doing.Take port) is = absurd (never_starves (suc node) node its_cell.0 its_stand port (omega arith) is)
        by_act (doing.Put port) is = absurd (never_waits (length cells) node its_cell.0 its_stand port (omega arith) is)
        by_act doing.Stop is = is

    -- with all its ports shut
    pub shut_when_stuck : ((port : ℕ) → (state machine).takes port ≡ false) × ((port : ℕ) → (state machine).puts port ≡ false)
    unfolding its_stand
    shut_when_stuck = may_do its_stand doing.Stop never_stuck

-- in a network over texts no source starves, so it is stuck where no step moves a piece
module _ {Machine : Type 0} (state : Machine → State) (cells : List (Cell NodeKind)) (status : StatusRule) (valid : Valid cells status) (inputs : ℕ → List ℕ)
    (moves : ℕ) (failed : ℕ → Bool) (ports : List Ports) (machines : List Machine) (rooms : List (Option ℕ)) (wires : List (List Piece)) (runs : RunsOver state cells inputs moves failed ports machines wires)
    (still : IsStill state ports machines rooms wires) where
  module _ (node : ℕ) (machine : Machine) (own : Ports) (at : slice_get machines node ≡ Some machine) (at_own : slice_get ports node ≡ Some own) where
    -- a node that would take from an edge on which nothing waits is no source
    is_inside : (port : ℕ) → (state machine).takes port ≡ true → is_empty (waiting_on wires (get_or own.ins.items port 0)) ≡ true → own.reads ≡ false
    is_inside port opened empty = by_test own.reads refl
      where
        -- a source has its one in open, and its end waits there
        sourced : IsEndAt cells status runs.goes.plan valid runs.planned is_source node → ⊥
        sourced source =
            let sole : runs.goes.plan.ins node ≡ outer_edge cells node ∷ [] =
            source_edge cells status runs.goes.plan valid runs.planned node source.cell source.at_node source.is in
            let run = runs.goes.reached.runs node machine at in
            let starts = (open_now ((state machine).takes port) ((runs.goes.plan.starts node).takes port) (are_closed (at_ports (runs.goes.plan.ins node) runs.goes.reached.took port)) (run.ins port) opened).0 in
            let within = runs.goes.follows.in_ports node port starts in
            let count = ap (λ (edges : List ℕ). length edges) sole in
            let first : port ≡ 0 = omega (arith, within, count) in
            let closed = runs.brought node source.cell machine source.at_node at source.is (ap (state machine).takes (sym first) ∙ opened) in
            let edge : get_or own.ins.items port 0 ≡ outer_edge cells node =
            ap (λ (it : ℕ). get_or own.ins.items it 0) first
            ∙ ap (λ (edges : List ℕ). get_or edges 0 0) (sym (runs.goes.follows.ins node own at_own) ∙ sole) in
            let none = none_waits (waiting_on wires (outer_edge cells node)) (ap (λ (it : ℕ). is_empty (waiting_on wires it)) (sym edge) ∙ empty) in
            true≢false (sym closed ∙ ap are_closed none)

        by_test : (test : Bool) → own.reads ≡ test → test ≡ false
        by_test true is = absurd (sourced (source_at cells status runs.goes.plan valid runs.planned node (runs.goes.follows.reads node own at_own ∙ is)))
        by_test false is = refl

    stuck_here : is_stuck (progress_at (state machine).act own.ins.items own.outs.items rooms wires) own.reads ≡ true
    stuck_here = by_act (state machine).act (still.may node machine at) (still.moves_none node machine own at at_own)
      where
        starves : (empty reads : Bool) → has_moved (if empty then progress.Starves else progress.Took) ≡ false → (empty ≡ true → reads ≡ false)
            → is_stuck (if empty then progress.Starves else progress.Took) reads ≡ true
        starves true reads rests inside = ap not (inside refl)
        starves false reads rests inside = absurd (true≢false rests)

        waits : (full reads : Bool) → has_moved (if full then progress.Waits else progress.Gave) ≡ false → is_stuck (if full then progress.Waits else progress.Gave) reads ≡ true
        waits true reads rests = refl
        waits false reads rests = absurd (true≢false rests)

        by_act : (next_act : Act) → MayDo (state machine) next_act → has_moved (progress_at next_act own.ins.items own.outs.items rooms wires) ≡ false
            → is_stuck (progress_at next_act own.ins.items own.outs.items rooms wires) own.reads ≡ true
        by_act (doing.Take port) may rests = starves (is_empty (waiting_on wires (get_or own.ins.items port 0))) own.reads rests (is_inside port may)
        by_act (doing.Put port) may rests = waits (is_full (room_on rooms (get_or own.outs.items port 0)) (waiting_on wires (get_or own.outs.items port 0))) own.reads rests
        by_act doing.Stop may rests = refl

  -- so each machine has stopped
  pub still_stops : length ports ≡ length cells → (cap : Option ℕ) → HasRooms cells cap rooms → IfSome cap (λ room. 1 ≤ room)
      → (node : ℕ) (machine : Machine) → slice_get machines node ≡ Some machine → (state machine).act ≡ doing.Stop
  still_stops all_ports cap has_rooms some_room =
      never_stuck state cells status valid runs.goes.plan runs.planned runs.goes.wired ports machines rooms wires (λ node. Some []) (λ node. Some []) runs.goes.follows runs.goes.reached
      all_ports runs.counted cap has_rooms some_room
      (record { each = λ node. record { moves_none = λ machine own at at_own. stuck_here node machine own at at_own; may = λ machine at. still.may node machine at } })
