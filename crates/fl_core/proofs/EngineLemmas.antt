-- What a run of a graph's network leaves, from where it began.
use Rattle.std.proofs.Common.{◌≡◌, ℕ, zero, suc, ◌<◌, ◌≤◌, List, [], ◌∷◌, Bool, true, false, if◌then◌else◌, length, map, slice_get, get_or, IfSome, Option, Some, refl, ap, sym, subst, ◌∙◌, arith}
use Rattle.std.proofs.lemmas.List.{length-map}
use Rattle.std.proofs.lemmas.Option.{slice_get_within}
use Rattle.ps_world.specs.Told.{then_bytes, GrewByPrefix}
use Rattle.fl_graph.specs.declared.graphs.Cell.{Cell}
use Rattle.fl_graph.specs.Machines.{State}
use Rattle.fl_graph.specs.Valid.{Valid}
use Rattle.fl_graph.specs.declared.graphs.StatusRule.{StatusRule}
use Rattle.fl_graph.specs.declared.kinds.NodeKind.{NodeKind}
use Rattle.fl_graph.specs.declared.pieces.Act.TheVariants as doing
use Rattle.fl_graph.specs.declared.pieces.Piece.{Piece}
use Rattle.fl_classes.specs.Flow.{flow, is_source, only, selects, selections}
use Rattle.fl_classes.specs.Kinds.{is_writer}
use Rattle.fl_net.specs.Ends.{IsReadOff}
use Rattle.fl_net.specs.Plans.{outer_edge, AreTold, HasRooms, IsNetOf}
use Rattle.fl_net.specs.Runs.{AreDrained, Follows, Halted, Halts, Leads}
use Rattle.fl_net.specs.Steps.{waiting_on}
use Rattle.fl_net.specs.Stuck.{IsStuck}
use Rattle.fl_net.specs.declared.nets.Ports.{Ports}
use Rattle.fl_net.proofs.FinishLemmas.{halted_writes, finished_reads, finished_writes, finished_selects}
use Rattle.fl_net.proofs.HaltLemmas.{reached_halts}
use Rattle.fl_net.proofs.LawLemmas.{selections_of_the_flow}
use Rattle.fl_net.proofs.OutsideLemmas.{some_at}
use Rattle.fl_net.proofs.ProgressLemmas.{never_stuck, shut_when_stuck}
use Rattle.fl_net.proofs.StartLemmas.{net_plan}
use Rattle.fl_net.proofs.StuckLemmas.{said_of}

some_is : {X : Type 0} (one other : X) → Some one ≡ Some other → one ≡ other
some_is one other is = cc

-- a list of what a function tells of each, at a place
map_at : {X : Type 0} (tell : X → Bool) (items : List X) (place : ℕ) (item : X) → slice_get items place ≡ Some item → get_or (map tell items) place false ≡ tell item
map_at tell [] place item at = absurd (cc)
map_at tell (first ∷ items) zero item at = ap tell (some_is first item at)
map_at tell (first ∷ items) (suc place) item at = map_at tell items place item at

module _ {Machine : Type 0} (state : Machine → State) (cells : List (Cell NodeKind)) (status : StatusRule) (valid : Valid cells status)
    (ports : List Ports) (machines : List Machine) (wires : List (List Piece)) (net : IsNetOf state cells ports machines wires) (left taken : ℕ → Option (List ℕ)) where
  -- a run that halted
  pub halted_front : (taken' : ℕ → Option (List ℕ)) → Halts state ports machines wires left taken taken'
      → (sources : List (List ℕ)) → AreTold sources cells left → (node : ℕ) (cell : Cell NodeKind) → slice_get cells node ≡ Some cell → is_writer cell.kind ≡ true
      → GrewByPrefix (taken node) (taken' node) (only (map (flow cells sources) cell.ins))
  halted_front taken' halts sources told node cell at writes =
      let own = net_plan state cells status valid ports machines wires net left taken in
      halted_writes cells status own.0 valid own.1 taken' (subst (λ (nodes : ℕ). Halted own.0 nodes taken') net.all_machines (halts own.0 own.2 own.3 own.4)) sources told node cell at writes

  module _ (machines' : List Machine) (wires' : List (List Piece)) (left' taken' : ℕ → Option (List ℕ)) (counted : length machines' ≡ length machines)
      (leads : Leads state ports machines machines' wires wires' left left' taken taken') where
    -- a run that has come anywhere
    pub reached_front : (sources : List (List ℕ)) → AreTold sources cells left → (node : ℕ) (cell : Cell NodeKind) → slice_get cells node ≡ Some cell → is_writer cell.kind ≡ true
        → GrewByPrefix (taken node) (taken' node) (only (map (flow cells sources) cell.ins))
    reached_front sources told node cell at writes =
        let own = net_plan state cells status valid ports machines wires net left taken in
        halted_writes cells status own.0 valid own.1 taken'
        (reached_halts state own.0 machines' wires' left' taken' (leads own.0 own.2 own.3 own.4) (length cells) (counted ∙ net.all_machines)) sources told node cell at writes

    pub reached_whole : (node : ℕ) (machine : Machine) → slice_get machines' node ≡ Some machine → (state machine).broken ≡ false
    reached_whole node machine at =
        let own = net_plan state cells status valid ports machines wires net left taken in
        ((leads own.0 own.2 own.3 own.4).sound own.7).whole node machine at

    -- a run in which nothing moves any more has stopped
    module _ (cap : Option ℕ) (rooms rooms' : List (Option ℕ)) (has_rooms : HasRooms cells cap rooms) (some_room : IfSome cap (λ room. 1 ≤ room))
        (width : length wires' ≡ length wires) (ports' : List Ports) (same_ports : ports' ≡ ports) (same_rooms : rooms' ≡ rooms)
        (stuck : IsStuck state ports' machines' rooms' wires') where
      stuck_here : IsStuck state ports machines' rooms wires'
      stuck_here =
          said_of state ports machines' rooms wires'
          (IsStuck state) ports' machines' rooms' wires' same_ports refl same_rooms refl stuck

      pub all_stop : (node : ℕ) (machine : Machine) → slice_get machines' node ≡ Some machine → (state machine).act ≡ doing.Stop
      all_stop =
          let own = net_plan state cells status valid ports machines wires net left taken in
          never_stuck state cells status valid own.0 own.1 own.2 ports machines' rooms wires' left' taken'
          (subst (λ (count : ℕ). Follows own.0 ports count) (sym width) own.3) (leads own.0 own.2 own.3 own.4) net.all_ports (counted ∙ net.all_machines) cap has_rooms some_room stuck_here

      pub all_shut : (node : ℕ) (machine : Machine) → slice_get machines' node ≡ Some machine
          → ((port : ℕ) → (state machine).takes port ≡ false) × ((port : ℕ) → (state machine).puts port ≡ false)
      all_shut =
          let own = net_plan state cells status valid ports machines wires net left taken in
          shut_when_stuck state cells status valid own.0 own.1 own.2 ports machines' rooms wires' left' taken'
          (subst (λ (count : ℕ). Follows own.0 ports count) (sym width) own.3) (leads own.0 own.2 own.3 own.4) net.all_ports (counted ∙ net.all_machines) cap has_rooms some_room stuck_here

    -- a run that has finished
    module _ (stopped : (node : ℕ) (machine : Machine) → slice_get machines' node ≡ Some machine
        → ((port : ℕ) → (state machine).takes port ≡ false) × ((port : ℕ) → (state machine).puts port ≡ false)) where
      pub done_reads : (node : ℕ) (cell : Cell NodeKind) → slice_get cells node ≡ Some cell → is_source cell.kind ≡ true → IsReadOff (left node) (left' node)
      done_reads =
          let own = net_plan state cells status valid ports machines wires net left taken in
          finished_reads state cells status own.0 valid own.1 machines' wires' left' taken' (leads own.0 own.2 own.3 own.4) (counted ∙ net.all_machines) ((leads own.0 own.2 own.3 own.4).sound own.7) stopped

      module _ (sources : List (List ℕ)) (told : AreTold sources cells left) where
        pub done_writes : AreDrained ports wires' → (node : ℕ) (cell : Cell NodeKind) → slice_get cells node ≡ Some cell → is_writer cell.kind ≡ true
            → taken' node ≡ then_bytes (taken node) (only (map (flow cells sources) cell.ins))
        done_writes drained node cell at writes =
            let own = net_plan state cells status valid ports machines wires net left taken in
            finished_writes state cells status own.0 valid own.1 machines' wires' left' taken' (leads own.0 own.2 own.3 own.4) (counted ∙ net.all_machines) ((leads own.0 own.2 own.3 own.4).sound own.7) stopped sources told node cell at writes
            (outer_drained node cell at writes)
          where
            outer_drained : (node : ℕ) (cell : Cell NodeKind) → slice_get cells node ≡ Some cell → is_writer cell.kind ≡ true → waiting_on wires' (outer_edge cells node) ≡ []
            outer_drained node cell at writes =
                let within = slice_get_within cells node cell at in
                let all = net.all_ports in
                let own = some_at ports node (omega (arith, within, all)) in
                let outs : own.0.outs.items ≡ outer_edge cells node ∷ cell.outs =
                net.outs node cell own.0 at own.1 ∙ ap (λ (test : Bool). if test then outer_edge cells node ∷ cell.outs else cell.outs) writes in
                ap (waiting_on wires') (sym (ap (λ (edges : List ℕ). get_or edges 0 0) outs))
                ∙ drained node own.0 own.1 (net.writes node cell own.0 at own.1 ∙ writes)

        -- what each node selects, in the order of the nodes
        pub done_selects : (node : ℕ) (machine : Machine) → slice_get machines' node ≡ Some machine
            → get_or (selections cells sources) node false ≡ (state machine).selects (λ _. [])
        done_selects node machine at =
            let own = net_plan state cells status valid ports machines wires net left taken in
            let size : length machines' ≡ length cells = counted ∙ net.all_machines in
            let here = some_at cells node (subst (λ (nodes : ℕ). node < nodes) size (slice_get_within machines' node machine at)) in
            ap (λ (told : List Bool). get_or told node false) (selections_of_the_flow cells status valid sources)
            ∙ map_at (λ (cell : Cell NodeKind). selects cell.kind (map (flow cells sources) cell.ins)) cells node here.0 here.1
            ∙ sym (finished_selects state cells status own.0 valid own.1 machines' wires' left' taken' (leads own.0 own.2 own.3 own.4) size ((leads own.0 own.2 own.3 own.4).sound own.7) stopped sources told node here.0 machine here.1 at (λ _. []))

        pub done_counted : length (selections cells sources) ≡ length machines'
        done_counted =
            ap (λ (told : List Bool). length told) (selections_of_the_flow cells status valid sources)
            ∙ length-map cells (λ (cell : Cell NodeKind). selects cell.kind (map (flow cells sources) cell.ins)) ∙ sym (counted ∙ net.all_machines)
