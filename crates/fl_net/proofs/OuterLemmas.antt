-- What waits for the outside in a network over texts.
use Rattle.std.proofs.Common.{◌≡◌, ℕ, suc, List, [], ◌∷◌, ◌++◌, Bool, true, false, ◌||◌, if◌then◌else◌, length, map, slice_get, Some, IfOk, OnErr, Result, Ok, Err, Option, refl, ap, sym, subst, ◌∙◌, ◌==◌, eq-eqb}
use Rattle.std.proofs.lemmas.Bool.{true≢false}
use Rattle.ps_lines.specs.declared.memory.Memory.{Memory}
use Rattle.ps_world.specs.Told.{then_bytes}
use Rattle.fl_graph.specs.declared.graphs.Cell.{Cell}
use Rattle.ps_lines.specs.Texts.{BeginsWith}
use Rattle.fl_graph.specs.Machines.{State, is_take}
use Rattle.fl_graph.specs.Runs.{text_of, is_end, has_end, Run}
use Rattle.fl_graph.specs.Valid.{Valid}
use Rattle.fl_graph.specs.declared.graphs.StatusRule.{StatusRule}
use Rattle.fl_graph.specs.declared.kinds.NodeKind.{NodeKind}
use Rattle.fl_graph.specs.declared.pieces.Piece.{Piece}
use Rattle.fl_classes.specs.Flow.{flow, only}
use Rattle.fl_graph.proofs.StateLemmas.{Run-weaken}
use Rattle.fl_net.specs.Inputs.{marked, AreBrought, RunsOver}
use Rattle.fl_classes.specs.Kinds.{is_writer}
use Rattle.fl_net.specs.Laws.{Carries}
use Rattle.fl_net.specs.Plans.{outer_edge, AreTold, IsPlanOf}
use Rattle.fl_net.specs.Moves.{moves_of}
use Rattle.fl_net.specs.Runs.{Plan, Follows, IsWired, Reached}
use Rattle.fl_net.specs.Steps.{has_moved, waiting_on}
use Rattle.fl_net.specs.declared.nets.Ports.{Ports}
use Rattle.fl_net.specs.declared.steps.Progress.{Progress}
use Rattle.fl_net.proofs.FinishLemmas.{writer_carries, writer_ended}
use Rattle.fl_net.proofs.HaltLemmas.{reached_halts}
use Rattle.fl_net.proofs.NetLemmas.{FailsBy, LeadsBy}
use Rattle.fl_graph.proofs.PieceLemmas.{text_of-append}
use Rattle.fl_net.proofs.PlanLemmas.{writer_edge}

some_is : {X : Type 0} (one other : X) → Some one ≡ Some other → one ≡ other
some_is one other is = cc

-- an end behind others is there
has_end-behind : (front back : List Piece) → has_end back ≡ true → has_end (front ++ back) ≡ true
has_end-behind [] back ended = ended
has_end-behind (first ∷ front) back ended = by_test (is_end first) (has_end-behind front back ended)
  where
    by_test : (test : Bool) {rest : Bool} → rest ≡ true → (test || rest) ≡ true
    by_test true is = refl
    by_test false is = is

-- a step goes on with a run over texts
pub steps_over : {Machine : Type 0} (state : Machine → State) (ports : List Ports) (machines machines' : List Machine) (wires wires' : List (List Piece)) (result : Result Progress Memory)
    → IfOk result (λ step. LeadsBy state ports step machines machines' wires wires')
    → length machines' ≡ length machines → length wires' ≡ length wires
    → IfOk result (λ _. (cells : List (Cell NodeKind)) (inputs : ℕ → List ℕ) (moves : ℕ) (failed : ℕ → Bool) → RunsOver state cells inputs moves failed ports machines wires → AreBrought state cells machines' wires')
    → IfOk result (λ step. (cells : List (Cell NodeKind)) (inputs : ℕ → List ℕ) (moves : ℕ) (failed : ℕ → Bool) → RunsOver state cells inputs moves failed ports machines wires
    → RunsOver state cells inputs (if has_moved step then suc moves else moves) failed ports machines' wires')
steps_over state ports machines machines' wires wires' (Ok step) leads counted width brings = λ cells inputs moves failed runs.
    let on = leads (λ _. Some []) (λ _. Some []) runs.goes.plan runs.goes.wired runs.goes.follows runs.goes.reached in
    record {
      goes = record {
        plan = runs.goes.plan;
        wired = runs.goes.wired;
        follows = subst (λ (count : ℕ). Follows runs.goes.plan ports count) (sym width) runs.goes.follows;
        reached = on.after;
      };
      planned = runs.planned;
      counted = counted ∙ runs.counted;
      told = runs.told;
      untaken = runs.untaken;
      marked = runs.marked;
      brought = brings cells inputs moves failed runs;
      moved =
          ap (λ (it : ℕ). if has_moved step then suc it else it)
          (runs.moved ∙ ap (λ (nodes : ℕ). moves_of runs.goes.plan nodes runs.goes.reached.took runs.goes.reached.put) (sym runs.counted))
          ∙ sym on.moves ∙ ap (λ (nodes : ℕ). moves_of runs.goes.plan nodes on.after.took on.after.put) runs.counted;
    }
steps_over state ports machines machines' wires wires' (Err memory) leads counted width brings = tt

-- a node more may have failed
abbrev failing : ℕ → Plan → Plan
failing node plan = record {
  ins = plan.ins;
  outs = plan.outs;
  starts = plan.starts;
  reads = plan.reads;
  writes = plan.writes;
  left = plan.left;
  taken = plan.taken;
  failed = marked node plan.failed;
}

module _ (node : ℕ) (plan : Plan) where
  wired_still : IsWired plan → IsWired (failing node plan)
  wired_still wired = record {
    in_once = wired.in_once;
    out_once = wired.out_once;
    one_taker = wired.one_taker;
    one_giver = wired.one_giver;
    from_outside = wired.from_outside;
    to_outside = wired.to_outside;
    one_in = wired.one_in;
    first_out = wired.first_out;
  }

  follows_still : (ports : List Ports) (wires : ℕ) → Follows plan ports wires → Follows (failing node plan) ports wires
  follows_still ports wires follows = record {
    ins = follows.ins;
    outs = follows.outs;
    reads = follows.reads;
    writes = follows.writes;
    wired_ins = follows.wired_ins;
    wired_outs = follows.wired_outs;
    in_ports = follows.in_ports;
    out_ports = follows.out_ports;
    plain_outs = follows.plain_outs;
  }

  planned_still : (cells : List (Cell NodeKind)) → IsPlanOf cells plan → IsPlanOf cells (failing node plan)
  planned_still cells planned = record {
    ins = planned.ins;
    outs = planned.outs;
    reads = planned.reads;
    writes = planned.writes;
    no_ins = planned.no_ins;
    no_outs = planned.no_outs;
    no_reads = planned.no_reads;
    no_writes = planned.no_writes;
    begins = planned.begins;
  }

  module _ {Machine : Type 0} (state : Machine → State) (machines : List Machine) (wires : List (List Piece)) (left taken : ℕ → Option (List ℕ))
      (reached : Reached state plan machines wires left taken) where
    abbrev reached_still : Reached state (failing node plan) machines wires left taken
    reached_still = record {
      took = reached.took;
      put = reached.put;
      queued = reached.queued;
      clean = reached.clean;
      plain = reached.plain;
      sized = reached.sized;
      runs = λ other machine at. weaker (other == node) (reached.runs other machine at);
      sound = λ unfailed. absurd (true≢false (sym (ap (λ (here : Bool). if here then true else plan.failed node) (eq-eqb node node refl)) ∙ unfailed node));
      read = reached.read;
      ended = reached.ended;
      written = reached.written;
    }
      where
        weaker : {start now : State} {taken put : ℕ → List Piece} {failed : Bool} (here : Bool) → Run start now taken put failed → Run start now taken put (if here then true else failed)
        weaker {start} {now} {taken} {put} {failed} true run = Run-weaken start now now taken put failed run
        weaker false run = run

-- a run over texts goes on where a node was refused memory, which may have failed then
pub fails_over : {Machine : Type 0} (state : Machine → State) (ports : List Ports) (machines machines' : List Machine) (wires wires' : List (List Piece)) (node : ℕ) (took : Bool)
    (cells : List (Cell NodeKind)) (inputs : ℕ → List ℕ) (moves : ℕ) (failed : ℕ → Bool)
    → FailsBy state ports took node machines machines' wires wires' → length machines' ≡ length machines → length wires' ≡ length wires → AreBrought state cells machines' wires'
    → RunsOver state cells inputs moves failed ports machines wires
    → RunsOver state cells inputs (if took then suc moves else moves) (marked node failed) ports machines' wires'
fails_over state ports machines machines' wires wires' node took cells inputs moves failed fails counted width brought runs =
    let plan = runs.goes.plan in
    let still = reached_still node plan state machines wires (λ _. Some []) (λ _. Some []) runs.goes.reached in
    let follows = follows_still node plan ports (length wires) runs.goes.follows in
    let here : marked node plan.failed node ≡ true = ap (λ (here : Bool). if here then true else plan.failed node) (eq-eqb node node refl) in
    let on = fails (λ _. Some []) (λ _. Some []) (failing node plan) here (wired_still node plan runs.goes.wired) follows still in
    record {
      goes = record {
        plan = failing node plan;
        wired = wired_still node plan runs.goes.wired;
        follows = subst (λ (count : ℕ). Follows (failing node plan) ports count) (sym width) follows;
        reached = on.after;
      };
      planned = planned_still node plan cells runs.planned;
      counted = counted ∙ runs.counted;
      told = runs.told;
      untaken = runs.untaken;
      marked = λ other. ap (λ (test : Bool). if other == node then true else test) (runs.marked other);
      brought = brought;
      moved =
          ap (λ (it : ℕ). if took then suc it else it)
          (runs.moved ∙ ap (λ (nodes : ℕ). moves_of plan nodes runs.goes.reached.took runs.goes.reached.put) (sym runs.counted))
          ∙ sym on.moves ∙ ap (λ (nodes : ℕ). moves_of plan nodes on.after.took on.after.put) runs.counted;
    }

-- the same over a slice's steps
pub steps_fail : {Machine : Type 0} (state : Machine → State) (ports : List Ports) (machines machines' : List Machine) (wires wires' : List (List Piece)) (node : ℕ) (machine : Machine) (result : Result Progress Memory)
    → slice_get machines node ≡ Some machine
    → OnErr result (FailsBy state ports (is_take (state machine).act) node machines machines' wires wires')
    → length machines' ≡ length machines → length wires' ≡ length wires
    → OnErr result ((cells : List (Cell NodeKind)) (inputs : ℕ → List ℕ) (moves : ℕ) (failed : ℕ → Bool) → RunsOver state cells inputs moves failed ports machines wires → AreBrought state cells machines' wires')
    → OnErr result ((found : Machine) → slice_get machines node ≡ Some found → (cells : List (Cell NodeKind)) (inputs : ℕ → List ℕ) (moves : ℕ) (failed : ℕ → Bool)
    → RunsOver state cells inputs moves failed ports machines wires
    → RunsOver state cells inputs (if is_take (state found).act then suc moves else moves) (marked node failed) ports machines' wires')
steps_fail state ports machines machines' wires wires' node machine (Ok step) at fails counted width brings = tt
steps_fail {Machine} state ports machines machines' wires wires' node machine (Err memory) at fails counted width brings = λ found at_found cells inputs moves failed runs.
    subst (λ (it : Machine). RunsOver state cells inputs (if is_take (state it).act then suc moves else moves) (marked node failed) ports machines' wires') (same found at_found)
    (fails_over state ports machines machines' wires wires' node (is_take (state machine).act) cells inputs moves failed fails counted width (brings cells inputs moves failed runs) runs)
  where
    same : (found : Machine) → slice_get machines node ≡ Some found → machine ≡ found
    same found at_found = cc

module _ {Machine : Type 0} (state : Machine → State) (cells : List (Cell NodeKind)) (status : StatusRule) (valid : Valid cells status) (inputs : ℕ → List ℕ)
    (moves : ℕ) (failed : ℕ → Bool) (ports : List Ports) (machines : List Machine) (wires : List (List Piece)) (runs : RunsOver state cells inputs moves failed ports machines wires)
    (sources : List (List ℕ)) (told : AreTold sources cells (λ node. Some (inputs node)))
    (node : ℕ) (cell : Cell NodeKind) (at_node : slice_get cells node ≡ Some cell) (writes : is_writer cell.kind ≡ true) where
  abbrev plan : Plan
  plan = runs.goes.plan

  abbrev reached : Reached state plan machines wires (λ node. Some []) (λ node. Some [])
  reached = runs.goes.reached

  pub put_carries : Carries (reached.put (outer_edge cells node)) (only (map (flow cells sources) cell.ins))
  put_carries =
      writer_carries cells status plan valid runs.planned (λ node. Some [])
      (reached_halts state plan machines wires (λ node. Some []) (λ node. Some []) reached (length cells) runs.counted) sources
      (λ number found at_number source. runs.told number ∙ told number found at_number source) node cell at_node writes

  none_taken : text_of (reached.took (outer_edge cells node)) ≡ []
  none_taken =
      sym (some_is [] (text_of (reached.took (outer_edge cells node)))
      (reached.written node (outer_edge cells node) (runs.planned.writes node cell at_node ∙ writes) (writer_edge cells status plan valid runs.planned node cell at_node writes)
      ∙ ap (λ (old : Option (List ℕ)). then_bytes old (text_of (reached.took (outer_edge cells node)))) (runs.untaken node)))

  waiting_text : text_of (reached.put (outer_edge cells node)) ≡ text_of (waiting_on wires (outer_edge cells node))
  waiting_text =
      ap text_of (reached.queued (outer_edge cells node)) ∙ text_of-append (reached.took (outer_edge cells node)) (waiting_on wires (outer_edge cells node))
      ∙ ap (λ (front : List ℕ). front ++ text_of (waiting_on wires (outer_edge cells node))) none_taken

  -- what waits for the outside behind a node that writes carries the flow of its in
  pub waiting_carries : Carries (waiting_on wires (outer_edge cells node)) (only (map (flow cells sources) cell.ins))
  waiting_carries = record {
    front = subst (λ (text : List ℕ). BeginsWith (only (map (flow cells sources) cell.ins)) text) waiting_text put_carries.front;
    whole = λ ended.
        put_carries.whole (ap has_end (reached.queued (outer_edge cells node)) ∙ has_end-behind (reached.took (outer_edge cells node)) (waiting_on wires (outer_edge cells node)) ended)
        ∙ waiting_text;
  }

  -- and once each machine has stopped and none has failed, all of it waits
  pub waiting_whole : ((number : ℕ) → failed number ≡ false) → ((number : ℕ) (machine : Machine) → slice_get machines number ≡ Some machine
      → ((port : ℕ) → (state machine).takes port ≡ false) × ((port : ℕ) → (state machine).puts port ≡ false))
      → only (map (flow cells sources) cell.ins) ≡ text_of (waiting_on wires (outer_edge cells node))
  waiting_whole unfailed stopped =
      put_carries.whole
      (writer_ended state cells status plan valid runs.planned machines wires (λ node. Some []) (λ node. Some []) reached runs.counted (reached.sound (λ number. runs.marked number ∙ unfailed number)) stopped node cell at_node writes)
      ∙ waiting_text
