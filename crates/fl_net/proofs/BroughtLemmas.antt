-- In a network over texts each source has its text to the end: the end waits on its edge from outside until it takes it.
use Rattle.std.proofs.Common.{◌≡◌, ℕ, zero, suc, ◌==◌, List, [], ◌∷◌, Bool, true, false, not, ◌&&◌, ◌||◌, if◌then◌else◌, slice_get, slice_set, Some, Result, Ok, Err, IfOk, OnErr, refl, ap, sym, subst, ◌∙◌, eq-eqb}
use Rattle.std.proofs.lemmas.Bool.{true≢false, eqb-true}
use Rattle.ps_lines.specs.declared.memory.Memory.{Memory}
use Rattle.fl_graph.specs.Machines.{State, closes, is_take}
use Rattle.fl_graph.specs.Net.{has}
use Rattle.fl_graph.specs.declared.graphs.Cell.{Cell}
use Rattle.fl_graph.specs.Runs.{add, are_closed, has_end}
use Rattle.fl_graph.specs.declared.kinds.NodeKind.{NodeKind}
use Rattle.fl_graph.specs.declared.pieces.Piece.{Piece}
use Rattle.fl_graph.specs.declared.pieces.Piece.TheVariants as piece
use Rattle.fl_graph.proofs.StateLemmas.{Run-begin}
use Rattle.fl_classes.specs.Flow.{is_source}
use Rattle.fl_net.specs.Inputs.{AreBrought, RunsOver}
use Rattle.fl_net.specs.Plans.{outer_edge}
use Rattle.fl_net.specs.Steps.{waiting_on, has_moved, SameBut, Took, Gave, Broke}
use Rattle.fl_net.specs.declared.nets.Ports.{Ports}
use Rattle.fl_net.specs.declared.steps.Progress.{Progress}
use Rattle.fl_net.specs.declared.steps.Progress.TheVariants as progress
use Rattle.fl_net.proofs.NetLemmas.{replaced_by}
use Rattle.fl_net.proofs.PortLemmas.{stands-has}

-- an in that is open behind a piece was open before it, and the piece doesn't close it
open_behind : (now start closing : Bool) → now ≡ (start && not (closing || false)) → now ≡ true → (start ≡ true) × (closing ≡ false)
open_behind now true false is opened = (refl, refl)
open_behind now true true is opened = absurd (true≢false (sym opened ∙ is))
open_behind now false closing is opened = absurd (true≢false (sym opened ∙ is))

still_open : (now start : Bool) → now ≡ (start && true) → now ≡ true → start ≡ true
still_open now true is opened = refl
still_open now false is opened = absurd (true≢false (sym opened ∙ is))

closed_rest : (first : Piece) (pieces : List Piece) → are_closed (first ∷ pieces) ≡ true → closes first ≡ false → are_closed pieces ≡ true
closed_rest first pieces closed open_still = by_test (closes first) open_still closed
  where
    by_test : (test : Bool) → test ≡ false → (test || are_closed pieces) ≡ true → are_closed pieces ≡ true
    by_test true is all = absurd (true≢false is)
    by_test false is all = all

only_port : (sole port edge : ℕ) → slice_get (sole ∷ []) port ≡ Some edge → (port ≡ 0) × (edge ≡ sole)
only_port sole zero edge at = (refl, cc)
only_port sole (suc port) edge at = absurd (cc)

module _ {Machine : Type 0} (state : Machine → State) (ports : List Ports) (machines machines' : List Machine) (given new : List (List Piece)) (node : ℕ) (machine machine' : Machine)
    (own : Ports) (at : slice_get machines node ≡ Some machine) (at_own : slice_get ports node ≡ Some own) (set : machines' ≡ slice_set machines node machine')
    (ins outs : List ℕ) (ins_are : ins ≡ own.ins.items) (outs_are : outs ≡ own.outs.items) where
  module _ (cells : List (Cell NodeKind)) (inputs : ℕ → List ℕ) (moves : ℕ) (failed : ℕ → Bool) (runs : RunsOver state cells inputs moves failed ports machines given) where
    -- a source, with the machine that stands there now
    module _ (source : ℕ) (cell : Cell NodeKind) (found : Machine) (at_cell : slice_get cells source ≡ Some cell) (at_found : slice_get machines' source ≡ Some found)
        (is : is_source cell.kind ≡ true) (opened : (state found).takes 0 ≡ true) where
      outer : runs.goes.plan.ins source ≡ outer_edge cells source ∷ []
      outer = runs.planned.ins source cell at_cell ∙ ap (λ (test : Bool). if test then outer_edge cells source ∷ [] else cell.ins) is

      takes_outer : has (outer_edge cells source) (runs.goes.plan.ins source) ≡ true
      takes_outer = stands-has (runs.goes.plan.ins source) 0 (outer_edge cells source) (ap (λ (edges : List ℕ). slice_get edges 0) outer)

      found_here : source ≡ node → found ≡ machine'
      found_here same = (replaced_by machines machines' node machine machine' at set).here found (ap (slice_get machines') (sym same) ∙ at_found)

      found_before : (source == node) ≡ false → slice_get machines source ≡ Some found
      found_before apart = sym ((replaced_by machines machines' node machine machine' at set).others source apart) ∙ at_found

      -- another edge has changed
      as_before : (edge : ℕ) → SameBut edge given new → (outer_edge cells source ≡ edge → ⊥) → are_closed (waiting_on given (outer_edge cells source)) ≡ true
          → are_closed (waiting_on new (outer_edge cells source)) ≡ true
      as_before edge others apart closed = by_test (outer_edge cells source == edge) refl
        where
          by_test : (test : Bool) → (outer_edge cells source == edge) ≡ test → are_closed (waiting_on new (outer_edge cells source)) ≡ true
          by_test true same = absurd (apart (eqb-true (outer_edge cells source) edge same))
          by_test false same = ap are_closed (others (outer_edge cells source) same) ∙ closed

      brought_before : (before : Machine) → slice_get machines source ≡ Some before → (state before).takes 0 ≡ true → are_closed (waiting_on given (outer_edge cells source)) ≡ true
      brought_before before at_before = runs.brought source cell before at_cell at_before is

      took_brings : (refused : Bool) → Took (state machine) (state machine') ins refused given new → are_closed (waiting_on new (outer_edge cells source)) ≡ true
      took_brings refused step = by_place (source == node) refl
        where
          by_place : (here : Bool) → (source == node) ≡ here → are_closed (waiting_on new (outer_edge cells source)) ≡ true
          by_place false apart =
              as_before step.edge step.others
              (λ same.
              let there : has (outer_edge cells source) (runs.goes.plan.ins node) ≡ true =
              ap (has (outer_edge cells source)) (runs.goes.follows.ins node own at_own ∙ sym ins_are)
              ∙ stands-has ins step.port (outer_edge cells source) (step.there ∙ ap (λ (edge : ℕ). Some edge) (sym same)) in
              let one = runs.goes.wired.one_taker source node (outer_edge cells source) takes_outer there in
              true≢false (sym (eq-eqb source node one) ∙ apart))
              (brought_before found (found_before apart) opened)
          by_place true here =
              let same : source ≡ node = eqb-true source node here in
              let sole : ins ≡ outer_edge cells source ∷ [] =
              ins_are ∙ sym (runs.goes.follows.ins node own at_own) ∙ ap runs.goes.plan.ins (sym same) ∙ outer in
              let port = only_port (outer_edge cells source) step.port step.edge (ap (λ (edges : List ℕ). slice_get edges step.port) (sym sole) ∙ step.there) in
              let run = step.moved.runs (state machine) (λ _. []) (λ _. []) true (λ _. refl) (Run-begin (state machine)) in
              let parts = open_behind ((state machine').takes 0) ((state machine).takes 0) (closes step.moved.piece)
              (subst (λ (it : ℕ). (state machine').takes 0 ≡ ((state machine).takes 0 && not (are_closed (add it step.moved.piece (λ _. []) 0)))) port.0 (run.ins 0))
              (ap (λ (it : Machine). (state it).takes 0) (sym (found_here same)) ∙ opened) in
              let before = brought_before machine (ap (slice_get machines) same ∙ at) parts.0 in
              closed_rest step.moved.piece (waiting_on new (outer_edge cells source))
              (ap are_closed (sym (subst (λ (it : ℕ). waiting_on given it ≡ step.moved.piece ∷ waiting_on new it) port.1 step.moved.first)) ∙ before) parts.1

      gave_brings : Gave (state machine) (state machine') outs given new → are_closed (waiting_on new (outer_edge cells source)) ≡ true
      gave_brings step = as_before step.edge step.others given_by_none (by_place (source == node) refl)
        where
          given_by_none : outer_edge cells source ≡ step.edge → ⊥
          given_by_none same =
              let there : has (outer_edge cells source) (runs.goes.plan.outs node) ≡ true =
              ap (has (outer_edge cells source)) (runs.goes.follows.outs node own at_own ∙ sym outs_are)
              ∙ stands-has outs step.port (outer_edge cells source) (step.there ∙ ap (λ (edge : ℕ). Some edge) (sym same)) in
              true≢false (sym there ∙ runs.goes.wired.from_outside source node (outer_edge cells source) (runs.planned.reads source cell at_cell ∙ is) takes_outer)

          by_place : (here : Bool) → (source == node) ≡ here → are_closed (waiting_on given (outer_edge cells source)) ≡ true
          by_place false apart = brought_before found (found_before apart) opened
          by_place true here =
              let same : source ≡ node = eqb-true source node here in
              let run = step.moved.runs (state machine) (λ _. []) (λ _. []) true (Run-begin (state machine)) in
              brought_before machine (ap (slice_get machines) same ∙ at)
              (still_open ((state machine').takes 0) ((state machine).takes 0) (run.ins 0) (ap (λ (it : Machine). (state it).takes 0) (sym (found_here same)) ∙ opened))

      same_brings : (machine' ≡ machine) × (new ≡ given) → are_closed (waiting_on new (outer_edge cells source)) ≡ true
      same_brings same = ap (λ (wires : List (List Piece)). are_closed (waiting_on wires (outer_edge cells source))) same.1 ∙ by_place (source == node) refl
        where
          by_place : (here : Bool) → (source == node) ≡ here → are_closed (waiting_on given (outer_edge cells source)) ≡ true
          by_place false apart = brought_before found (found_before apart) opened
          by_place true here =
              let same_node : source ≡ node = eqb-true source node here in
              brought_before machine (ap (slice_get machines) same_node ∙ at)
              (ap (λ (it : Machine). (state it).takes 0) (sym (found_here same_node ∙ same.0)) ∙ opened)

      broke_brings : Broke (state machine) (state machine') → new ≡ given → are_closed (waiting_on new (outer_edge cells source)) ≡ true
      broke_brings broke same = ap (λ (wires : List (List Piece)). are_closed (waiting_on wires (outer_edge cells source))) same ∙ by_place (source == node) refl
        where
          by_place : (here : Bool) → (source == node) ≡ here → are_closed (waiting_on given (outer_edge cells source)) ≡ true
          by_place false apart = brought_before found (found_before apart) opened
          by_place true here =
              let same_node : source ≡ node = eqb-true source node here in
              let run = broke.runs (state machine) (λ _. []) (λ _. []) (Run-begin (state machine)) in
              brought_before machine (ap (slice_get machines) same_node ∙ at)
              (still_open ((state machine').takes 0) ((state machine).takes 0) (run.ins 0) (ap (λ (it : Machine). (state it).takes 0) (sym (found_here same_node)) ∙ opened))

  -- so it is where a machine is broken off
  pub broken_brings : Broke (state machine) (state machine') → new ≡ given → (cells : List (Cell NodeKind)) (inputs : ℕ → List ℕ) (moves : ℕ) (failed : ℕ → Bool)
      → RunsOver state cells inputs moves failed ports machines given → AreBrought state cells machines' new
  broken_brings broke same cells inputs moves failed runs source cell found at_cell at_found is opened =
      broke_brings cells inputs moves failed runs source cell found at_cell at_found is opened broke same

  -- a step that was refused memory brings it too
  pub refused_brings : (result : Result Progress Memory)
      → OnErr result (is_take (state machine).act ≡ true → Took (state machine) (state machine') ins true given new)
      → OnErr result (is_take (state machine).act ≡ false → Broke (state machine) (state machine') × (new ≡ given))
      → OnErr result ((cells : List (Cell NodeKind)) (inputs : ℕ → List ℕ) (moves : ℕ) (failed : ℕ → Bool) → RunsOver state cells inputs moves failed ports machines given → AreBrought state cells machines' new)
  refused_brings (Ok step) took broke = tt
  refused_brings (Err memory) took broke = λ cells inputs moves failed runs source cell found at_cell at_found is opened.
      by_act cells inputs moves failed runs source cell found at_cell at_found is opened (is_take (state machine).act) refl
    where
      by_act : (cells : List (Cell NodeKind)) (inputs : ℕ → List ℕ) (moves : ℕ) (failed : ℕ → Bool) → RunsOver state cells inputs moves failed ports machines given
          → (source : ℕ) (cell : Cell NodeKind) (found : Machine) → slice_get cells source ≡ Some cell → slice_get machines' source ≡ Some found → is_source cell.kind ≡ true
          → (state found).takes 0 ≡ true → (takes : Bool) → is_take (state machine).act ≡ takes → are_closed (waiting_on new (outer_edge cells source)) ≡ true
      by_act cells inputs moves failed runs source cell found at_cell at_found is opened true takes =
          took_brings cells inputs moves failed runs source cell found at_cell at_found is opened true (took takes)
      by_act cells inputs moves failed runs source cell found at_cell at_found is opened false takes =
          let here = broke takes in broke_brings cells inputs moves failed runs source cell found at_cell at_found is opened here.0 here.1

  pub slice_refused_brings : (wires wires' : List (List Piece)) → given ≡ wires → wires' ≡ new → (result : Result Progress Memory)
      → OnErr result (is_take (state machine).act ≡ true → Took (state machine) (state machine') ins true given new)
      → OnErr result (is_take (state machine).act ≡ false → Broke (state machine) (state machine') × (new ≡ given))
      → OnErr result ((cells : List (Cell NodeKind)) (inputs : ℕ → List ℕ) (moves : ℕ) (failed : ℕ → Bool) → RunsOver state cells inputs moves failed ports machines wires → AreBrought state cells machines' wires')
  slice_refused_brings wires wires' old_is new_is result took broke =
      subst (λ (it : List (List Piece)). OnErr result ((cells : List (Cell NodeKind)) (inputs : ℕ → List ℕ) (moves : ℕ) (failed : ℕ → Bool) → RunsOver state cells inputs moves failed ports machines it → AreBrought state cells machines' wires')) old_is
      (subst (λ (it : List (List Piece)). OnErr result ((cells : List (Cell NodeKind)) (inputs : ℕ → List ℕ) (moves : ℕ) (failed : ℕ → Bool) → RunsOver state cells inputs moves failed ports machines given → AreBrought state cells machines' it)) (sym new_is)
      (refused_brings result took broke))

  pub step_brings : (result : Result Progress Memory)
      → (result ≡ Ok progress.Took → Took (state machine) (state machine') ins false given new)
      → (result ≡ Ok progress.Gave → Gave (state machine) (state machine') outs given new)
      → IfOk result (λ step. has_moved step ≡ false → (machine' ≡ machine) × (new ≡ given))
      → IfOk result (λ _. (cells : List (Cell NodeKind)) (inputs : ℕ → List ℕ) (moves : ℕ) (failed : ℕ → Bool) → RunsOver state cells inputs moves failed ports machines given → AreBrought state cells machines' new)
  step_brings (Ok progress.Took) took gave same = λ cells inputs moves failed runs source cell found at_cell at_found is opened.
      took_brings cells inputs moves failed runs source cell found at_cell at_found is opened false (took refl)
  step_brings (Ok progress.Gave) took gave same = λ cells inputs moves failed runs source cell found at_cell at_found is opened.
      gave_brings cells inputs moves failed runs source cell found at_cell at_found is opened (gave refl)
  step_brings (Ok progress.Starves) took gave same = λ cells inputs moves failed runs source cell found at_cell at_found is opened.
      same_brings cells inputs moves failed runs source cell found at_cell at_found is opened (same refl)
  step_brings (Ok progress.Waits) took gave same = λ cells inputs moves failed runs source cell found at_cell at_found is opened.
      same_brings cells inputs moves failed runs source cell found at_cell at_found is opened (same refl)
  step_brings (Ok progress.Ended) took gave same = λ cells inputs moves failed runs source cell found at_cell at_found is opened.
      same_brings cells inputs moves failed runs source cell found at_cell at_found is opened (same refl)
  step_brings (Err memory) took gave same = tt

  -- the same where a step was made over the wires' slice
  pub slice_brings : (wires wires' : List (List Piece)) → given ≡ wires → wires' ≡ new → (result : Result Progress Memory)
      → (result ≡ Ok progress.Took → Took (state machine) (state machine') ins false given new)
      → (result ≡ Ok progress.Gave → Gave (state machine) (state machine') outs given new)
      → IfOk result (λ step. has_moved step ≡ false → (machine' ≡ machine) × (new ≡ given))
      → IfOk result (λ _. (cells : List (Cell NodeKind)) (inputs : ℕ → List ℕ) (moves : ℕ) (failed : ℕ → Bool) → RunsOver state cells inputs moves failed ports machines wires → AreBrought state cells machines' wires')
  slice_brings wires wires' old_is new_is result took gave same =
      subst (λ (it : List (List Piece)). IfOk result (λ _. (cells : List (Cell NodeKind)) (inputs : ℕ → List ℕ) (moves : ℕ) (failed : ℕ → Bool) → RunsOver state cells inputs moves failed ports machines it → AreBrought state cells machines' wires')) old_is
      (subst (λ (it : List (List Piece)). IfOk result (λ _. (cells : List (Cell NodeKind)) (inputs : ℕ → List ℕ) (moves : ℕ) (failed : ℕ → Bool) → RunsOver state cells inputs moves failed ports machines given → AreBrought state cells machines' it)) (sym new_is)
      (step_brings result took gave same))
