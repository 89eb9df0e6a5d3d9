-- Networks over texts that are there from the beginning.
use Rattle.std.proofs.Common.{◌≡◌, ℕ, zero, suc, ◌-◌, ◌==◌, List, [], ◌∷◌, ◌++◌, Bool, true, false, ◌||◌, length, slice_get, get_or, Option, Some, None, inl, inr, refl, ap, sym, subst, ◌∙◌, append-nil, arith, eq-eqb}
use mathlib.Core.Path.{fun_ext}
use Rattle.std.specs.List.{list_all, range_with_len}
use Rattle.std.proofs.lemmas.Bool.{cases_lt, true≢false}
use Rattle.fl_graph.specs.Net.{has, gives}
use Rattle.fl_graph.specs.declared.graphs.Cell.{Cell}
use Rattle.fl_graph.specs.Machines.{State}
use Rattle.fl_graph.specs.Runs.{text_of, has_broken, has_end, Run, is_clean}
use Rattle.fl_graph.specs.Valid.{Valid}
use Rattle.fl_graph.specs.declared.graphs.StatusRule.{StatusRule}
use Rattle.fl_graph.specs.declared.kinds.NodeKind.{NodeKind}
use Rattle.fl_graph.specs.declared.pieces.Piece.{Piece}
use Rattle.fl_graph.specs.declared.pieces.Piece.TheVariants as piece
use Rattle.fl_classes.specs.Flow.{is_source}
use Rattle.fl_net.specs.Inputs.{AreWhole, IsLoaded, BeginsOver, RunsOver}
use Rattle.fl_net.specs.Laws.{at_ports}
use Rattle.fl_net.specs.Moves.{moves_at, moves_of}
use Rattle.fl_net.specs.Plans.{outer_edge, IsNetOf, IsPlanOf}
use Rattle.fl_net.specs.Runs.{Plan, Follows, IsWired, Reached}
use Rattle.fl_net.specs.Steps.{has_bytes, is_plain, waiting_on}
use Rattle.fl_net.specs.declared.nets.Ports.{Ports}
use Rattle.fl_graph.proofs.PieceLemmas.{closed_by_end}
use Rattle.fl_net.proofs.PlanLemmas.{source_at, source_edge}
use Rattle.fl_net.proofs.StartLemmas.{start_plan, start_is_planned, start_is_wired, start_follows, start_runs, start_whole}
use Rattle.fl_net.proofs.SumLemmas.{sum-none}

-- pieces that are the same on the edges of a node are so at its ports
at_ports-same : (edges : List ℕ) (one other : ℕ → List Piece) → ((edge : ℕ) → has edge edges ≡ true → one edge ≡ other edge) → (port : ℕ) → at_ports edges one port ≡ at_ports edges other port
at_ports-same [] one other same port = refl
at_ports-same (edge ∷ edges) one other same zero = same edge (ap (λ (test : Bool). test || has edge edges) (eq-eqb edge edge refl))
at_ports-same (edge ∷ edges) one other same (suc port) = at_ports-same edges one other (λ found there. same found (behind (edge == found) there)) port
  where
    behind : (test : Bool) {rest : Bool} → rest ≡ true → (test || rest) ≡ true
    behind true is = refl
    behind false is = is

-- clean pieces with an end have no Broken
ended_unbroken : (pieces : List Piece) → is_clean pieces ≡ true → has_end pieces ≡ true → has_broken pieces ≡ false
ended_unbroken [] clean ended = refl
ended_unbroken (piece.Bytes bytes ∷ []) clean ended = refl
ended_unbroken (piece.Bytes bytes ∷ next ∷ pieces) clean ended = ended_unbroken (next ∷ pieces) clean ended
ended_unbroken (piece.Mark ∷ []) clean ended = refl
ended_unbroken (piece.Mark ∷ next ∷ pieces) clean ended = ended_unbroken (next ∷ pieces) clean ended
ended_unbroken (piece.End ∷ []) clean ended = refl
ended_unbroken (piece.End ∷ next ∷ pieces) clean ended = absurd (true≢false (sym clean))
ended_unbroken (piece.Broken ∷ []) clean ended = absurd (true≢false (sym ended))
ended_unbroken (piece.Broken ∷ next ∷ pieces) clean ended = absurd (true≢false (sym clean))

module _ {Machine : Type 0} (state : Machine → State) (cells : List (Cell NodeKind)) (status : StatusRule) (valid : Valid cells status) (inputs : ℕ → List ℕ)
    (ports : List Ports) (machines : List Machine) (wires : List (List Piece)) (begins : BeginsOver state cells inputs ports machines wires) where
  abbrev told : ℕ → Option (List ℕ)
  told node = Some (inputs node)

  abbrev taken : ℕ → Option (List ℕ)
  taken node = Some []

  abbrev plan : Plan
  plan = start_plan state cells status valid ports machines begins.empty begins.net told taken

  planned : IsPlanOf cells plan
  planned = start_is_planned state cells status valid ports machines begins.empty begins.net told taken

  wired : IsWired plan
  wired = start_is_wired state cells status valid ports machines begins.empty begins.net told taken

  -- on each edge nothing waits, or all of a text
  data Waits (edge : ℕ) : Type 0 where
    Nothing : waiting_on wires edge ≡ [] → Waits edge
    Whole : (text : List ℕ) → AreWhole (waiting_on wires edge) text → Waits edge

  waits : (edge : ℕ) → Waits edge
  waits edge = elim (cases_lt edge (length (gives cells))) [
    | inl inside ↦ Nothing (begins.loaded.none edge (λ node cell at_node source same. absurd (omega (arith, inside, same))))
    | inr outside ↦ by_cell (slice_get cells (edge - length (gives cells))) refl (omega (arith, outside))
  ]
    where
      by_kind : (cell : Cell NodeKind) (test : Bool) → slice_get cells (edge - length (gives cells)) ≡ Some cell → is_source cell.kind ≡ test
          → edge ≡ outer_edge cells (edge - length (gives cells)) → Waits edge
      by_kind cell true at_node is here =
          Whole (inputs (edge - length (gives cells)))
          (subst (λ (it : ℕ). AreWhole (waiting_on wires it) (inputs (edge - length (gives cells)))) (sym here) (begins.loaded.source (edge - length (gives cells)) cell at_node is))
      by_kind cell false at_node is here = Nothing (begins.loaded.none edge (λ node found at_found source same.
          let one : node ≡ edge - length (gives cells) = omega (arith, same, here) in
          let found_too : Some found ≡ Some cell = sym at_found ∙ ap (slice_get cells) one ∙ at_node in
          let same_cell : found ≡ cell = cc in
          true≢false (sym source ∙ ap (λ (it : Cell NodeKind). is_source it.kind) same_cell ∙ is)))

      by_cell : (found : Option (Cell NodeKind)) → slice_get cells (edge - length (gives cells)) ≡ found → edge ≡ outer_edge cells (edge - length (gives cells)) → Waits edge
      by_cell (Some cell) at_node here = by_kind cell (is_source cell.kind) at_node refl here
      by_cell None no_node here = Nothing (begins.loaded.none edge (λ node found at_found source same.
          let one : node ≡ edge - length (gives cells) = omega (arith, same, here) in
          let nothing : Some found ≡ None = sym at_found ∙ ap (slice_get cells) one ∙ no_node in
          absurd (cc)))

  waiting_clean : (edge : ℕ) → Waits edge → is_clean (waiting_on wires edge) ≡ true
  waiting_clean edge (Nothing none) = ap is_clean none
  waiting_clean edge (Whole text whole) = whole.clean

  waiting_unbroken : (edge : ℕ) → Waits edge → has_broken (waiting_on wires edge) ≡ false
  waiting_unbroken edge (Nothing none) = ap has_broken none
  waiting_unbroken edge (Whole text whole) = ended_unbroken (waiting_on wires edge) whole.clean whole.ended

  waiting_plain : (edge : ℕ) → Waits edge → list_all is_plain (waiting_on wires edge) ≡ true
  waiting_plain edge (Nothing none) = ap (list_all is_plain) none
  waiting_plain edge (Whole text whole) = whole.plain

  waiting_sized : (edge : ℕ) → Waits edge → list_all has_bytes (waiting_on wires edge) ≡ true
  waiting_sized edge (Nothing none) = ap (list_all has_bytes) none
  waiting_sized edge (Whole text whole) = whole.sized

  -- no node gave what waits
  none_given : (node edge : ℕ) → has edge (plan.outs node) ≡ true → [] ≡ waiting_on wires edge
  none_given node edge there = sym (begins.loaded.none edge (λ source cell at_source is same.
      let reads : plan.reads source ≡ true = planned.reads source cell at_source ∙ is in
      let own : has edge (plan.ins source) ≡ true =
      ap (has edge) (source_edge cells status plan valid planned source cell at_source is) ∙ ap (λ (test : Bool). test || false) (eq-eqb (outer_edge cells source) edge (sym same)) in
      true≢false (sym there ∙ wired.from_outside source node edge reads own)))

  -- a source's text waits on its edge
  waiting_read : (node edge : ℕ) → plan.reads node ≡ true → plan.ins node ≡ edge ∷ [] → Some (inputs node) ≡ Some (text_of (waiting_on wires edge) ++ [])
  waiting_read node edge reads is =
      let source = source_at cells status plan valid planned node reads in
      let outer : outer_edge cells node ≡ edge =
      ap (λ (edges : List ℕ). get_or edges 0 0) (sym (source_edge cells status plan valid planned node source.cell source.at_node source.is) ∙ is) in
      ap (λ (text : List ℕ). Some text)
      (sym (append-nil (text_of (waiting_on wires edge)) ∙ ap (λ (it : ℕ). text_of (waiting_on wires it)) (sym outer)
      ∙ (begins.loaded.source node source.cell source.at_node source.is).carries))

  reached : Reached state plan machines wires taken taken
  reached = record {
    took = λ edge. [];
    put = λ edge. waiting_on wires edge;
    queued = λ edge. refl;
    clean = λ edge. waiting_clean edge (waits edge);
    plain = λ edge. waiting_plain edge (waits edge);
    sized = λ edge. waiting_sized edge (waits edge);
    runs = λ node machine at_machine.
        subst (λ (put : ℕ → List Piece). Run (plan.starts node) (state machine) (at_ports (plan.ins node) (λ (_ : ℕ). [])) put false)
        (fun_ext (λ (port : ℕ). at_ports-same (plan.outs node) (λ (_ : ℕ). []) (waiting_on wires) (none_given node) port))
        (start_runs state cells status valid ports machines begins.empty begins.net told taken node machine at_machine);
    sound = λ unfailed. record {
      whole = start_whole state cells status valid ports machines begins.empty begins.net told taken;
      edges = λ edge. waiting_unbroken edge (waits edge);
    };
    read = waiting_read;
    ended = λ node edge reads is ended. refl;
    written = λ node edge writes is. refl;
  }

  -- no step has been made
  no_moves : 0 ≡ moves_of plan (length cells) (λ (_ : ℕ). []) (waiting_on wires)
  no_moves =
      sym (sum-none (moves_at plan (λ (_ : ℕ). []) (waiting_on wires)) (range_with_len 0 (length cells)) (λ node within.
      let taken = sum-none (λ (edge : ℕ). 0) (plan.ins node) (λ edge there. refl) in
      let given = sum-none (λ (edge : ℕ). length (waiting_on wires edge)) (plan.outs node) (λ edge there. ap (λ (pieces : List Piece). length pieces) (sym (none_given node edge there))) in
      omega (arith, taken, given)))

  -- the network is under way from where its texts came
  pub runs_over : RunsOver state cells inputs 0 (λ _. false) ports machines wires
  unfolding reached
  runs_over = record {
    goes = record {
      plan = plan;
      wired = wired;
      follows = subst (λ (count : ℕ). Follows plan ports count) (sym begins.all_wires) (start_follows state cells status valid ports machines begins.empty begins.net told taken);
      reached = reached;
    };
    planned = planned;
    counted = begins.net.all_machines;
    told = λ node. refl;
    untaken = λ node. refl;
    marked = λ node. refl;
    brought = λ node cell machine at_node at_machine is opened. closed_by_end (waiting_on wires (outer_edge cells node)) (begins.loaded.source node cell at_node is).ended;
    moved = no_moves;
  }

-- what has come on the wires of a graph's network is what it begins over
pub begins_over : {Machine : Type 0} (state : Machine → State) (nodes given : List (Cell NodeKind)) (inputs : ℕ → List ℕ) (ports : List Ports) (machines : List Machine) (empty wires new : List (List Piece))
    → IsNetOf state nodes ports machines empty → given ≡ nodes → length new ≡ length empty → IsLoaded given inputs new → wires ≡ new
    → BeginsOver state nodes inputs ports machines wires
begins_over state nodes given inputs ports machines empty wires new net same width loaded new_is = record {
  empty = empty;
  net = net;
  all_wires = ap (λ (it : List (List Piece)). length it) new_is ∙ width;
  loaded = subst (λ (it : List (List Piece)). IsLoaded nodes inputs it) (sym new_is) (subst (λ (it : List (Cell NodeKind)). IsLoaded it inputs new) same loaded);
}
