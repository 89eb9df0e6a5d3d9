-- Where all nodes have run to their stops, each edge carries its flow, and all of it where no node has failed.
use Rattle.std.proofs.Common.{◌≡◌, ℕ, zero, suc, ◌+◌, ◌<◌, ◌==◌, ◌||◌, Bool, true, false, List, [], ◌∷◌, ◌++◌, length, refl, ap, sym, ◌∙◌, append-nil, append_assoc, eq-eqb}
use Rattle.std.proofs.lemmas.Bool.{true≢false, and_parts, or_left, or_right}
use Rattle.std.proofs.lemmas.List.Folds.{list_any-append}
use Rattle.std.proofs.lemmas.Grind.{flat_map-append}
use Rattle.std.proofs.lemmas.Option.{slice_get_within}
use Rattle.ps_lines.specs.Texts.{BeginsWith}
use Rattle.fl_graph.specs.Net.{has, gives}
use Rattle.fl_graph.specs.declared.graphs.Cell.{Cell}
use Rattle.fl_graph.specs.Checks.{takes_given, each_after}
use Rattle.fl_graph.specs.Runs.{text_of, are_closed, has_broken}
use Rattle.fl_graph.specs.Valid.{Valid}
use Rattle.fl_graph.specs.declared.graphs.StatusRule.{StatusRule}
use Rattle.fl_graph.specs.declared.kinds.NodeKind.{NodeKind}
use Rattle.fl_graph.specs.declared.pieces.Piece.{Piece}
use Rattle.fl_graph.proofs.ListLemmas.{holds-has}
use Rattle.fl_graph.proofs.StateLemmas.{closed_ends}
use Rattle.fl_classes.specs.Flow.{Placed, placed, flow}
use Rattle.fl_net.specs.Laws.{Carries, at_ports, NetKeeps, NetRan, NodesKeep, NodesRan}
use Rattle.fl_net.proofs.LawLemmas.{edge_carries, placed_gives, placed_order}
use Rattle.fl_net.proofs.PortLemmas.{at_ports-stands, port_of}

-- what holds of the pieces of all of a node's edges holds at its ports
none_at_ports : (edges : List ℕ) (pieces : ℕ → List Piece) → ((edge : ℕ) → has edge edges ≡ true → has_broken (pieces edge) ≡ false) → (port : ℕ) → has_broken (at_ports edges pieces port) ≡ false
none_at_ports [] pieces none port = refl
none_at_ports (edge ∷ edges) pieces none zero = none edge (or_left (edge == edge) (has edge edges) (eq-eqb edge edge refl))
none_at_ports (edge ∷ edges) pieces none (suc port) = none_at_ports edges pieces (λ other there. none other (or_right (edge == other) (has other edges) there)) port

split_or : (one other : Bool) → (one || other) ≡ true → (one ≡ false → other ≡ true)
split_or true other is none = absurd (true≢false none)
split_or false other is none = is

module _ (sources : List (List ℕ)) (failed : ℕ → Bool) (pieces : ℕ → List Piece) where
  keep_all : (number : ℕ) (cells : List (Cell Placed)) → NodesRan sources failed number cells pieces → NodesKeep sources cells pieces pieces
  keep_all number [] ran = tt
  keep_all number (cell ∷ cells) ran = (ran.0.keeps, keep_all (number + 1) cells ran.1)

  -- each edge that a node gives is closed
  closed_all : (number : ℕ) (cells : List (Cell Placed)) → NodesRan sources failed number cells pieces → (edge : ℕ) → has edge (gives cells) ≡ true → are_closed (pieces edge) ≡ true
  closed_all number [] ran edge there = absurd (true≢false (sym there))
  closed_all number (cell ∷ cells) ran edge there =
      by_out (has edge cell.outs) refl
      (λ none. closed_all (number + 1) cells ran.1 edge (split_or (has edge cell.outs) (has edge (gives cells)) (sym (list_any-append (λ (other : ℕ). other == edge) cell.outs (gives cells)) ∙ there) none))
    where
      by_out : (out : Bool) → has edge cell.outs ≡ out → (has edge cell.outs ≡ false → are_closed (pieces edge) ≡ true) → are_closed (pieces edge) ≡ true
      by_out true is behind =
          let found = port_of cell.outs edge is in
          ap are_closed (sym (at_ports-stands cell.outs pieces found.0 edge found.1)) ∙ ran.0.closed found.0 (slice_get_within cell.outs found.0 edge found.1)
      by_out false is behind = behind is

  module _ (unfailed : (node : ℕ) → failed node ≡ false) where
    -- no Broken stands on an edge that these nodes give, since none stands on those before
    unbroken_all : (before : List (Cell Placed)) (number : ℕ) (cells : List (Cell Placed)) → ((edge : ℕ) → has edge (gives before) ≡ true → has_broken (pieces edge) ≡ false)
        → each_after takes_given before cells ≡ true → NodesRan sources failed number cells pieces → (edge : ℕ) → has edge (gives (before ++ cells)) ≡ true → has_broken (pieces edge) ≡ false
    unbroken_all before number [] none order ran edge there = none edge (sym (ap (λ (all : List (Cell Placed)). has edge (gives all)) (append-nil before)) ∙ there)
    unbroken_all before number (cell ∷ cells) none order ran edge there =
        let parts = and_parts (takes_given before cell) (each_after takes_given (before ++ cell ∷ []) cells) order in
        unbroken_all (before ++ cell ∷ []) (number + 1) cells (none_behind parts.0) parts.1 ran.1 edge
        (ap (λ (all : List (Cell Placed)). has edge (gives all)) (append_assoc before (cell ∷ []) cells) ∙ there)
      where
        none_behind : takes_given before cell ≡ true → (other : ℕ) → has other (gives (before ++ cell ∷ [])) ≡ true → has_broken (pieces other) ≡ false
        none_behind given other stands =
            by_before (has other (gives before)) refl
            (split_or (has other (gives before)) (has other cell.outs)
            (sym (list_any-append (λ (it : ℕ). it == other) (gives before) cell.outs)
            ∙ ap (has other) (ap (λ (outs : List ℕ). gives before ++ outs) (sym (append-nil cell.outs)) ∙ sym (flat_map-append (λ (it : Cell Placed). it.outs) before (cell ∷ []))) ∙ stands))
          where
            by_before : (earlier : Bool) → has other (gives before) ≡ earlier → (has other (gives before) ≡ false → has other cell.outs ≡ true) → has_broken (pieces other) ≡ false
            by_before true is out = none other is
            by_before false is out =
                let found = port_of cell.outs other (out is) in
                ap has_broken (sym (at_ports-stands cell.outs pieces found.0 other found.1))
                ∙ ran.0.caused (unfailed number)
                (none_at_ports cell.ins pieces (λ taken there. none taken (holds-has (λ (it : ℕ). has it (gives before)) taken cell.ins given there))) found.0

module _ (cells : List (Cell NodeKind)) (status : StatusRule) (valid : Valid cells status) (sources : List (List ℕ)) (pieces : ℕ → List Piece) (failed : ℕ → Bool)
    (ran : NetRan sources cells pieces failed) (edge : ℕ) (within : edge < length (gives cells)) where
  ran_keeps : NetKeeps sources cells pieces pieces
  ran_keeps = record { waiting = λ _. []; queued = λ edge. sym (append-nil (pieces edge)); clean = ran.clean; nodes = keep_all sources failed pieces 0 (placed cells) ran.nodes }

  ran_carries : Carries (pieces edge) (flow cells sources edge)
  ran_carries = edge_carries cells status valid sources pieces pieces ran_keeps edge within

  pub ran_front : BeginsWith (flow cells sources edge) (text_of (pieces edge))
  ran_front = ran_carries.front

  pub ran_whole : has_broken (pieces edge) ≡ false → flow cells sources edge ≡ text_of (pieces edge)
  ran_whole none =
      ran_carries.whole (closed_ends (pieces edge) (closed_all sources failed pieces 0 (placed cells) ran.nodes edge (placed_gives cells status valid edge within)) none)

  pub ran_unbroken : ((node : ℕ) → failed node ≡ false) → has_broken (pieces edge) ≡ false
  ran_unbroken unfailed =
      unbroken_all sources failed pieces unfailed [] 0 (placed cells) (λ other there. absurd (true≢false (sym there))) (placed_order cells status valid) ran.nodes edge
      (placed_gives cells status valid edge within)
