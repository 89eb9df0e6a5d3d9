-- What nodes begin with, one after another.
use Rattle.std.proofs.Common.{◌≡◌, ℕ, ◌+◌, ◌<◌, List, [], ◌∷◌, ◌++◌, length, take, drop, get_or, ap, sym, subst, ◌∙◌, append-nil}
use Rattle.std.proofs.lemmas.List.{take-append-drop}
use Rattle.fl_graph.specs.Machines.{State}
use Rattle.fl_graph.specs.declared.graphs.Cell.{Cell}
use Rattle.fl_graph.specs.declared.kinds.NodeKind.{NodeKind}
use Rattle.fl_net.specs.Starts.{BeginsAs}
use Rattle.fl_core.specs.declared.machines.NodeMachine.{NodeMachine}
use Rattle.fl_edges.specs.Halves.{AreDealt, HasHalves}
use Rattle.fl_edges.specs.declared.dealing.NodeHalves.{NodeHalves}
use Rattle.fl_edges.proofs.EachLemmas.{each-first, each-next, each-none, each-rest, each-within}
use Rattle.fl_relay.specs.Edges.{EdgeId}
use Rattle.fl_threads.specs.Threads.{EachOf}
use Rattle.fl_runner.specs.Starts.{AreStarts, IsStart}
use Rattle.fl_runner.specs.declared.starts.NodeStart.{NodeStart}

module _ (state : NodeMachine → State) where
  -- so many nodes have what they begin with, and for the others halves are left
  pub record Begun (cells : List (Cell NodeKind)) (count : ℕ) (starts : List (NodeStart NodeMachine)) (left : List NodeHalves) : Type 0 where
    pub ids : ℕ → EdgeId
    pub done : EachOf (IsStart state ids) (take count cells) starts
    pub rest : EachOf (HasHalves ids) (drop count cells) left

  pub begun-first : (cells : List (Cell NodeKind)) (dealt : List NodeHalves) → AreDealt cells dealt → Begun cells 0 [] dealt
  begun-first cells dealt are = record { ids = are.ids; done = tt; rest = are.each }

  pub begun-within : (cells : List (Cell NodeKind)) (count : ℕ) (starts : List (NodeStart NodeMachine)) (halves : NodeHalves) (rest left : List NodeHalves) → left ≡ halves ∷ rest → Begun cells count starts left
      → count < length cells
  begun-within cells count starts halves rest left is begun = each-within (HasHalves begun.ids) cells count halves rest left is begun.rest

  pub begun-next : (cells : List (Cell NodeKind)) (count : ℕ) (starts now : List (NodeStart NodeMachine)) (halves : NodeHalves) (rest left : List NodeHalves) (cell : Cell NodeKind) (machine : NodeMachine)
      → left ≡ halves ∷ rest → count < length cells → cell ≡ get_or cells count cell → now ≡ starts ++ record { machine = machine; halves = halves } ∷ [] → BeginsAs (state machine) cell
      → Begun cells count starts left → Begun cells (count + 1) now rest
  begun-next cells count starts now halves rest left cell machine is within same more begins begun = record {
    ids = begun.ids;
    done = each-next (IsStart state begun.ids) cells count cell starts now (record { machine = machine; halves = halves }) within same more
        (record { begins = begins; halves = each-first (HasHalves begun.ids) cells count cell halves rest left is within same begun.rest }) begun.done;
    rest = each-rest (HasHalves begun.ids) cells count cell halves rest left is within begun.rest;
  }

  pub begun-all : (cells : List (Cell NodeKind)) (count : ℕ) (starts : List (NodeStart NodeMachine)) (left : List NodeHalves) → left ≡ [] → Begun cells count starts left → AreStarts state cells starts
  begun-all cells count starts left none begun =
      let behind : drop count cells ≡ [] = each-none (HasHalves begun.ids) (drop count cells) left none begun.rest in
      let all : take count cells ≡ cells =
      sym (append-nil (take count cells)) ∙ ap (λ (it : List (Cell NodeKind)). take count cells ++ it) (sym behind) ∙ take-append-drop count cells in
      record { ids = begun.ids; each = subst (λ (it : List (Cell NodeKind)). EachOf (IsStart state begun.ids) it starts) all begun.done }
