-- Networks over texts that are there from the beginning (own): each waits on its source's edge from outside, and nothing else comes.
use Rattle.std.specs.Prelude.{◌≡◌, ℕ, List, [], ◌∷◌, Bool, true, ◌==◌, if◌then◌else◌, length, slice_get, Some}
use Rattle.std.specs.Global.{Vec}
use Rattle.std.specs.List.{list_all}
use Rattle.fl_graph.specs.declared.graphs.Cell.{Cell}
use Rattle.fl_graph.specs.Machines.{State}
use Rattle.fl_graph.specs.Runs.{are_closed, text_of, has_end, is_clean}
use Rattle.fl_graph.specs.declared.kinds.NodeKind.{NodeKind}
use Rattle.fl_graph.specs.declared.pieces.Piece.{Piece}
use Rattle.fl_classes.specs.Flow.{is_source}
use Rattle.fl_net.specs.Moves.{moves_of}
use Rattle.fl_net.specs.Plans.{outer_edge, IsNetOf, IsPlanOf}
use Rattle.fl_net.specs.Runs.{Goes}
use Rattle.fl_net.specs.Steps.{has_bytes, is_plain, waiting_on}
use Rattle.fl_net.specs.declared.nets.Ports.{Ports}

-- the text of a node among texts by node number: the first of that number, and where there is none the empty text
abbrev pub input_of : List (ℕ × Vec ℕ) → ℕ → List ℕ
input_of [] node = []
input_of (input ∷ inputs) node = if input.0 == node then input.1.items else input_of inputs node

-- a node more may have failed
abbrev pub marked : ℕ → (ℕ → Bool) → ℕ → Bool
marked node failed other = if other == node then true else failed other

-- the pieces are all of the text, and its end
pub record AreWhole (pieces : List Piece) (text : List ℕ) : Type 0 where
  pub carries : text_of pieces ≡ text
  pub ended : has_end pieces ≡ true
  pub clean : is_clean pieces ≡ true
  pub plain : list_all is_plain pieces ≡ true
  pub sized : list_all has_bytes pieces ≡ true

-- each source's text waits on its edge from outside, and nothing elsewhere
pub record IsLoaded (cells : List (Cell NodeKind)) (inputs : ℕ → List ℕ) (wires : List (List Piece)) : Type 0 where
  pub source : (node : ℕ) (cell : Cell NodeKind) → slice_get cells node ≡ Some cell → is_source cell.kind ≡ true
      → AreWhole (waiting_on wires (outer_edge cells node)) (inputs node)
  pub none : (edge : ℕ) → ((node : ℕ) (cell : Cell NodeKind) → slice_get cells node ≡ Some cell → is_source cell.kind ≡ true → edge ≡ outer_edge cells node → ⊥)
      → waiting_on wires edge ≡ []

-- while a source hasn't taken its text to the end, the end waits on its edge from outside
abbrev pub AreBrought : {Machine : Type 0} → (Machine → State) → List (Cell NodeKind) → List Machine → List (List Piece) → Type 0
AreBrought {Machine} state cells machines wires =
    (node : ℕ) (cell : Cell NodeKind) (machine : Machine) → slice_get cells node ≡ Some cell → slice_get machines node ≡ Some machine → is_source cell.kind ≡ true
    → (state machine).takes 0 ≡ true → are_closed (waiting_on wires (outer_edge cells node)) ≡ true

module _ {Machine : Type 0} (state : Machine → State) (cells : List (Cell NodeKind)) (inputs : ℕ → List ℕ) where
  -- the network of these nodes before anything has moved but its sources' texts, which have come
  pub record BeginsOver (ports : List Ports) (machines : List Machine) (wires : List (List Piece)) : Type 0 where
    pub empty : List (List Piece)
    pub net : IsNetOf state cells ports machines empty
    pub all_wires : length wires ≡ length empty
    pub loaded : IsLoaded cells inputs wires

  -- it has come from there to here by so many moves, while these nodes may have failed: all was read at its beginning, and nothing was taken
  -- to the outside
  pub record RunsOver (moves : ℕ) (failed : ℕ → Bool) (ports : List Ports) (machines : List Machine) (wires : List (List Piece)) : Type 0 where
    pub goes : Goes state ports machines wires (λ node. Some []) (λ node. Some [])
    pub planned : IsPlanOf cells goes.plan
    pub counted : length machines ≡ length cells
    pub told : (node : ℕ) → goes.plan.left node ≡ Some (inputs node)
    pub untaken : (node : ℕ) → goes.plan.taken node ≡ Some []
    pub marked : (node : ℕ) → goes.plan.failed node ≡ failed node
    pub brought : AreBrought state cells machines wires
    pub moved : moves ≡ moves_of goes.plan (length cells) goes.reached.took goes.reached.put

-- it runs over the texts of some graph: all that a step asks of any node
pub record CanStep {Machine : Type 0} (state : Machine → State) (ports : List Ports) (machines : List Machine) (wires : List (List Piece)) : Type 0 where
  pub cells : List (Cell NodeKind)
  pub inputs : ℕ → List ℕ
  pub moves : ℕ
  pub failed : ℕ → Bool
  pub over : RunsOver state cells inputs moves failed ports machines wires
  pub all_ports : length ports ≡ length machines
