-- Networks in which nothing moves any more (own), whatever node has its turn.
use Rattle.std.specs.Prelude.{◌≡◌, ℕ, List, Bool, true, false, not, slice_get, Option, Some}
use Rattle.fl_graph.specs.Machines.{MayDo, State}
use Rattle.fl_graph.specs.declared.pieces.Piece.{Piece}
use Rattle.fl_net.specs.Steps.{has_moved, progress_at}
use Rattle.fl_net.specs.declared.nets.Ports.{Ports}
use Rattle.fl_net.specs.declared.steps.Progress.{Progress}
use Rattle.fl_net.specs.declared.steps.Progress.TheVariants as progress

-- a node of which this step comes can do nothing: it moves no piece, nor does it starve for what it could read from outside
abbrev pub is_stuck : Progress → Bool → Bool
is_stuck progress.Took reads = false
is_stuck progress.Gave reads = false
is_stuck progress.Starves reads = not reads
is_stuck progress.Waits reads = true
is_stuck progress.Ended reads = true

module _ {Machine : Type 0} (state : Machine → State) (ports : List Ports) (machines : List Machine) (rooms : List (Option ℕ)) (wires : List (List Piece)) where
  -- so it is with the machine of a node, which does what it may
  pub record IsStuckAt (node : ℕ) : Type 0 where
    pub moves_none : (machine : Machine) (own : Ports) → slice_get machines node ≡ Some machine → slice_get ports node ≡ Some own
        → is_stuck (progress_at (state machine).act own.ins.items own.outs.items rooms wires) own.reads ≡ true
    pub may : (machine : Machine) → slice_get machines node ≡ Some machine → MayDo (state machine) (state machine).act

  pub record IsStuck : Type 0 where
    pub each : (node : ℕ) → IsStuckAt node

  -- no step of any node moves a piece, and each does what it may
  pub record IsStill : Type 0 where
    pub moves_none : (node : ℕ) (machine : Machine) (own : Ports) → slice_get machines node ≡ Some machine → slice_get ports node ≡ Some own
        → has_moved (progress_at (state machine).act own.ins.items own.outs.items rooms wires) ≡ false
    pub may : (node : ℕ) (machine : Machine) → slice_get machines node ≡ Some machine → MayDo (state machine) (state machine).act
