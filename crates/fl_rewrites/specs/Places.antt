-- Nodes by their numbers (own): where an edge leads from and to, and nodes that stand in the place of one.
use Rattle.std.specs.Prelude.{ℕ, zero, suc, List, [], ◌∷◌, ◌++◌, Option}
use Rattle.std.specs.List.{position}
use Rattle.fl_graph.specs.Net.{has}
use Rattle.fl_graph.specs.declared.graphs.Cell.{Cell}

-- the number of the node that gives the edge
abbrev pub giver_of : {Kind : Type 0} → ℕ → List (Cell Kind) → Option ℕ
giver_of edge cells = position (λ cell. has edge cell.outs) cells

-- the number of the node that takes it
abbrev pub taker_of : {Kind : Type 0} → ℕ → List (Cell Kind) → Option ℕ
taker_of edge cells = position (λ cell. has edge cell.ins) cells

-- the nodes where the one with this number has become others
abbrev pub replaced : {Kind : Type 0} → (Cell Kind → List (Cell Kind)) → ℕ → List (Cell Kind) → List (Cell Kind)
replaced become place [] = []
replaced become zero (cell ∷ cells) = become cell ++ cells
replaced become (suc place) (cell ∷ cells) = cell ∷ replaced become place cells
