-- Edges numbered anew (own): in the order of the nodes that give them, and of each node's outs. Nodes are numbered by their place.
use Rattle.std.specs.Prelude.{ℕ, ◌+◌, List, [], ◌∷◌, ◌==◌, if◌then◌else◌, map}
use Rattle.fl_graph.specs.Net.{gives}
use Rattle.fl_graph.specs.declared.graphs.Cell.{Cell}

-- the place where the edge stands first, and behind all where it isn't there
abbrev pub place : List ℕ → ℕ → ℕ
place [] edge = 0
place (other ∷ edges) edge = if other == edge then 0 else 1 + place edges edge

-- the node with its edges numbered so
abbrev pub renamed : {Kind : Type 0} → (ℕ → ℕ) → Cell Kind → Cell Kind
renamed turn cell = record { kind = cell.kind; ins = map turn cell.ins; outs = map turn cell.outs; stage = cell.stage }

-- the nodes with the edges in the order in which they are given
abbrev pub numbered : {Kind : Type 0} → List (Cell Kind) → List (Cell Kind)
numbered cells = map (renamed (place (gives cells))) cells
