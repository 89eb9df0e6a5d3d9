-- Networks (own): nodes in order, the values of their edges, and what the nodes tell. Nothing here knows what a node does, what an edge's
-- value is or what is told: flow, the makers of edges and the order of nodes are instances.
use Rattle.std.specs.Prelude.{ℕ, ◌+◌, List, [], ◌∷◌, ◌++◌, Bool, ◌==◌, if◌then◌else◌, length, map}
use Rattle.std.specs.List.{list_any, flat_map}
use Rattle.fl_graph.specs.declared.graphs.Cell.{Cell}

-- the edge is in the list
abbrev pub has : ℕ → List ℕ → Bool
has edge edges = list_any (λ other. other == edge) edges

-- how often the edge is in the list
abbrev pub count : ℕ → List ℕ → ℕ
count edge [] = 0
count edge (other ∷ edges) = (if other == edge then 1 else 0) + count edge edges

-- the ins of all nodes, and their outs
abbrev pub takes : {Kind : Type 0} → List (Cell Kind) → List ℕ
takes cells = flat_map (λ cell. cell.ins) cells

abbrev pub gives : {Kind : Type 0} → List (Cell Kind) → List ℕ
gives cells = flat_map (λ cell. cell.outs) cells

-- the values of the edges where this one has this value
abbrev pub at : {Value : Type 0} → ℕ → Value → (ℕ → Value) → ℕ → Value
at edge value values other = if edge == other then value else values other

-- the values where these edges have these, the first in the list being that of an edge that stands there twice
abbrev pub store : {Value : Type 0} → List ℕ → List Value → (ℕ → Value) → ℕ → Value
store [] new values = values
store (edge ∷ edges) [] values = values
store (edge ∷ edges) (value ∷ new) values = at edge value (store edges new values)

-- the values of the edges behind a node and behind all: the equation gives those of a node's outs, whose number it is told, from those of its ins
module _ {Kind Value : Type 0} (equation : Kind → ℕ → List Value → List Value) where
  abbrev pub step : Cell Kind → (ℕ → Value) → ℕ → Value
  step cell values = store cell.outs (equation cell.kind (length cell.outs) (map values cell.ins)) values

  abbrev pub after : List (Cell Kind) → (ℕ → Value) → ℕ → Value
  after [] values = values
  after (cell ∷ cells) values = after cells (step cell values)

-- what all nodes tell, each of the values of its ins
module _ {Kind Value Told : Type 0} (equation : Kind → ℕ → List Value → List Value) (tell : Kind → List Value → List Told) where
  abbrev pub run : List (Cell Kind) → (ℕ → Value) → List Told
  run [] values = []
  run (cell ∷ cells) values = tell cell.kind (map values cell.ins) ++ run cells (step equation cell values)
