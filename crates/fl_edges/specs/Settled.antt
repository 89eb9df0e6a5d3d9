-- What went over the edges of a graph, where each node has run to its stop (own).
use Rattle.std.specs.Prelude.{◌≡◌, ◌<◌, ℕ, List, [], ◌∷◌, ◌++◌, true, map, length, slice_set, Option, Some, None}
use Rattle.std.specs.Global.{Vec}
use Rattle.std.specs.List.{list_all}
use Rattle.std.specs.Option.{option_map_or}
use Rattle.fl_graph.specs.Net.{gives, has, takes}
use Rattle.fl_graph.specs.Runs.{are_closed, is_clean}
use Rattle.fl_graph.specs.declared.graphs.Cell.{Cell}
use Rattle.fl_graph.specs.declared.kinds.NodeKind.{NodeKind}
use Rattle.fl_graph.specs.declared.pieces.Piece.{Piece}
use Rattle.fl_nodes.specs.Stashes.{Lie, half_of, has_each}
use Rattle.fl_relay.specs.declared.edges.EdgeGiver.{EdgeGiver}
use Rattle.fl_relay.specs.declared.edges.EdgeTaker.{EdgeTaker}
use Rattle.fl_relay.specs.Edges.{EdgeId, gives_over, takes_over, put_on, taken_from}
use Rattle.fl_threads.specs.Threads.{EachOf}

-- what lies there where these halves are put at the numbers of these edges, one behind the other
abbrev pub put_all : {Half : Type 0} → List (Option Half) → List ℕ → List Half → List (Option Half)
put_all stash [] halves = stash
put_all stash (edge ∷ edges) [] = stash
put_all stash (edge ∷ edges) (half ∷ halves) = put_all (slice_set stash edge (Some half)) edges halves

-- the halves of all nodes, in their order
abbrev pub all_of : {Half : Type 0} → List (Vec Half) → List Half
all_of [] = []
all_of (own ∷ others) = own.items ++ all_of others

-- nothing lies there
abbrev pub IsBare : {Half : Type 0} → List (Option Half) → Type 0
IsBare stash = (edge : ℕ) → half_of stash edge ≡ None

-- each of a node's takers has come to the end of its edge
abbrev pub AreAtEnds : List (Vec EdgeTaker) → Type 0
AreAtEnds [] = Unit {0}
AreAtEnds (own ∷ others) = (list_all (λ taker. are_closed (taken_from taker)) own.items ≡ true) × AreAtEnds others

-- the halves that came back are those of the nodes' edges
pub record AreBack (cells : List (Cell NodeKind)) (givers : List (Vec EdgeGiver)) (takers : List (Vec EdgeTaker)) : Type 0 where
  pub ids : ℕ → EdgeId
  pub gives : EachOf (λ cell own. map gives_over own.items ≡ map ids cell.outs) cells givers
  pub takes : EachOf (λ cell own. map takes_over own.items ≡ map ids cell.ins) cells takers

-- the givers lie by the numbers of their edges, and the takers are of the relays there
pub record CanSettleEach (stash : List (Option EdgeGiver)) (cells : List (Cell NodeKind)) (takers : List (Vec EdgeTaker)) : Type 0 where
  pub ids : ℕ → EdgeId
  pub pieces : ℕ → List Piece
  pub lie : Lie gives_over put_on ids pieces stash
  pub each : EachOf (λ cell own. map takes_over own.items ≡ map ids cell.ins) cells takers

-- one list of pieces went over each edge: it was put by the node that gives the edge, and taken by the one that takes it
pub record AreSettled (cells : List (Cell NodeKind)) (givers : List (Vec EdgeGiver)) (takers : List (Vec EdgeTaker)) : Type 0 where
  pub pieces : ℕ → List Piece
  pub clean : (edge : ℕ) → edge < length (gives cells) → is_clean (pieces edge) ≡ true
  pub put : EachOf (λ cell own. map put_on own.items ≡ map pieces cell.outs) cells givers
  pub taken : EachOf (λ cell own. map taken_from own.items ≡ map pieces cell.ins) cells takers
