-- The halves that a node has of a graph's edges (own).
use Rattle.std.specs.Prelude.{◌≡◌, ℕ, List, [], map, Option}
use Rattle.fl_graph.specs.declared.graphs.Cell.{Cell}
use Rattle.fl_graph.specs.declared.kinds.NodeKind.{NodeKind}
use Rattle.fl_graph.specs.declared.pieces.Piece.{Piece}
use Rattle.fl_nodes.specs.Stashes.{Lie}
use Rattle.fl_relay.specs.declared.edges.EdgeGiver.{EdgeGiver}
use Rattle.fl_relay.specs.declared.edges.EdgeTaker.{EdgeTaker}
use Rattle.fl_relay.specs.Edges.{EdgeId, gives_over, takes_over, put_on, taken_from}
use Rattle.fl_threads.specs.Threads.{EachOf}
use Rattle.fl_edges.specs.declared.dealing.NodeHalves.{NodeHalves}

-- no piece yet
abbrev pub no_pieces : ℕ → List Piece
no_pieces edge = []

-- the two halves that lie at a number are of one relay, and have carried nothing
pub record AreLaid (givers : List (Option EdgeGiver)) (takers : List (Option EdgeTaker)) : Type 0 where
  pub ids : ℕ → EdgeId
  pub giving : Lie gives_over put_on ids no_pieces givers
  pub taking : Lie takes_over taken_from ids no_pieces takers

-- a node has the halves of its edges, in order, and nothing has gone over them
pub record HasHalves (ids : ℕ → EdgeId) (cell : Cell NodeKind) (own : NodeHalves) : Type 0 where
  pub takes : map takes_over own.takers.items ≡ map ids cell.ins
  pub gives : map gives_over own.givers.items ≡ map ids cell.outs
  pub untaken : map taken_from own.takers.items ≡ map no_pieces cell.ins
  pub unput : map put_on own.givers.items ≡ map no_pieces cell.outs

-- so has each
pub record AreDealt (cells : List (Cell NodeKind)) (dealt : List NodeHalves) : Type 0 where
  pub ids : ℕ → EdgeId
  pub each : EachOf (HasHalves ids) cells dealt
