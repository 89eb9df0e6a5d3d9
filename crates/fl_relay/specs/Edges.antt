-- The halves of an edge, whether its relay has a bound or none (own): which relay they belong to, its room, what was given and what was taken.
use Rattle.std.specs.Prelude.{ℕ, List, Option, Some, None}
use Rattle.atomic_blocks.specs.Laid.{WebId}
use Rattle.fl_graph.specs.declared.pieces.Piece.{Piece}
use Rattle.fl_relay.specs.declared.edges.EdgeGiver.{EdgeGiver}
use Rattle.fl_relay.specs.declared.edges.EdgeGiver.TheVariants as gives
use Rattle.fl_relay.specs.declared.edges.EdgeTaker.{EdgeTaker}
use Rattle.fl_relay.specs.declared.edges.EdgeTaker.TheVariants as takes
use Rattle.fl_relay.specs.Eager.{eager_gives_on, eager_takes_on, eager_given, eager_taken}
use Rattle.fl_relay.specs.Relays.{Id, gives_on, takes_on, room_of, given, taken}

-- what names an edge
pub data EdgeId : Type 0 where
  Bounded : Id → EdgeId
  Unbounded : WebId → EdgeId

-- the edge into which a giver puts, and the one from which a taker takes
abbrev pub gives_over : EdgeGiver → EdgeId
gives_over (gives.Bounded giver) = Bounded (gives_on giver)
gives_over (gives.Unbounded giver) = Unbounded (eager_gives_on giver)

abbrev pub takes_over : EdgeTaker → EdgeId
takes_over (takes.Bounded taker) = Bounded (takes_on taker)
takes_over (takes.Unbounded taker) = Unbounded (eager_takes_on taker)

-- how many pieces may wait on the edge into which a giver puts; none, where it has no bound
abbrev pub room_on : EdgeGiver → Option ℕ
room_on (gives.Bounded giver) = Some (room_of giver)
room_on (gives.Unbounded giver) = None

-- what was put on it so far, in order, and what was taken from it
abbrev pub put_on : EdgeGiver → List Piece
put_on (gives.Bounded giver) = given giver
put_on (gives.Unbounded giver) = eager_given giver

abbrev pub taken_from : EdgeTaker → List Piece
taken_from (takes.Bounded taker) = taken taker
taken_from (takes.Unbounded taker) = eager_taken taker
