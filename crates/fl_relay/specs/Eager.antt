-- The two halves of a relay without bound, as their callers see them (own).
use Rattle.std.specs.Prelude.{List}
use Rattle.atomic_blocks.specs.Laid.{WebId}
use Rattle.fl_graph.specs.declared.pieces.Piece.{Piece}
use Rattle.fl_relay.specs.declared.eager.EagerGiver.{EagerGiver}
use Rattle.fl_relay.specs.declared.eager.EagerTaker.{EagerTaker}

-- the relay into which a giver puts, and the one from which a taker takes
abbrev pub eager_gives_on : EagerGiver → WebId
eager_gives_on giver = giver.pass.web

abbrev pub eager_takes_on : EagerTaker → WebId
eager_takes_on taker = taker.pass.web

-- what a giver has put so far, in order, and what a taker has taken
abbrev pub eager_given : EagerGiver → List Piece
eager_given giver = giver.pass.me.view.client.given

abbrev pub eager_taken : EagerTaker → List Piece
eager_taken taker = taker.pass.me.view.client.taken
