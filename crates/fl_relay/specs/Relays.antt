-- The two halves of a relay, as their callers see them (own): which relay they belong to, its room, what was given and what was taken.
use Rattle.std.specs.Prelude.{ℕ, List}
use Rattle.atomic_table.specs.Seated.{TableId}
use Rattle.atomic_table.specs.declared.badge.Badge.{Badge}
use Rattle.crossbeam_channel.specs.Claims.{view}
use Rattle.crossbeam_channel.specs.Ends.{ruled_capacity, sends_on}
use Rattle.crossbeam_channel.specs.declared.flavors.array.Key.{Key}
use Rattle.fl_graph.specs.declared.pieces.Piece.{Piece}
use Rattle.fl_relay.specs.declared.halves.Giver.{Giver}
use Rattle.fl_relay.specs.declared.halves.Taker.{Taker}

-- what names a relay
abbrev pub Id : Type 0
Id = TableId × Badge (Key Piece)

-- the relay into which a giver puts, and the one from which a taker takes
abbrev pub gives_on : Giver → Id
gives_on giver = (giver.pass.table_id, giver.pass.me.0.of)

abbrev pub takes_on : Taker → Id
takes_on taker = (taker.pass.table_id, taker.pass.me.0.of)

-- how many pieces may wait in the relay into which a giver puts
abbrev pub room_of : Giver → ℕ
room_of giver = ruled_capacity (sends_on giver.end)

-- what a giver has put so far, in order, and what a taker has taken
abbrev pub given : Giver → List Piece
given giver = (view giver.pass).given

abbrev pub taken : Taker → List Piece
taken taker = (view taker.pass).taken
