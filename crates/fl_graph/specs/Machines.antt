-- What a machine is to its callers (own), what it takes and puts, and what that leaves due.
--
-- The value of an edge is the list of its bytes and marks, in order. Marks stand on edges that carry numbered blocks alone, so the value of
-- any other edge is its text.
use Rattle.std.specs.Prelude.{◌≡◌, ℕ, List, [], ◌∷◌, ◌++◌, Bool, true, false, not, ◌&&◌, ◌==◌, if◌then◌else◌}
use Rattle.fl_graph.specs.declared.pieces.Piece.{Piece}
use Rattle.fl_graph.specs.declared.pieces.Piece.TheVariants as piece
use Rattle.fl_graph.specs.declared.pieces.Act.{Act}
use Rattle.fl_graph.specs.declared.pieces.Act.TheVariants as act

-- a mark in a value: no byte has this number
abbrev pub mark : ℕ
mark = 256

pub record State : Type 0 where
  -- what it does next
  pub act : Act
  -- the ins that haven't been taken to their ends, and the outs that haven't been ended
  pub takes : ℕ → Bool
  pub puts : ℕ → Bool
  -- the ins and the outs that carry numbered blocks
  pub numbered_ins : ℕ → Bool
  pub numbered_outs : ℕ → Bool
  -- a Broken was taken, or memory was refused
  pub broken : Bool
  -- what it has still to put on each out, if these values and no others come at its ins
  pub due : (ℕ → List ℕ) → ℕ → List ℕ
  -- whether it will have selected a line, if these come
  pub selects : (ℕ → List ℕ) → Bool

-- nothing follows the piece
abbrev pub closes : Piece → Bool
closes (piece.Bytes bytes) = false
closes piece.Mark = false
closes piece.End = true
closes piece.Broken = true

abbrev pub is_broken : Piece → Bool
is_broken (piece.Bytes bytes) = false
is_broken piece.Mark = false
is_broken piece.End = false
is_broken piece.Broken = true

abbrev pub is_mark : Piece → Bool
is_mark (piece.Bytes bytes) = false
is_mark piece.Mark = true
is_mark piece.End = false
is_mark piece.Broken = false

-- the value of which this piece is the first, if what follows is the rest
abbrev pub comes_first : Piece → List ℕ → List ℕ
comes_first (piece.Bytes bytes) rest = bytes ++ rest
comes_first piece.Mark rest = mark ∷ rest
comes_first piece.End rest = []
comes_first piece.Broken rest = rest

-- the values of all ports, where the piece comes at this one
abbrev pub comes : ℕ → Piece → (ℕ → List ℕ) → ℕ → List ℕ
comes port piece rest other = if other == port then comes_first piece (rest other) else rest other

abbrev pub is_take : Act → Bool
is_take (act.Take port) = true
is_take (act.Put port) = false
is_take act.Stop = false

abbrev pub is_put : Act → Bool
is_put (act.Take port) = false
is_put (act.Put port) = true
is_put act.Stop = false

-- the port of an act, if it has one
abbrev pub port_taken : Act → ℕ
port_taken (act.Take port) = port
port_taken (act.Put port) = 0
port_taken act.Stop = 0

abbrev pub port_put : Act → ℕ
port_put (act.Take port) = 0
port_put (act.Put port) = port
port_put act.Stop = 0

-- the ports that are open behind a piece at this one
abbrev pub shut_by : Bool → ℕ → (ℕ → Bool) → ℕ → Bool
shut_by closing port opens other = if closing then (if other == port then false else opens other) else opens other

-- an act at a port that is open, or a stop where none is
abbrev pub MayDo : State → Act → Type 0
MayDo state (act.Take port) = state.takes port ≡ true
MayDo state (act.Put port) = state.puts port ≡ true
MayDo state act.Stop = ((port : ℕ) → state.takes port ≡ false) × ((port : ℕ) → state.puts port ≡ false)

-- a mark comes at an in that carries no blocks
abbrev pub is_stray : State → Piece → Bool
is_stray state piece = is_mark piece && not (state.numbered_ins (port_taken state.act))

-- these bytes or this mark were the front of what was due at a port
abbrev pub WereDue : ((ℕ → List ℕ) → ℕ → List ℕ) → ((ℕ → List ℕ) → ℕ → List ℕ) → ℕ → List ℕ → Type 0
WereDue was now port front =
    (values : ℕ → List ℕ) (other : ℕ) → was values other ≡ (if other == port then front ++ now values other else now values other)

-- nothing was due there
abbrev pub NoneWasDue : ((ℕ → List ℕ) → ℕ → List ℕ) → ((ℕ → List ℕ) → ℕ → List ℕ) → ℕ → Type 0
NoneWasDue was now port = ((values : ℕ → List ℕ) → was values port ≡ []) × ((values : ℕ → List ℕ) (other : ℕ) → was values other ≡ now values other)

-- a piece of bytes or a mark was the front of what was due there, the mark at an out that carries blocks; an end came where nothing was due;
-- a machine that is broken puts its brokenness alone
abbrev pub DidPut : State → State → ℕ → Piece → Type 0
DidPut was now port (piece.Bytes bytes) = (was.broken ≡ false) × WereDue was.due now.due port bytes
DidPut was now port piece.Mark = (was.broken ≡ false) × (was.numbered_outs port ≡ true) × WereDue was.due now.due port (mark ∷ [])
DidPut was now port piece.End = (was.broken ≡ false) × NoneWasDue was.due now.due port
DidPut was now port piece.Broken = was.broken ≡ true
