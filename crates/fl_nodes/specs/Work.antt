-- How far a node on a thread has come (own): the pieces that it has taken and put, held against its machine's beginning and what its end held.
use Rattle.std.specs.Prelude.{◌≡◌, ℕ, zero, suc, ◌<◌, ◌≤◌, List, [], ◌∷◌, Bool, true, false, map, length, get_or, Option, Some, None, is_some}
use Rattle.fl_graph.specs.Machines.{State, closes, is_broken, is_mark}
use Rattle.fl_graph.specs.Runs.{add, are_closed, text_of, has_broken, has_end, is_end, Run, is_clean}
use Rattle.fl_graph.specs.declared.pieces.Piece.{Piece}
use Rattle.fl_graph.specs.declared.pieces.Piece.TheVariants as variant
use Rattle.fl_nodes.specs.Ends.{EndState, SameEnd}
use Rattle.fl_relay.specs.declared.edges.EdgeGiver.{EdgeGiver}
use Rattle.fl_relay.specs.declared.edges.EdgeTaker.{EdgeTaker}
use Rattle.fl_relay.specs.Edges.{EdgeId, gives_over, takes_over, put_on, taken_from}
use Rattle.ps_world.specs.Counts.{Rose}
use Rattle.ps_world.specs.Told.{bytes_then, then_bytes, GrewByPrefix, IsEnded}
use Rattle.ps_world.specs.declared.error.WorldErr.{WorldErr}
use Rattle.ps_world.specs.declared.error.WorldErr.TheVariants as error

-- the node's own end failed
abbrev pub is_fault : Option WorldErr → Bool
is_fault None = false
is_fault (Some error.Failed) = true
is_fault (Some error.Memory) = false

-- memory was refused, and before it maybe something else
abbrev pub wanted : Option WorldErr → Option WorldErr
wanted None = Some error.Memory
wanted (Some failure) = Some failure

-- what a node's failure says of its end's count, before and behind a call of it: none is made once it has failed
pub record Fails (before now : Option WorldErr) (was is : ℕ) : Type 0 where
  pub kept : is_some before ≡ true → (now ≡ before) × (is ≡ was)
  pub fault : is_some before ≡ false → is_fault now ≡ true → Rose was is
  pub calm : is_fault now ≡ false → is ≡ was
  pub later : was ≤ is

-- the ports of a machine are as they were
pub record SamePorts (was now : State) : Type 0 where
  pub takes : (port : ℕ) → now.takes port ≡ was.takes port
  pub puts : (port : ℕ) → now.puts port ≡ was.puts port
  pub numbered_ins : (port : ℕ) → now.numbered_ins port ≡ was.numbered_ins port
  pub numbered_outs : (port : ℕ) → now.numbered_outs port ≡ was.numbered_outs port

-- the pieces at a port, where these are those of all in order
abbrev pub at : List (List Piece) → ℕ → List Piece
at pieces port = get_or pieces port []

-- the pieces at the ports of one side: that of the outside comes first, where there is one
abbrev pub side : Bool → List Piece → List (List Piece) → ℕ → List Piece
side true outside pieces zero = outside
side true outside pieces (suc port) = at pieces port
side false outside pieces port = at pieces port

-- how many ports a side has
abbrev pub width : Bool → ℕ → ℕ
width true edges = suc edges
width false edges = edges

-- the edge at a port, counted from 0; the first port leads outside where one does
abbrev pub edge_at : Bool → ℕ → Option ℕ
edge_at true zero = None
edge_at true (suc port) = Some port
edge_at false port = Some port

-- what a node's run is held against: how its machine began, the relays of its edges, and what its end was then
pub record From : Type 0 where
  pub start : State
  pub takes : List EdgeId
  pub gives : List EdgeId
  pub own : EndState

-- all that a node is at one time
pub record Point : Type 0 where
  pub state : State
  pub takers : List EdgeTaker
  pub givers : List EdgeGiver
  pub own : EndState
  pub failure : Option WorldErr

-- its machine's ports are those of the node, and none carries blocks. A node that reads outside has no edge to take from, and writes nothing
pub record Fits (from : From) : Type 0 where
  pub ins : (port : ℕ) → from.start.takes port ≡ true → port < width from.own.reads (length from.takes)
  pub outs : (port : ℕ) → from.start.puts port ≡ true → port < width from.own.writes (length from.gives)
  pub plain : (port : ℕ) → from.start.numbered_outs port ≡ false
  pub alone : from.own.reads ≡ true → from.takes ≡ []
  pub apart : from.own.reads ≡ true → from.own.writes ≡ false

-- what the node's end gave or took, where these pieces came from it or went to it
pub record Moved (from now : EndState) (failure : Option WorldErr) (outside : List Piece) : Type 0 where
  pub same : SameEnd from now
  -- nothing stands behind what closes
  pub clean : is_clean outside ≡ true
  -- what came is the front of what was left, and all of it where its end came
  pub rest : Option (List ℕ)
  pub read : from.reads ≡ true → from.left ≡ bytes_then (text_of outside) rest
  pub ended : from.reads ≡ true → has_end outside ≡ true → IsEnded rest
  pub unread : from.reads ≡ true → is_some failure ≡ false → now.left ≡ rest
  -- no Broken came where it hasn't failed
  pub sound : from.reads ≡ true → is_some failure ≡ false → has_broken outside ≡ false
  -- what went was taken, or a front of it
  pub written : from.writes ≡ true → is_some failure ≡ false → now.taken ≡ then_bytes from.taken (text_of outside)
  pub front : from.writes ≡ true → GrewByPrefix from.taken now.taken (text_of outside)
  -- its count rose where it failed, and stands elsewhere
  pub rose : is_fault failure ≡ true → Rose from.faults now.faults
  pub calm : is_fault failure ≡ false → now.faults ≡ from.faults
  pub later : from.faults ≤ now.faults

-- the node has come here, and has taken and put these pieces at its ports, of which these came from outside or went there
pub record Stands (from : From) (here : Point) (outside : List Piece) (taken put : ℕ → List Piece) : Type 0 where
  pub run : Run from.start here.state taken put (is_some here.failure)
  pub takes : map takes_over here.takers ≡ from.takes
  pub gives : map gives_over here.givers ≡ from.gives
  pub moved : Moved from.own here.own here.failure outside

-- and these are the pieces of its halves
pub record Reached (from : From) (here : Point) : Type 0 where
  pub outside : List Piece
  pub stands : Stands from here outside (side from.own.reads outside (map taken_from here.takers)) (side from.own.writes outside (map put_on here.givers))

-- it has come here from somewhere
pub record IsUnderWay (here : Point) : Type 0 where
  pub from : From
  pub fits : Fits from
  pub reached : Reached from here

-- wherever it came from, it goes from the one point to the other
abbrev pub Leads : Point → Point → Type 0
Leads here there = (from : From) → Fits from → Reached from here → Reached from there

-- its machine has put this piece at this port, and it isn't on its way yet
pub record Holds (from : From) (here : Point) (port : ℕ) (piece : Piece) : Type 0 where
  pub outside : List Piece
  pub known : port < width from.own.writes (length from.gives)
  pub opened : are_closed (side from.own.writes outside (map put_on here.givers) port) ≡ false
  pub plain : is_mark piece ≡ false
  pub stands : Stands from here outside (side from.own.reads outside (map taken_from here.takers))
      (add port piece (side from.own.writes outside (map put_on here.givers)))
  -- one that closes nothing may be let go, if the machine is broken then
  pub back : closes piece ≡ false → (now : State) → SamePorts here.state now → now.broken ≡ true
      → Run from.start now (side from.own.reads outside (map taken_from here.takers)) (side from.own.writes outside (map put_on here.givers)) true

pub record IsHeld (here : Point) (port : ℕ) (piece : Piece) : Type 0 where
  pub from : From
  pub fits : Fits from
  pub holds : Holds from here port piece

-- wherever it came from, it sends the piece on its way, from the one point to the other
abbrev pub Sends : Point → ℕ → Piece → Point → Type 0
Sends here port piece there = (from : From) → Fits from → Holds from here port piece → Reached from there

-- a piece was read, or Broken stands for it where the node has failed, before or now
pub record Received (was now : EndState) (failure failure' : Option WorldErr) (piece : Piece) : Type 0 where
  pub same : SameEnd was now
  pub read : is_some failure' ≡ false → was.left ≡ bytes_then (text_of (piece ∷ [])) now.left
  pub ended : is_some failure' ≡ false → is_end piece ≡ true → IsEnded now.left
  pub whole : is_some failure' ≡ false → is_broken piece ≡ false
  pub broken : is_some failure' ≡ true → piece ≡ variant.Broken
  pub fails : Fails failure failure' was.faults now.faults

-- a node is ready to run: its machine isn't broken, has the node's ports and gives no blocks, and nothing has gone over its edges
pub record IsReady (start : State) (own : EndState) (takers : List EdgeTaker) (givers : List EdgeGiver) : Type 0 where
  pub whole : start.broken ≡ false
  pub ins : (port : ℕ) → start.takes port ≡ true → port < width own.reads (length takers)
  pub outs : (port : ℕ) → start.puts port ≡ true → port < width own.writes (length givers)
  pub plain : (port : ℕ) → start.numbered_outs port ≡ false
  pub alone : own.reads ≡ true → takers ≡ []
  pub apart : own.reads ≡ true → own.writes ≡ false
  pub untaken : (port : ℕ) → at (map taken_from takers) port ≡ []
  pub unput : (port : ℕ) → at (map put_on givers) port ≡ []
