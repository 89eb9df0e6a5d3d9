-- A step of a node's machine in a network (own): which piece went over which edge.
use Rattle.std.specs.Prelude.{◌≡◌, ℕ, List, [], ◌∷◌, ◌++◌, Bool, true, false, not, ◌==◌, ◌<◌, if◌then◌else◌, get_or, length, drop, nat_le, Option, Some, None}
use Rattle.std.specs.List.{slice_get, list_all}
use Rattle.fl_graph.specs.Machines.{State, is_broken, is_mark}
use Rattle.fl_graph.specs.Net.{has}
use Rattle.fl_graph.specs.Runs.{add, Run}
use Rattle.fl_graph.specs.declared.pieces.Act.{Act}
use Rattle.fl_graph.specs.declared.pieces.Act.TheVariants as act
use Rattle.fl_graph.specs.declared.pieces.Piece.{Piece}
use Rattle.fl_graph.specs.declared.pieces.Piece.TheVariants as piece
use Rattle.fl_net.specs.declared.steps.Progress.{Progress}
use Rattle.fl_net.specs.declared.steps.Progress.TheVariants as progress

-- no mark: what an edge without blocks carries
abbrev pub is_plain : Piece → Bool
is_plain piece = not (is_mark piece)

-- a piece of bytes has one at least
abbrev pub has_bytes : Piece → Bool
has_bytes (piece.Bytes bytes) = not (length bytes == 0)
has_bytes piece.Mark = true
has_bytes piece.End = true
has_bytes piece.Broken = true

abbrev pub is_empty : List Piece → Bool
is_empty [] = true
is_empty (piece ∷ pieces) = false

-- a machine took the first piece that waits; where it was refused memory, it has failed
pub record TookFirst (was now : State) (port : ℕ) (refused : Bool) (wire wire' : List Piece) : Type 0 where
  pub piece : Piece
  pub first : wire ≡ piece ∷ wire'
  pub runs : (start : State) (taken put : ℕ → List Piece) (failed : Bool) → (refused ≡ true → failed ≡ true) → Run start was taken put failed
      → Run start now (add port piece taken) put failed
  pub sound : refused ≡ false → is_broken piece ≡ false → now.broken ≡ was.broken

-- a machine put a piece behind those that wait
pub record GaveLast (was now : State) (port : ℕ) (wire wire' : List Piece) : Type 0 where
  pub piece : Piece
  pub last : wire' ≡ wire ++ piece ∷ []
  pub plain : is_plain piece ≡ true
  pub sized : has_bytes piece ≡ true
  pub runs : (start : State) (taken put : ℕ → List Piece) (failed : Bool) → Run start was taken put failed → Run start now taken (add port piece put) failed
  pub broken : now.broken ≡ was.broken
  pub sound : was.broken ≡ false → is_broken piece ≡ false

-- a machine was refused memory before a piece moved, and is broken
pub record Broke (was now : State) : Type 0 where
  pub runs : (start : State) (taken put : ℕ → List Piece) → Run start was taken put true → Run start now taken put true
  pub broken : now.broken ≡ true

-- the pieces that wait on an edge, where these wait on all in order
abbrev pub waiting_on : List (List Piece) → ℕ → List Piece
waiting_on wires edge = get_or wires edge []

-- as many pieces wait as there is room for; where there is no bound, never
abbrev pub is_full : Option ℕ → List Piece → Bool
is_full None pieces = false
is_full (Some room) pieces = nat_le room (length pieces)

-- how many pieces may wait on an edge: one that isn't in the list has no bound
abbrev pub room_on : List (Option ℕ) → ℕ → Option ℕ
room_on rooms edge = get_or rooms edge None

-- a piece has moved
abbrev pub has_moved : Progress → Bool
has_moved progress.Took = true
has_moved progress.Gave = true
has_moved progress.Starves = false
has_moved progress.Waits = false
has_moved progress.Ended = false

-- what comes of a step by what the machine does next, unless memory is refused: a take from an edge on which nothing waits starves, a put
-- to an edge that is full waits, and a stop has ended
abbrev pub progress_at : Act → List ℕ → List ℕ → List (Option ℕ) → List (List Piece) → Progress
progress_at (act.Take port) ins outs rooms wires = if is_empty (waiting_on wires (get_or ins port 0)) then progress.Starves else progress.Took
progress_at (act.Put port) ins outs rooms wires =
    if is_full (room_on rooms (get_or outs port 0)) (waiting_on wires (get_or outs port 0)) then progress.Waits else progress.Gave
progress_at act.Stop ins outs rooms wires = progress.Ended

-- no other edge has changed
abbrev pub SameBut : ℕ → List (List Piece) → List (List Piece) → Type 0
SameBut edge wires wires' = (other : ℕ) → (other == edge) ≡ false → waiting_on wires' other ≡ waiting_on wires other

-- a piece went from an edge among these ins
pub record TookFrom (ins : List ℕ) (wires wires' : List (List Piece)) : Type 0 where
  pub edge : ℕ
  pub there : has edge ins ≡ true
  pub others : SameBut edge wires wires'

-- a piece came to this edge, behind those that wait
pub record CameTo (edge : ℕ) (wires wires' : List (List Piece)) : Type 0 where
  pub piece : Piece
  pub last : waiting_on wires' edge ≡ waiting_on wires edge ++ piece ∷ []
  pub others : SameBut edge wires wires'

-- one came to an edge among these outs
pub record GaveTo (outs : List ℕ) (wires wires' : List (List Piece)) : Type 0 where
  pub edge : ℕ
  pub there : has edge outs ≡ true
  pub came : CameTo edge wires wires'

-- the first piece that waited on this edge went, if one did
pub record WentFrom (edge : ℕ) (wires wires' : List (List Piece)) : Type 0 where
  pub here : waiting_on wires' edge ≡ drop 1 (waiting_on wires edge)
  pub others : SameBut edge wires wires'

-- a machine took a piece from the edge at one of its ins
pub record Took (was now : State) (ins : List ℕ) (refused : Bool) (wires wires' : List (List Piece)) : Type 0 where
  pub port : ℕ
  pub edge : ℕ
  pub there : slice_get ins port ≡ Some edge
  pub moved : TookFirst was now port refused (waiting_on wires edge) (waiting_on wires' edge)
  pub others : SameBut edge wires wires'

-- it put a piece on the edge at one of its outs
pub record Gave (was now : State) (outs : List ℕ) (wires wires' : List (List Piece)) : Type 0 where
  pub port : ℕ
  pub edge : ℕ
  pub there : slice_get outs port ≡ Some edge
  pub opened : was.puts port ≡ true
  pub moved : GaveLast was now port (waiting_on wires edge) (waiting_on wires' edge)
  pub others : SameBut edge wires wires'

-- it would take from an in that is open, and nothing waits there
pub record Starves (now : State) (ins : List ℕ) (wires : List (List Piece)) : Type 0 where
  pub port : ℕ
  pub edge : ℕ
  pub there : slice_get ins port ≡ Some edge
  pub opened : now.takes port ≡ true
  pub none : waiting_on wires edge ≡ []

-- no mark waits
abbrev pub ArePlain : List (List Piece) → Type 0
ArePlain wires = (edge : ℕ) → list_all is_plain (waiting_on wires edge) ≡ true

-- the open ports of a machine are ports of the node, their edges have wires, and it gives no blocks
pub record Fits (now : State) (ins outs : List ℕ) (wires : ℕ) : Type 0 where
  pub ins_known : (port : ℕ) → now.takes port ≡ true → port < length ins
  pub outs_known : (port : ℕ) → now.puts port ≡ true → port < length outs
  pub ins_wired : (port : ℕ) → port < length ins → get_or ins port 0 < wires
  pub outs_wired : (port : ℕ) → port < length outs → get_or outs port 0 < wires
  pub plain : (port : ℕ) → now.numbered_outs port ≡ false
