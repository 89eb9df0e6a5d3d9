-- Runs of a machine (own): what it has taken and put so far, against its equation.
use Rattle.std.specs.Prelude.{◌≡◌, ℕ, List, [], ◌∷◌, ◌++◌, Bool, true, false, not, ◌==◌, ◌&&◌, ◌||◌, if◌then◌else◌}
use Rattle.ps_lines.specs.Texts.{BeginsWith}
use Rattle.fl_graph.specs.Machines.{State, mark, comes_first, closes, is_broken}
use Rattle.fl_graph.specs.declared.pieces.Piece.{Piece}
use Rattle.fl_graph.specs.declared.pieces.Piece.TheVariants as piece

-- the value of pieces: their bytes and marks
abbrev pub text_of : List Piece → List ℕ
text_of [] = []
text_of (piece.Bytes bytes ∷ pieces) = bytes ++ text_of pieces
text_of (piece.Mark ∷ pieces) = mark ∷ text_of pieces
text_of (piece.End ∷ pieces) = text_of pieces
text_of (piece.Broken ∷ pieces) = text_of pieces

-- the whole text is there: the end has come
abbrev pub is_end : Piece → Bool
is_end (piece.Bytes bytes) = false
is_end piece.Mark = false
is_end piece.End = true
is_end piece.Broken = false

abbrev pub has_end : List Piece → Bool
has_end [] = false
has_end (piece ∷ pieces) = is_end piece || has_end pieces

-- the text that pieces and then this rest are; nothing comes behind an end
abbrev pub completed : List Piece → List ℕ → List ℕ
completed [] rest = rest
completed (piece ∷ pieces) rest = comes_first piece (completed pieces rest)

-- the texts at all ports, of what was taken there and of what may still come
abbrev pub completion : (ℕ → List Piece) → (ℕ → List ℕ) → ℕ → List ℕ
completion taken rest port = completed (taken port) (rest port)

-- the pieces of all ports, with one more at this one
abbrev pub add : ℕ → Piece → (ℕ → List Piece) → ℕ → List Piece
add port piece pieces other = if other == port then pieces other ++ piece ∷ [] else pieces other

-- a machine whose equation was this one has taken and put these pieces, and this is due
pub record Ran (equation due : (ℕ → List ℕ) → ℕ → List ℕ) (taken put : ℕ → List Piece) (broken : Bool) : Type 0 where
  -- what was put begins the text of its equation, however the texts at its ins go on
  pub front : (rest : ℕ → List ℕ) (port : ℕ) → BeginsWith (equation (completion taken rest) port) (text_of (put port))
  -- where it isn't broken, that and what is due is the text
  pub whole : broken ≡ false → (rest : ℕ → List ℕ) (port : ℕ) → equation (completion taken rest) port ≡ text_of (put port) ++ due rest port
  -- where an out was ended, all of it was put
  pub ended : (port : ℕ) → has_end (put port) ≡ true → (rest : ℕ → List ℕ) → equation (completion taken rest) port ≡ text_of (put port)

-- and this is what it will have selected, whatever comes
abbrev pub Selects : ((ℕ → List ℕ) → Bool) → ((ℕ → List ℕ) → Bool) → (ℕ → List Piece) → Bool → Type 0
Selects equation selects taken broken = broken ≡ false → (rest : ℕ → List ℕ) → equation (completion taken rest) ≡ selects rest

-- nothing follows these pieces
abbrev pub are_closed : List Piece → Bool
are_closed [] = false
are_closed (piece ∷ pieces) = closes piece || are_closed pieces

-- nothing stands behind what closes
abbrev pub is_clean : List Piece → Bool
is_clean [] = true
is_clean (piece ∷ []) = true
is_clean (piece ∷ next ∷ pieces) = not (closes piece) && is_clean (next ∷ pieces)

-- a Broken is among them
abbrev pub has_broken : List Piece → Bool
has_broken [] = false
has_broken (piece ∷ pieces) = is_broken piece || has_broken pieces

-- the ports that were open are so until a piece closes them
abbrev pub StayOpen : (ℕ → Bool) → (ℕ → Bool) → (ℕ → List Piece) → Type 0
StayOpen start now pieces = (port : ℕ) → now port ≡ (start port && not (are_closed (pieces port)))

-- a machine has come from one state to another by taking and putting these pieces. It may have failed: memory was refused, or what its node
-- reads or writes outside failed
pub record Run (start now : State) (taken put : ℕ → List Piece) (failed : Bool) : Type 0 where
  pub texts : Ran start.due now.due taken put now.broken
  pub selection : Selects start.selects now.selects taken now.broken
  pub ins : StayOpen start.takes now.takes taken
  pub outs : StayOpen start.puts now.puts put
  -- it puts no Broken unless it is broken, is broken only where a Broken was taken or it may have failed, and always where one was taken
  pub honest : now.broken ≡ false → (port : ℕ) → has_broken (put port) ≡ false
  pub caused : failed ≡ false → ((port : ℕ) → has_broken (taken port) ≡ false) → now.broken ≡ false
  pub spread : now.broken ≡ false → (port : ℕ) → has_broken (taken port) ≡ false
  -- the same ports carry blocks
  pub numbered_ins : (port : ℕ) → now.numbered_ins port ≡ start.numbered_ins port
  pub numbered_outs : (port : ℕ) → now.numbered_outs port ≡ start.numbered_outs port

-- what has come of a machine that has stopped
pub record Stopped (start now : State) (taken put : ℕ → List Piece) : Type 0 where
  pub ins : (port : ℕ) → start.takes port ≡ true → are_closed (taken port) ≡ true
  pub outs : (port : ℕ) → start.puts port ≡ true → are_closed (put port) ≡ true
  -- where it isn't broken, each out has its end, behind the value of its equation
  pub ended : now.broken ≡ false → (port : ℕ) → start.puts port ≡ true → has_end (put port) ≡ true
  pub texts : now.broken ≡ false → (port : ℕ) → start.puts port ≡ true → (rest : ℕ → List ℕ) → start.due (completion taken rest) port ≡ text_of (put port)
  pub selection : now.broken ≡ false → (rest : ℕ → List ℕ) → start.selects (completion taken rest) ≡ now.selects rest
