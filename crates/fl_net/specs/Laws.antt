-- What the pieces on a graph's edges carry (own): what each node took and put meets its equation, so each edge carries its flow.
use Rattle.std.specs.Prelude.{◌≡◌, ℕ, zero, suc, ◌+◌, ◌<◌, List, [], ◌∷◌, ◌++◌, Bool, true, false, not, ◌&&◌, get_or, length}
use Rattle.fl_graph.specs.Machines.{closes}
use Rattle.fl_graph.specs.declared.graphs.Cell.{Cell}
use Rattle.ps_lines.specs.Texts.{BeginsWith}
use Rattle.fl_graph.specs.Runs.{text_of, are_closed, is_clean, has_broken, has_end, completion}
use Rattle.fl_graph.specs.declared.kinds.NodeKind.{NodeKind}
use Rattle.fl_graph.specs.declared.pieces.Piece.{Piece}
use Rattle.fl_classes.specs.Flow.{Placed, placed, texts_given}
use Rattle.fl_classes.specs.Nodes.{texts_at}

-- the pieces carry a front of the text, and all of it where they have an end
pub record Carries (pieces : List Piece) (text : List ℕ) : Type 0 where
  pub front : BeginsWith text (text_of pieces)
  pub whole : has_end pieces ≡ true → text ≡ text_of pieces

-- the pieces at the ports of a node that has these edges
abbrev pub at_ports : List ℕ → (ℕ → List Piece) → ℕ → List Piece
at_ports [] pieces port = []
at_ports (edge ∷ edges) pieces zero = pieces edge
at_ports (edge ∷ edges) pieces (suc port) = at_ports edges pieces port

-- the text that a node with so many ports gives on an out
abbrev pub given : List (List ℕ) → Placed → ℕ → ℕ → (ℕ → List ℕ) → ℕ → List ℕ
given sources node ins outs texts port = get_or (texts_given sources node.0 node.1 outs (texts_at ins texts)) port []

-- what was put is a front of the equation, however what was taken goes on, and where it was ended all of it
pub record Keeps (equation : (ℕ → List ℕ) → ℕ → List ℕ) (taken put : ℕ → List Piece) : Type 0 where
  pub front : (rest : ℕ → List ℕ) (port : ℕ) → BeginsWith (equation (completion taken rest) port) (text_of (put port))
  pub whole : (port : ℕ) → has_end (put port) ≡ true → (rest : ℕ → List ℕ) → equation (completion taken rest) port ≡ text_of (put port)

-- each node keeps its equation
abbrev pub NodesKeep : List (List ℕ) → List (Cell Placed) → (ℕ → List Piece) → (ℕ → List Piece) → Type 0
NodesKeep sources [] taken put = Unit {0}
NodesKeep sources (cell ∷ cells) taken put =
    Keeps (given sources cell.kind (length cell.ins) (length cell.outs)) (at_ports cell.ins taken) (at_ports cell.outs put)
    × NodesKeep sources cells taken put

-- what was taken from the edges of a graph and put on them
pub record NetKeeps (sources : List (List ℕ)) (cells : List (Cell NodeKind)) (taken put : ℕ → List Piece) : Type 0 where
  -- what was put on an edge and not taken
  pub waiting : ℕ → List Piece
  pub queued : (edge : ℕ) → put edge ≡ taken edge ++ waiting edge
  pub clean : (edge : ℕ) → is_clean (put edge) ≡ true
  pub nodes : NodesKeep sources (placed cells) taken put

-- a node that has run to its stop has taken and put these pieces: it kept its equation, closed its outs, and put a Broken only where one was
-- taken or it failed
pub record NodeRan (equation : (ℕ → List ℕ) → ℕ → List ℕ) (outs : ℕ) (taken put : ℕ → List Piece) (failed : Bool) : Type 0 where
  pub keeps : Keeps equation taken put
  pub closed : (port : ℕ) → port < outs → are_closed (put port) ≡ true
  pub caused : failed ≡ false → ((port : ℕ) → has_broken (taken port) ≡ false) → (port : ℕ) → has_broken (put port) ≡ false

-- each node has, where the pieces given on each edge are those taken from it; nodes are counted on from this number
abbrev pub NodesRan : List (List ℕ) → (ℕ → Bool) → ℕ → List (Cell Placed) → (ℕ → List Piece) → Type 0
NodesRan sources failed number [] pieces = Unit {0}
NodesRan sources failed number (cell ∷ cells) pieces =
    NodeRan (given sources cell.kind (length cell.ins) (length cell.outs)) (length cell.outs) (at_ports cell.ins pieces) (at_ports cell.outs pieces) (failed number)
    × NodesRan sources failed (number + 1) cells pieces

-- all nodes of a graph have run to their stops, and these went over its edges
pub record NetRan (sources : List (List ℕ)) (cells : List (Cell NodeKind)) (pieces : ℕ → List Piece) (failed : ℕ → Bool) : Type 0 where
  pub clean : (edge : ℕ) → is_clean (pieces edge) ≡ true
  pub nodes : NodesRan sources failed 0 (placed cells) pieces
