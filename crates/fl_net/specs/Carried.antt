-- What the edges of a graph carried, of its flow (own).
use Rattle.std.specs.Prelude.{◌≡◌, ℕ, ◌<◌, List, ◌++◌, Bool, true, false, length, Some}
use Rattle.ps_lines.specs.Texts.{BeginsWith}
use Rattle.fl_graph.specs.Net.{gives}
use Rattle.fl_graph.specs.Runs.{text_of, has_broken, has_end, completed, is_clean}
use Rattle.fl_graph.specs.declared.graphs.Cell.{Cell}
use Rattle.fl_graph.specs.declared.kinds.NodeKind.{NodeKind}
use Rattle.fl_graph.specs.declared.pieces.Piece.{Piece}
use Rattle.fl_classes.specs.Flow.{flow}
use Rattle.fl_net.specs.Laws.{Carries}
use Rattle.fl_net.specs.Plans.{AreTold}

-- an edge on which these pieces were put, and from which those were taken, carries this text: a front of it, and all of it with the end
pub record CarriesText (text : List ℕ) (took put : List Piece) : Type 0 where
  pub carries : Carries put text
  pub taken : BeginsWith text (text_of took)
  pub ended : has_end took ≡ true → text ≡ text_of took
  pub completes : has_end took ≡ true → (rest : List ℕ) → completed took rest ≡ text

-- an edge over which these pieces went, all of them, carried this text where none of them is a Broken, and a front of it in any case; there is
-- none where no node has failed
pub record CarriedText (text : List ℕ) (pieces : List Piece) (failed : ℕ → Bool) : Type 0 where
  pub front : BeginsWith text (text_of pieces)
  pub whole : has_broken pieces ≡ false → text ≡ text_of pieces
  pub unbroken : ((node : ℕ) → failed node ≡ false) → has_broken pieces ≡ false

-- what was put on the edges of a network over texts: each carries its flow, and nothing was put behind what closes; what wasn't taken waits
pub record CarriesFlow (cells : List (Cell NodeKind)) (inputs : ℕ → List ℕ) (took put waiting : ℕ → List Piece) : Type 0 where
  pub carries : (sources : List (List ℕ)) → AreTold sources cells (λ node. Some (inputs node)) → (edge : ℕ) → edge < length (gives cells)
      → Carries (put edge) (flow cells sources edge)
  pub closed : (edge : ℕ) → is_clean (put edge) ≡ true
  pub waits : (edge : ℕ) → put edge ≡ took edge ++ waiting edge
