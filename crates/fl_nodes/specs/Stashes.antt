-- Halves that lie by the number of their edge, until their nodes get them or until they are settled (own).
use Rattle.std.specs.Prelude.{◌≡◌, ℕ, List, [], ◌∷◌, Bool, true, ◌&&◌, if◌then◌else◌, map, get_or, slice_set, Option, Some, None, is_some}
use Rattle.fl_graph.specs.declared.pieces.Piece.{Piece}
use Rattle.fl_relay.specs.declared.edges.EdgeGiver.{EdgeGiver}
use Rattle.fl_relay.specs.declared.edges.EdgeTaker.{EdgeTaker}
use Rattle.fl_relay.specs.Edges.{EdgeId, gives_over, takes_over, put_on}

-- the half that lies at the number of an edge, where one does
abbrev pub half_of : {Half : Type 0} → List (Option Half) → ℕ → Option Half
half_of stash edge = get_or stash edge None

-- how many lie there
abbrev pub lying : {Half : Type 0} → List (Option Half) → ℕ → ℕ
lying stash edge = if is_some (half_of stash edge) then 1 else 0

-- what lies there where the half of this edge is gone, and where those of these edges are
abbrev pub without : {Half : Type 0} → List (Option Half) → ℕ → List (Option Half)
without stash edge = slice_set stash edge None

abbrev pub without_all : {Half : Type 0} → List (Option Half) → List ℕ → List (Option Half)
without_all stash [] = stash
without_all stash (edge ∷ edges) = without_all (without stash edge) edges

-- there is a half for each of these edges: one lies at each, and none is wanted twice
abbrev pub has_each : {Half : Type 0} → List (Option Half) → List ℕ → Bool
has_each stash [] = true
has_each stash (edge ∷ edges) = is_some (half_of stash edge) && has_each (without stash edge) edges

-- what lies there now lay there before
abbrev pub LayBefore : {Half : Type 0} → List (Option Half) → List (Option Half) → Type 0
LayBefore {Half} was now = (edge : ℕ) (half : Half) → half_of now edge ≡ Some half → half_of was edge ≡ Some half

-- each half that lies here is of the relay at its number, and has carried the pieces at its number
abbrev pub Lie : {Half : Type 0} → (Half → EdgeId) → (Half → List Piece) → (ℕ → EdgeId) → (ℕ → List Piece) → List (Option Half) → Type 0
Lie {Half} name carried ids pieces stash = (edge : ℕ) (half : Half) → half_of stash edge ≡ Some half → (name half ≡ ids edge) × (carried half ≡ pieces edge)

-- the givers are of some relays, and the taker is of that of its edge
pub record CanSettle (stash : List (Option EdgeGiver)) (edge : ℕ) (taker : EdgeTaker) : Type 0 where
  pub ids : ℕ → EdgeId
  pub pieces : ℕ → List Piece
  pub lie : Lie gives_over put_on ids pieces stash
  pub same : takes_over taker ≡ ids edge

-- and each of these takers is of that of its edge, in order
pub record CanSettleAll (stash : List (Option EdgeGiver)) (edges : List ℕ) (takers : List EdgeTaker) : Type 0 where
  pub ids : ℕ → EdgeId
  pub pieces : ℕ → List Piece
  pub lie : Lie gives_over put_on ids pieces stash
  pub same : map takes_over takers ≡ map ids edges
