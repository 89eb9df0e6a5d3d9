-- The rule of a relay (own), at every moment between two atomic steps, whatever the threads do. What was taken, and then what waits in the
-- relay, is what was given; so each piece comes once and in order.
--
-- A pass is what a thread holds of a relay, and a view is what it knows. There are seven kinds of atomic steps of a relay with a bound. Of one
-- without, push and pop stand for send and receive, and a push may be refused memory:
--
--   make                        one pass, which may give and take, and has done neither
--   split                       of its view, into that of the giver and that of the taker
--   send                        one piece more in the giver's view
--   send refused as full        no view changes
--   receive                     one piece more in the taker's view
--   receive refused as empty    no view changes
--   join                        of the giver's and the taker's views, into one again
--
-- No step changes the view of another pass, but split and join.
use Rattle.std.specs.Prelude.{◌≡◌, ℕ, Bool, true, false, not, ◌&&◌, List, [], ◌∷◌, ◌++◌}
use mathlib.Core.Option.{some}
use lib.ListN.{get_elem?}
use Rattle.fl_graph.specs.Machines.{closes}
use Rattle.fl_graph.specs.Runs.{is_clean}
use Rattle.fl_graph.specs.declared.pieces.Piece.{Piece}
use Rattle.fl_relay.specs.declared.rule.View.{View}

-- the views of the giver, of the taker, of one that is both, and of one that was joined into another
abbrev pub giving : List Piece → View
giving given = record { gives = true; takes = false; given = given; taken = [] }

abbrev pub taking : List Piece → View
taking taken = record { gives = false; takes = true; given = []; taken = taken }

abbrev pub whole : List Piece → List Piece → View
whole given taken = record { gives = true; takes = true; given = given; taken = taken }

abbrev pub spent : View
spent = record { gives = false; takes = false; given = []; taken = [] }

-- a view after a send, and after a receive
abbrev pub sent : View → Piece → View
sent view piece = record { gives = view.gives; takes = view.takes; given = view.given ++ piece ∷ []; taken = view.taken }

abbrev pub received : View → Piece → View
received view piece = record { gives = view.gives; takes = view.takes; given = view.given; taken = view.taken ++ piece ∷ [] }

-- what was taken, and then what waits, is what was given, and nothing stands in it behind what closes
abbrev pub Balances : List Piece → List Piece → List Piece → Type 0
Balances given taken waiting = (given ≡ taken ++ waiting) × (is_clean given ≡ true)

-- a pass that may give is the giver and knows what was given, and one that may take is the taker and knows what was taken
abbrev pub Fits : ℕ → ℕ → List Piece → List Piece → ℕ → View → Type 0
Fits giver taker given taken pass view =
    (view.gives ≡ true → (pass ≡ giver) × (view.given ≡ given)) × (view.takes ≡ true → (pass ≡ taker) × (view.taken ≡ taken))

-- these pieces wait in the relay, and each pass has the view at its number
pub record Relayed (waiting : List Piece) (views : List View) : Type 0 where
  pub giver : ℕ
  pub taker : ℕ
  pub given : List Piece
  pub taken : List Piece
  pub balance : Balances given taken waiting
  pub each : (pass : ℕ) (view : View) → get_elem? views pass ≡ some view → Fits giver taker given taken pass view

-- wherever one pass may give and one may take, what the one has taken is a front of what the other has given: what waits is the rest
abbrev pub TakenIsFront : Type 0
TakenIsFront =
    (waiting : List Piece) (views : List View) → Relayed waiting views → (giver taker : ℕ) (gives takes : View)
    → get_elem? views giver ≡ some gives → gives.gives ≡ true → get_elem? views taker ≡ some takes → takes.takes ≡ true
    → Balances gives.given takes.taken waiting
