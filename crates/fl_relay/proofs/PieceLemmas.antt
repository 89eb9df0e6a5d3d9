-- What was given over a relay is taken where what was taken closes.
use Rattle.std.proofs.Common.{◌≡◌, true, List, ◌++◌, sym, ap, ◌∙◌, append-nil}
use Rattle.fl_graph.specs.Runs.{are_closed, is_clean}
use Rattle.fl_graph.specs.declared.pieces.Piece.{Piece}
use Rattle.fl_graph.proofs.PieceLemmas.{nothing-behind}
use Rattle.fl_relay.specs.Rule.{Balances}

-- where what was taken closes, nothing waits
pub all-taken : (given taken waiting : List Piece) → Balances given taken waiting → are_closed taken ≡ true → given ≡ taken
all-taken given taken waiting balance closed =
    balance.0 ∙ ap (λ rest. taken ++ rest) (nothing-behind taken waiting (ap is_clean (sym balance.0) ∙ balance.1) closed) ∙ append-nil taken
