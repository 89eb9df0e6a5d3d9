-- Lines that are made piece by piece.
use Rattle.std.proofs.Common.{◌≡◌, ℕ, List, ◌++◌, Result, Ok, Err, OnOk, ap, ◌∙◌}
use Rattle.std.proofs.lemmas.List.{append_assoc}

-- two pieces behind one another are one behind the line
pub grew_by_both : {T E : Type 0} (result : Result T E) (line front back after new : List ℕ) → after ≡ line ++ front
    → OnOk result (new ≡ after ++ back) → OnOk result (new ≡ line ++ (front ++ back))
grew_by_both (Ok done) line front back after new first second = second ∙ ap (λ (text : List ℕ). text ++ back) first ∙ append_assoc line front back
grew_by_both (Err refused) line front back after new first second = tt
