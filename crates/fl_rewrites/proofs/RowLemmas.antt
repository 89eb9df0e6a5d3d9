-- Numbers in a row, made one after another.
use Rattle.std.proofs.Common.{◌≡◌, ℕ, suc, ◌+◌, ◌-◌, ◌<◌, List, [], ◌∷◌, ◌++◌, ap, sym, ◌∙◌, append_assoc, arith}
use Rattle.std.specs.List.{range_with_len}

-- the row and what is left of it are the whole, with one number more in the row too
pub row-on : (row new : List ℕ) (number from count_of : ℕ) → number < from + count_of → new ≡ row ++ (number ∷ [])
    → row ++ range_with_len number (from + count_of - number) ≡ range_with_len from count_of
    → new ++ range_with_len (number + 1) (from + count_of - (number + 1)) ≡ range_with_len from count_of
row-on row new number from count_of below pushed same =
    let left : ℕ = from + count_of - (number + 1) in
    let one_more : from + count_of - number ≡ suc left = omega (arith, below) in
    ap (λ (it : List ℕ). it ++ range_with_len (number + 1) left) pushed ∙ append_assoc row (number ∷ []) (range_with_len (number + 1) left)
    ∙ sym (ap (λ (size : ℕ). row ++ range_with_len number size) one_more) ∙ same
