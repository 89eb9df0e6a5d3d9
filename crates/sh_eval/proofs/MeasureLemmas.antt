-- What a call on an element of a slice has to show of its measure.
use Rattle.std.proofs.Common.{◌≡◌, ℕ, ◌+◌, ◌*◌, ◌<◌, ◌≤◌, List, length, get_or, max, arith, sym, subst}
use denote.Param.Weighed.{at_most, most}

-- an element weighs no more than the heaviest
pub element-weighs : {Item : Type 0} (weight : Item → ℕ) (items : List Item) (place : ℕ) (one : Item) → place < length items → one ≡ get_or items place one → weight one ≤ most weight items
element-weighs {Item = Item} weight items place one below is = subst (λ (it : Item). weight it ≤ most weight items) (sym is) (at_most weight items place one below)

-- a call on an element, by the places of both functions in their order
pub element-falls : {Item : Type 0} (weight : Item → ℕ) (items : List Item) (place : ℕ) (one : Item) (part t : ℕ) → part ≤ weight one → place < length items → one ≡ get_or items place one
    → 10 * most weight items + 2 ≡ t → 10 * part + 1 < t
element-falls weight items place one part t inner below is now =
    let heaviest = element-weighs weight items place one below is in omega (arith, inner, heaviest, now)

pub part-falls : {Item : Type 0} (weight : Item → ℕ) (items : List Item) (place : ℕ) (one : Item) (whole t : ℕ) → place < length items → one ≡ get_or items place one
    → most weight items < whole → 10 * whole + 0 ≡ t → 10 * weight one + 1 < t
part-falls weight items place one whole t below is inner now =
    let heaviest = element-weighs weight items place one below is in omega (arith, inner, heaviest, now)

-- the second of two weighs no more than both
pub second-weighs : (first second rest : ℕ) → second ≤ max first (max second rest)
second-weighs first second rest = omega arith
