-- Places that are put in order by numbers stay the same places.
use Rattle.std.proofs.Common.{◌≡◌, ℕ, suc, ◌+◌, ◌<◌, List, [], ◌∷◌, ◌++◌, length, take, drop, map, get_or, set, ap, sym, ◌∙◌, subst}
use Rattle.std.specs.Global.{Vec}
use Rattle.std.specs.List.Sorted.{IsPermutation}
use Rattle.std.specs.Vec.{with_items}
use Rattle.std.proofs.lemmas.List.{drop_more, map-append, take_more, take_more_set, with_items_is}
use Rattle.std.proofs.lemmas.List.Sorted.{IsPermutation-map, IsPermutation-trans, length_permutation}
use Rattle.ut_sort.specs.declared.places.LinePlace.{LinePlace}
use Rattle.ut_sort.specs.Places.{with_number}

-- places that all have this number are the same with it
pub same-number : (number : ℕ) (place : LinePlace) → place.number ≡ number → with_number number place ≡ place
same-number number place is = let back = sym is in λ i. record { number = back i; span = place.span }

-- one more in front has it
one-more : (number : ℕ) (front : List LinePlace) (place : LinePlace) (longer : List LinePlace) → longer ≡ front ++ place ∷ [] → with_number number place ≡ place
    → map (with_number number) front ≡ front → map (with_number number) longer ≡ longer
one-more number front place longer is same all =
    ap (map (with_number number)) is ∙ map-append (with_number number) front (place ∷ []) ∙ (λ i. all i ++ same i ∷ []) ∙ sym is

pub count-more : (number : ℕ) (places : List LinePlace) (count : ℕ) (d : LinePlace) → count < length places → (get_or places count d).number ≡ number
    → map (with_number number) (take count places) ≡ take count places → map (with_number number) (take (count + 1) places) ≡ take (count + 1) places
count-more number places count d low is all =
    one-more number (take count places) (get_or places count d) (take (count + 1) places) (take_more places count d low)
    (same-number number (get_or places count d) is) all

pub set-more : (number : ℕ) (places : List LinePlace) (index : ℕ) (place : LinePlace) → index < length places → with_number number place ≡ place
    → map (with_number number) (take index places) ≡ take index places
    → map (with_number number) (take (index + 1) (set places index place)) ≡ take (index + 1) (set places index place)
set-more number places index place low same all =
    one-more number (take index places) place (take (index + 1) (set places index place)) (take_more_set places index place low) same all

-- a run: the place that it begins with, and those behind it
pub run-is : (number : ℕ) (places rest : List LinePlace) (from count size : ℕ) (d : LinePlace) → from < length places → (get_or places from d).number ≡ number
    → rest ≡ drop (from + 1) places → size ≡ suc count → map (with_number number) (take count rest) ≡ take count rest
    → map (with_number number) (take size (drop from places)) ≡ take size (drop from places)
run-is number places rest from count size d low is behind whole all =
    let run : take size (drop from places) ≡ get_or places from d ∷ take count rest =
    ap (λ size. take size (drop from places)) whole ∙ ap (take (suc count)) (drop_more places from d low)
    ∙ ap (λ rest. get_or places from d ∷ take count rest) (sym behind) in
    ap (map (with_number number)) run ∙ (λ i. same-number number (get_or places from d) is i ∷ all i) ∙ sym run

-- where all have one number, they may have other numbers in between
pub moved-between : (number : ℕ) (old numbered arranged new : List LinePlace) → map (with_number number) old ≡ old
    → map (with_number number) numbered ≡ map (with_number number) old → IsPermutation numbered arranged → new ≡ map (with_number number) arranged
    → IsPermutation old new
moved-between number old numbered arranged new all same moved is =
    subst (IsPermutation old) (sym is)
    (subst (λ first. IsPermutation first (map (with_number number) arranged)) (same ∙ all) (IsPermutation-map (with_number number) numbered arranged moved))

-- a vector whose slice was lent and put in order, and that was then put in order itself
pub lent-moved : (old : Vec LinePlace) (lent arranged new : List LinePlace) → lent ≡ old.items → length lent ≡ old.len → IsPermutation lent arranged
    → IsPermutation (with_items old arranged).items new → IsPermutation old.items new
lent-moved old lent arranged new value size first then =
    IsPermutation-trans old.items arranged new (subst (λ items. IsPermutation items arranged) value first)
    (subst (λ items. IsPermutation items new) (with_items_is old arranged (length_permutation lent arranged first ∙ size)) then)
