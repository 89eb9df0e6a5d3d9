-- A walk over a text with the places at which the pattern may stand: each step says of the rest of the text what the places before it did.
use Rattle.std.proofs.Common.{◌≡◌, ◌≢◌, ◌↔◌, ◌⊎◌, inl, inr, ℕ, zero, suc, ◌+◌, ◌-◌, ◌<◌, ◌≤◌, Bool, true, false, not, ◌&&◌, List, [], ◌∷◌, ◌++◌, length, take, drop, get_or, slice_get, reverse, Option, Some, None, Result, Ok, Err, OnOk, MatchOption, IsTrue, refl, sym, ap, ◌∙◌, subst, arith}
use Rattle.std.proofs.Math.Seq.{take-add}
use Rattle.std.proofs.lemmas.List.{append_assoc, append-nil, reverse-append, reverse-reverse, length-reverse, length-drop, take-append-drop, take_at, take_more, take_all, drop_more, drop_all}
use Rattle.std.proofs.lemmas.Option.{slice_get_within, get_or_from_slice_get}
use Rattle.std.proofs.lemmas.Bool.{cases_lt, false≢true}
use Rattle.sh_pattern.specs.declared.elements.Element.{Element}
use Rattle.sh_pattern.specs.declared.elements.Element.TheVariants as element
use Rattle.sh_pattern.specs.declared.trims.Side.{Side}
use Rattle.sh_pattern.specs.declared.trims.Side.TheVariants as side
use Rattle.sh_pattern.specs.Fits.{takes, Fits, EndsIn}
use Rattle.sh_pattern.specs.Trims.{FitsAt, IsFirst, IsLast, IsNowhere, IsBest, Cuts, cut, whole, left_of}
use Rattle.sh_pattern.specs.Standing.{from_side, begins_with_star, FitsFrom, FitsFirst, IsBestCount, later, place_of}
use Rattle.sh_pattern.proofs.FitLemmas.{fits_first, fits_rest, fits_takes, fits_no_end}

-- Elements

no_star : (e : Element) (rest : List Element) → begins_with_star (e ∷ rest) ≡ false → e ≢ element.AnyString
no_star e rest none same =
    let star : begins_with_star (element.AnyString ∷ rest) ≡ false = subst (λ (x : Element). begins_with_star (x ∷ rest) ≡ false) same none in
    cc

-- an element other than a star takes the first byte, or nothing fits
took : (p : List Element) (place byte : ℕ) (e : Element) → place < length p → e ≡ get_or p place e → begins_with_star (drop place p) ≡ false → takes e byte ≡ true
    → (more : List ℕ) → Fits (drop place p) (byte ∷ more) ↔ Fits (drop (place + 1) p) more
took p place byte e within here none takes_it more =
    let cut : drop place p ≡ e ∷ drop (place + 1) p = drop_more p place e within ∙ ap (λ (x : Element). x ∷ drop (place + 1) p) (sym here) in
    rw cut (λ fits. fits_rest e byte (drop (place + 1) p) more takes_it fits, λ fits. fits_first e byte (drop (place + 1) p) more takes_it fits)

pub took_not : (p : List Element) (place byte : ℕ) (e : Element) → place < length p → e ≡ get_or p place e → begins_with_star (drop place p) ≡ false → takes e byte ≡ false
    → (more : List ℕ) → Fits (drop place p) (byte ∷ more) → ⊥
took_not p place byte e within here none takes_not more fits =
    let cut : drop place p ≡ e ∷ drop (place + 1) p = drop_more p place e within ∙ ap (λ (x : Element). x ∷ drop (place + 1) p) (sym here) in
    let other = no_star e (drop (place + 1) p) (subst (λ (q : List Element). begins_with_star q ≡ false) cut none) in
    let takes_it = fits_takes e byte (drop (place + 1) p) more other (subst (λ (q : List Element). Fits q (byte ∷ more)) cut fits) in
    cc

pub at_end_not : (p : List Element) (place byte : ℕ) → length p ≤ place → (more : List ℕ) → Fits (drop place p) (byte ∷ more) → ⊥
at_end_not p place byte over more fits =
    let none : byte ∷ more ≡ [] = subst (λ (q : List Element). Fits q (byte ∷ more)) (drop_all place p over) fits in
    cc

-- Endings

-- an ending of an ending is one
twice : {Fit : List ℕ → Type 0} (text : List ℕ) → EndsIn (EndsIn Fit) text → EndsIn Fit text
twice text (passed, left, apart, inner) =
    let (more, last, again, fits) = inner in
    (passed ++ more, last, apart ∙ ap (λ (t : List ℕ). passed ++ t) again ∙ sym (append_assoc passed more last), fits)

itself : {Fit : List ℕ → Type 0} (text : List ℕ) → Fit text → EndsIn Fit text
itself text fits = ([], text, refl, fits)

-- of a text that begins with a byte: the text itself, or an ending of what is behind
ends_split : {Fit : List ℕ → Type 0} (byte : ℕ) (more : List ℕ) → EndsIn Fit (byte ∷ more) → Fit (byte ∷ more) ⊎ EndsIn Fit more
ends_split {Fit} byte more ([], left, apart, fits) = inl (subst Fit (sym apart) fits)
ends_split {Fit} byte more (first ∷ passed, left, apart, fits) = let rest : more ≡ passed ++ left = cc in inr (passed, left, rest, fits)

ends_join : {Fit : List ℕ → Type 0} (byte : ℕ) (more : List ℕ) → Fit (byte ∷ more) ⊎ EndsIn Fit more → EndsIn Fit (byte ∷ more)
ends_join byte more (inl fits) = itself (byte ∷ more) fits
ends_join byte more (inr (passed, left, apart, fits)) = (byte ∷ passed, left, ap (λ (t : List ℕ). byte ∷ t) apart, fits)

ends_nil : {Fit : List ℕ → Type 0} → EndsIn Fit [] → Fit []
ends_nil {Fit} ([], left, apart, fits) = subst Fit (sym apart) fits
ends_nil {Fit} (first ∷ passed, left, apart, fits) = absurd cc

-- Stars

-- the star at this place
starred : (p : List Element) (place : ℕ) → begins_with_star (drop place p) ≡ true → drop place p ≡ element.AnyString ∷ drop (place + 1) p
starred [] zero star = absurd cc
starred [] (suc place) star = absurd cc
starred (element.AnyString ∷ rest) zero star = refl
starred (element.AnyByte ∷ rest) zero star = absurd cc
starred (element.Byte byte ∷ rest) zero star = absurd cc
starred (element.OneOf items ∷ rest) zero star = absurd cc
starred (element.NoneOf items ∷ rest) zero star = absurd cc
starred (e ∷ rest) (suc place) star =
    let next : suc place + 1 ≡ suc (place + 1) = omega arith in
    subst (λ (n : ℕ). drop place rest ≡ element.AnyString ∷ drop n (e ∷ rest)) (sym next) (starred rest place star)

-- past one star more
pub past_one : (p : List Element) (place at : ℕ) → begins_with_star (drop at p) ≡ true
    → ((text : List ℕ) → EndsIn (Fits (drop place p)) text ↔ EndsIn (Fits (drop at p)) text)
    → (text : List ℕ) → EndsIn (Fits (drop place p)) text ↔ EndsIn (Fits (drop (at + 1) p)) text
past_one p place at star same text =
    let cut = starred p at star in
    let there : EndsIn (Fits (drop at p)) text → EndsIn (Fits (drop (at + 1) p)) text = λ ends. twice text (subst (λ (q : List Element). EndsIn (Fits q) text) cut ends) in
    let back : EndsIn (Fits (drop (at + 1) p)) text → EndsIn (Fits (drop at p)) text = λ ends. subst (λ (q : List Element). EndsIn (Fits q) text) (sym cut) (itself {Fit = Fits (element.AnyString ∷ drop (at + 1) p)} text ends) in
    (λ ends. there ((same text).0 ends), λ ends. (same text).1 (back ends))

-- a star leads on to itself, and to what is behind the stars
pub star_leads : (p : List Element) (place behind byte : ℕ) → begins_with_star (drop place p) ≡ true
    → ((text : List ℕ) → EndsIn (Fits (drop (place + 1) p)) text ↔ EndsIn (Fits (drop behind p)) text)
    → (more : List ℕ) → Fits (drop place p) (byte ∷ more) ↔ (Fits (drop place p) more ⊎ Fits (drop behind p) (byte ∷ more))
star_leads p place behind byte star same more =
    let cut = starred p place star in
    let as_ends : (text : List ℕ) → Fits (drop place p) text → EndsIn (Fits (drop behind p)) text = λ text fits. (same text).0 (subst (λ (q : List Element). Fits q text) cut fits) in
    let of_ends : (text : List ℕ) → EndsIn (Fits (drop behind p)) text → Fits (drop place p) text = λ text ends. subst (λ (q : List Element). Fits q text) (sym cut) ((same text).1 ends) in (
      λ fits. elim (ends_split byte more (as_ends (byte ∷ more) fits)) [ inl here ↦ inr here | inr later ↦ inl (of_ends more later) ],
      λ either. of_ends (byte ∷ more) (ends_join byte more (elim either [ inl later ↦ inr (as_ends more later) | inr here ↦ inl here ])),
    )

-- at the end of a text the pattern may end where only stars are left
pub ends_here : (p : List Element) (place behind : ℕ) → begins_with_star (drop behind p) ≡ false
    → ((text : List ℕ) → EndsIn (Fits (drop place p)) text ↔ EndsIn (Fits (drop behind p)) text) → length p ≤ behind → Fits (drop place p) []
ends_here p place behind none same over = ends_nil ((same []).1 (itself [] (subst (λ (q : List Element). Fits q []) (sym (drop_all behind p over)) refl)))

pub ends_not : (p : List Element) (place behind : ℕ) → begins_with_star (drop behind p) ≡ false
    → ((text : List ℕ) → EndsIn (Fits (drop place p)) text ↔ EndsIn (Fits (drop behind p)) text) → behind < length p → Fits (drop place p) [] → ⊥
ends_not p place behind none same within fits =
    let here : Fits (drop behind p) [] = ends_nil ((same []).0 (itself [] fits)) in
    by_first (drop behind p) none here (subst (λ (n : ℕ). 0 < n) (sym (length-drop behind p)) (omega (arith, within)))
  where
    by_first : (q : List Element) → begins_with_star q ≡ false → Fits q [] → 0 < length q → ⊥
    by_first [] star fits_it some = omega (arith, some)
    by_first (e ∷ rest) star fits_it some = fits_no_end e rest (no_star e rest star) fits_it

-- Places

pub from-append : (p : List Element) (places : List ℕ) (place : ℕ) (text : List ℕ) → FitsFrom p (places ++ place ∷ []) text ↔ (FitsFrom p places text ⊎ Fits (drop place p) text)
from-append p [] place text = (λ fits. elim fits [ inl here ↦ inr here | inr none ↦ inl none ], λ fits. elim fits [ inl none ↦ inr none | inr here ↦ inl here ])
from-append p (first ∷ places) place text =
    let rest = from-append p places place text in (
      λ fits. elim fits [ inl here ↦ inl (inl here) | inr more ↦ elim (rest.0 more) [ inl before ↦ inl (inr before) | inr here ↦ inr here ] ],
      λ fits. elim fits [ inl before ↦ elim before [ inl here ↦ inl here | inr others ↦ inr (rest.1 (inl others)) ] | inr here ↦ inr (rest.1 (inr here)) ],
    )

-- a place that is there already
pub there_already : (p : List Element) (places front : List ℕ) (place : ℕ) (text : List ℕ) → places ≡ front ++ place ∷ [] → FitsFrom p places text ↔ (FitsFrom p places text ⊎ Fits (drop place p) text)
there_already p places front place text same = (
  λ fits. inl fits,
  λ fits. elim fits [ inl here ↦ here | inr last ↦ subst (λ (all : List ℕ). FitsFrom p all text) (sym same) ((from-append p front place text).1 (inr last)) ],
)

-- Both sides

-- a star, or an element that takes one byte
pub data Kind : Element → Type 0 where
  star : Kind element.AnyString
  other : {e : Element} → e ≢ element.AnyString → Kind e

kind_of : (e : Element) → Kind e
kind_of (element.Byte byte) = other (λ same. cc)
kind_of element.AnyByte = other (λ same. cc)
kind_of element.AnyString = star
kind_of (element.OneOf items) = other (λ same. cc)
kind_of (element.NoneOf items) = other (λ same. cc)

record Taken (e : Element) (rest : List Element) (text : List ℕ) : Type 0 where
  byte : ℕ
  left : List ℕ
  begins : text ≡ byte ∷ left
  took_it : takes e byte ≡ true
  fits : Fits rest left

taken : (e : Element) (rest : List Element) (text : List ℕ) → e ≢ element.AnyString → Fits (e ∷ rest) text → Taken e rest text
taken e rest [] differs fits_it = absurd (fits_no_end e rest differs fits_it)
taken e rest (byte ∷ left) differs fits_it =
    let it = fits_takes e byte rest left differs fits_it in
    record { byte = byte; left = left; begins = refl; took_it = it; fits = fits_rest e byte rest left it fits_it }

-- two patterns one behind the other fit two texts so
fits_both : (p q : List Element) (front back : List ℕ) → Fits p front → Fits q back → Fits (p ++ q) (front ++ back)
fits_both [] q front back none fits = subst (λ (t : List ℕ). Fits q (t ++ back)) (sym none) fits
fits_both (e ∷ rest) q front back first fits = by_kind e (kind_of e) first (λ left more. fits_both rest q left back more fits)
  where
    by_kind : (e : Element) → Kind e → Fits (e ∷ rest) front → ((left : List ℕ) → Fits rest left → Fits (rest ++ q) (left ++ back)) → Fits (e ∷ (rest ++ q)) (front ++ back)
    by_kind element.AnyString star (passed, left, apart, more) go =
        (passed, left ++ back, ap (λ (t : List ℕ). t ++ back) apart ∙ append_assoc passed left back, go left more)
    by_kind e (other differs) it go =
        let one = taken e rest front differs it in
        subst (λ (t : List ℕ). Fits (e ∷ (rest ++ q)) (t ++ back)) (sym one.begins) (fits_first e one.byte (rest ++ q) (one.left ++ back) one.took_it (go one.left one.fits))

record Cut (p q : List Element) (text : List ℕ) : Type 0 where
  front : List ℕ
  back : List ℕ
  cut : text ≡ front ++ back
  first : Fits p front
  second : Fits q back

-- the first element alone, and the others
first_alone : (e : Element) (rest : List Element) (text : List ℕ) → Fits (e ∷ rest) text → Cut (e ∷ []) rest text
first_alone e rest text it = by_kind e (kind_of e) it
  where
    by_kind : (e : Element) → Kind e → Fits (e ∷ rest) text → Cut (e ∷ []) rest text
    by_kind element.AnyString star (passed, left, apart, more) =
        record { front = passed; back = left; cut = apart; first = (passed, [], sym (append-nil passed), refl); second = more }
    by_kind e (other differs) fits_it =
        let one = taken e rest text differs fits_it in
        record { front = one.byte ∷ []; back = one.left; cut = one.begins; first = fits_first e one.byte [] [] one.took_it refl; second = one.fits }

one_turned : (e : Element) (text : List ℕ) → Fits (e ∷ []) text → Fits (e ∷ []) (reverse text)
one_turned e text it = by_kind e (kind_of e) it
  where
    by_kind : (e : Element) → Kind e → Fits (e ∷ []) text → Fits (e ∷ []) (reverse text)
    by_kind element.AnyString star fits_it = (reverse text, [], sym (append-nil (reverse text)), refl)
    by_kind e (other differs) fits_it =
        let one = taken e [] text differs fits_it in
        let alone : text ≡ one.byte ∷ [] = one.begins ∙ ap (λ (t : List ℕ). one.byte ∷ t) one.fits in
        subst (λ (t : List ℕ). Fits (e ∷ []) (reverse t)) (sym alone) (fits_first e one.byte [] [] one.took_it refl)

-- the reversed pattern fits the reversed text
turned : (p : List Element) (text : List ℕ) → Fits p text → Fits (reverse p) (reverse text)
turned [] text none = ap reverse none
turned (e ∷ rest) text it =
    let parts = first_alone e rest text it in
    let both = fits_both (reverse rest) (e ∷ []) (reverse parts.back) (reverse parts.front) (turned rest parts.back parts.second) (one_turned e parts.front parts.first) in
    let bytes : reverse text ≡ reverse parts.back ++ reverse parts.front = ap reverse parts.cut ∙ reverse-append parts.front parts.back in
    subst (λ (q : List Element). Fits q (reverse text)) (sym (reverse-append (e ∷ []) rest)) (subst (λ (t : List ℕ). Fits (reverse rest ++ e ∷ []) t) (sym bytes) both)

turned_back : (p : List Element) (text : List ℕ) → Fits (reverse p) (reverse text) → Fits p text
turned_back p text it =
    subst (λ (q : List Element). Fits q text) (reverse-reverse p) (subst (λ (t : List ℕ). Fits (reverse (reverse p)) t) (reverse-reverse text) (turned (reverse p) (reverse text) it))

first_of_reverse : (text : List ℕ) (count : ℕ) → count ≤ length text → take count (reverse text) ≡ reverse (drop (length text - count) text)
first_of_reverse text count within =
    let place = length text - count in
    let whole : reverse text ≡ reverse (drop place text) ++ reverse (take place text) = ap reverse (sym (take-append-drop place text)) ∙ reverse-append (take place text) (drop place text) in
    let long : length (reverse (drop place text)) ≡ count = length-reverse (drop place text) ∙ length-drop place text ∙ omega (arith, within) in
    ap (take count) whole ∙ take_at (reverse (drop place text)) (reverse (take place text)) count long

-- what fits so many bytes from the side fits at their place
at_place : (at : Side) (pattern : List Element) (text : List ℕ) (count : ℕ) → count ≤ length text
    → FitsFirst (from_side at pattern) (from_side at text) count ↔ FitsAt at pattern text (place_of at count (length text))
at_place side.Prefix pattern text count within = (λ fits. fits, λ fits. fits)
at_place side.Suffix pattern text count within =
    let same = first_of_reverse text count within in (
      λ fits. turned_back pattern (drop (length text - count) text) (subst (λ (t : List ℕ). Fits (reverse pattern) t) same fits),
      λ fits. subst (λ (t : List ℕ). Fits (reverse pattern) t) (sym same) (turned pattern (drop (length text - count) text) fits),
    )

-- from the numbers of bytes to the places
module _ (pattern : List Element) (text : List ℕ) where
  abbrev end : ℕ
  end = length text

  Counts : Side → ℕ → Type 0
  Counts at count = FitsFirst (from_side at pattern) (from_side at text) count

  -- the place behind the other bytes
  turned_place : (place : ℕ) → place ≤ end → FitsAt side.Suffix pattern text place → Counts side.Suffix (end - place)
  unfolding Counts
  turned_place place within fits =
      let same : end - (end - place) ≡ place = omega (arith, within) in
      (at_place side.Suffix pattern text (end - place) (omega arith)).1 (subst (λ (p : ℕ). FitsAt side.Suffix pattern text p) (sym same) fits)

  least_is_last : (count : ℕ) → IsFirst (Counts side.Suffix) end count → IsLast (FitsAt side.Suffix pattern text) end (end - count)
  unfolding Counts
  least_is_last count first =
      let low = first.within in
      record {
        within = omega arith;
        here = (at_place side.Suffix pattern text count low).0 first.here;
        greatest = λ place within fits. let least = first.least (end - place) (omega arith) (turned_place place within fits) in omega (arith, least, within, low);
      }

  most_is_first : (count : ℕ) → IsLast (Counts side.Suffix) end count → IsFirst (FitsAt side.Suffix pattern text) end (end - count)
  unfolding Counts
  most_is_first count last =
      let low = last.within in
      record {
        within = omega arith;
        here = (at_place side.Suffix pattern text count low).0 last.here;
        least = λ place within fits. let most = last.greatest (end - place) (omega arith) (turned_place place within fits) in omega (arith, most, within, low);
      }

  best_place : (at : Side) (longest : Bool) (count : ℕ) → IsBestCount longest (Counts at) end count → IsBest at longest (FitsAt at pattern text) end (place_of at count end)
  unfolding Counts
  best_place side.Prefix false count best = best
  best_place side.Prefix true count best = best
  best_place side.Suffix false count best = least_is_last count best
  best_place side.Suffix true count best = most_is_first count best

  nowhere : (at : Side) → IsNowhere (Counts at) end → IsNowhere (FitsAt at pattern text) end
  unfolding Counts
  nowhere side.Prefix none = none
  nowhere side.Suffix none = λ place within fits. none (end - place) (omega arith) (turned_place place within fits)

  pub cut_at : (at : Side) (longest : Bool) (found : Option ℕ) (count : ℕ) → found ≡ Some count
      → MatchOption found (IsNowhere (FitsFirst (from_side at pattern) (from_side at text)) (length text)) (IsBestCount longest (FitsFirst (from_side at pattern) (from_side at text)) (length text))
      → Cuts at longest pattern text (left_of at (place_of at count (length text)) text)
  unfolding Counts
  cut_at at longest None count same best = absurd cc
  cut_at at longest (Some found) count same best =
      let this : found ≡ count = cc in
      subst (λ c. Cuts at longest pattern text (left_of at (place_of at c (length text)) text)) this (cut (place_of at found (length text)) (best_place at longest found best))

  pub uncut : (at : Side) (longest : Bool) (found : Option ℕ) → found ≡ None
      → MatchOption found (IsNowhere (FitsFirst (from_side at pattern) (from_side at text)) (length text)) (IsBestCount longest (FitsFirst (from_side at pattern) (from_side at text)) (length text))
      → Cuts at longest pattern text text
  unfolding Counts
  uncut at longest None same none = whole (nowhere at none)
  uncut at longest (Some found) same best = absurd cc

-- The walk

-- so many bytes are passed, and the pattern may stand at these places
abbrev pub Stands : List Element → List ℕ → ℕ → List ℕ → Type 0
Stands p text count places = (more : List ℕ) → Fits p (take count text ++ more) ↔ FitsFrom p places more

pub stands_first : (p : List Element) (text places : List ℕ) → places ≡ 0 ∷ [] → Stands p text 0 places
stands_first p text places same more =
    subst (λ (all : List ℕ). Fits p more ↔ FitsFrom p all more) (sym same) (λ fits. inl fits, λ fits. elim fits [ inl here ↦ here | inr none ↦ absurd none ])

pub stands_next : (p : List Element) (text places next : List ℕ) (count byte : ℕ) → count < length text → byte ≡ get_or text count byte
    → ((more : List ℕ) → FitsFrom p places (byte ∷ more) ↔ FitsFrom p next more) → Stands p text count places → Stands p text (count + 1) next
stands_next p text places next count byte within here steps stands more =
    let front : take (count + 1) text ≡ take count text ++ byte ∷ [] = take_more text count byte within ∙ ap (λ (b : ℕ). take count text ++ b ∷ []) (sym here) in
    let bytes : take (count + 1) text ++ more ≡ take count text ++ (byte ∷ more) = ap (λ (t : List ℕ). t ++ more) front ∙ append_assoc (take count text) (byte ∷ []) more in (
      λ fits. (steps more).0 ((stands (byte ∷ more)).0 (subst (Fits p) bytes fits)),
      λ fits. subst (Fits p) (sym bytes) ((stands (byte ∷ more)).1 ((steps more).1 fits)),
    )

pub here_fits : (p : List Element) (text places : List ℕ) (count : ℕ) → Stands p text count places → FitsFrom p places [] → FitsFirst p text count
here_fits p text places count stands fits = subst (Fits p) (append-nil (take count text)) ((stands []).1 fits)

pub fits_here : (p : List Element) (text places : List ℕ) (count : ℕ) → Stands p text count places → FitsFirst p text count → FitsFrom p places []
fits_here p text places count stands fits = (stands []).0 (subst (Fits p) (sym (append-nil (take count text))) fits)

-- where the pattern may stand nowhere, no more bytes fit
none_beyond : (p : List Element) (text places : List ℕ) (count : ℕ) → places ≡ [] → Stands p text count places → (other_count : ℕ) → count < other_count → FitsFirst p text other_count → ⊥
none_beyond p text places count none stands other_count behind fits =
    let apart : other_count ≡ count + (other_count - count) = omega (arith, behind) in
    let bytes : take other_count text ≡ take count text ++ take (other_count - count) (drop count text) = ap (λ (n : ℕ). take n text) apart ∙ take-add count (other_count - count) text in
    subst (λ (all : List ℕ). FitsFrom p all (take (other_count - count) (drop count text))) none ((stands (take (other_count - count) (drop count text))).0 (subst (Fits p) bytes fits))

-- the last number of bytes below this one that fits
abbrev pub LastBelow : (ℕ → Type 0) → ℕ → Option ℕ → Type 0
LastBelow Holds count None = (other_count : ℕ) → other_count < count → Holds other_count → ⊥
LastBelow Holds count (Some last) = (last < count) × Holds last × ((other_count : ℕ) → other_count < count → Holds other_count → other_count ≤ last)

pub none_below : (Holds : ℕ → Type 0) → LastBelow Holds 0 None
none_below Holds other_count below holds = omega (arith, below)

pub one_on : (Holds : ℕ → Type 0) (count : ℕ) (ends : Bool) (found : Option ℕ) → IsTrue ends ↔ Holds count → LastBelow Holds count found → LastBelow Holds (count + 1) (later ends count found)
one_on Holds count true found holds last = (omega arith, holds.0 refl, λ other_count below there. omega (arith, below))
one_on Holds count false None holds last = λ other_count below there.
    elim (cases_lt other_count count) [
      | inl earlier ↦ last other_count earlier there
      | inr behind ↦ absurd (false≢true (holds.1 (subst Holds (omega (arith, below, behind)) there)))
    ]
one_on Holds count false (Some best) holds (before, here, greatest) = (
  omega (arith, before),
  here,
  λ other_count below there.
      elim (cases_lt other_count count) [
        | inl earlier ↦ greatest other_count earlier there
        | inr behind ↦ absurd (false≢true (holds.1 (subst Holds (omega (arith, below, behind)) there)))
      ],
)

-- the first that fits, where the fewest bytes are wanted
pub first_found : (Holds : ℕ → Type 0) (end count : ℕ) (longest : Bool) (found : Option ℕ) → longest ≡ false → (longest ≡ false → found ≡ None) → count ≤ end → Holds count → LastBelow Holds count found → IsBestCount longest Holds end count
first_found Holds end count true found short none within here last = absurd cc
first_found Holds end count false (Some best) short none within here last = absurd (let no = none refl in cc)
first_found Holds end count false None short none within here last = record {
  within = within;
  here = here;
  least = λ other_count inside there.
      elim (cases_lt other_count count) [
        | inl earlier ↦ absurd (last other_count earlier there)
        | inr behind ↦ behind
      ];
}

-- the walk is over
pub over : (Holds : ℕ → Type 0) (end count : ℕ) (longest ends : Bool) (found : Option ℕ) → (longest ≡ false → ends ≡ false) → (longest ≡ false → found ≡ None) → count ≤ end
    → LastBelow Holds (count + 1) (later ends count found) → ((other_count : ℕ) → count < other_count → other_count ≤ end → Holds other_count → ⊥)
    → MatchOption (later ends count found) (IsNowhere Holds end) (IsBestCount longest Holds end)
over Holds end count longest ends found short none within last beyond = by_found longest (later ends count found) (λ fewest. ap (λ e. later e count found) (short fewest) ∙ none fewest) last
  where
    by_found : (longest : Bool) (best : Option ℕ) → (longest ≡ false → best ≡ None) → LastBelow Holds (count + 1) best → MatchOption best (IsNowhere Holds end) (IsBestCount longest Holds end)
    by_found longest None nothing last = λ other_count inside there.
        elim (cases_lt other_count (count + 1)) [
          | inl earlier ↦ last other_count earlier there
          | inr behind ↦ beyond other_count (omega (arith, behind)) inside there
        ]
    by_found false (Some best) nothing last = absurd (let no = nothing refl in cc)
    by_found true (Some best) nothing (before, here, greatest) = record {
      within = omega (arith, before, within);
      here = here;
      greatest = λ other_count inside there.
          elim (cases_lt other_count (count + 1)) [
            | inl earlier ↦ greatest other_count earlier there
            | inr behind ↦ absurd (beyond other_count (omega (arith, behind)) inside there)
          ];
    }

pub at_the_end : (Holds : ℕ → Type 0) (end count : ℕ) → count ≡ end → (other_count : ℕ) → count < other_count → other_count ≤ end → Holds other_count → ⊥
at_the_end Holds end count same other_count behind inside there = omega (arith, same, behind, inside)

pub nowhere_left : (p : List Element) (text places : List ℕ) (end count : ℕ) → places ≡ [] → Stands p text count places → (other_count : ℕ) → count < other_count → other_count ≤ end → FitsFirst p text other_count → ⊥
nowhere_left p text places end count none stands other_count behind inside there = none_beyond p text places count none stands other_count behind there

-- a star at this place, and what was taken behind it
pub star_taken : {Fault : Type 0} (result : Result Unit Fault) (p : List Element) (place behind byte : ℕ) (old mid new : List ℕ) → begins_with_star (drop place p) ≡ true
    → ((text : List ℕ) → EndsIn (Fits (drop (place + 1) p)) text ↔ EndsIn (Fits (drop behind p)) text)
    → ((pattern : List Element) (text : List ℕ) → FitsFrom pattern mid text ↔ (FitsFrom pattern old text ⊎ Fits (drop place pattern) text))
    → OnOk result ((more : List ℕ) → FitsFrom p new more ↔ (FitsFrom p mid more ⊎ Fits (drop behind p) (byte ∷ more)))
    → OnOk result ((more : List ℕ) → FitsFrom p new more ↔ (FitsFrom p old more ⊎ Fits (drop place p) (byte ∷ more)))
star_taken (Err fault) p place behind byte old mid new starry same stays goes = tt
star_taken (Ok done) p place behind byte old mid new starry same stays goes = λ more.
    let leads = star_leads p place behind byte starry same more in (
      λ fits. elim ((goes more).0 fits) [
        | inl before ↦ elim ((stays p more).0 before) [ inl earlier ↦ inl earlier | inr here ↦ inr (leads.1 (inl here)) ]
        | inr later ↦ inr (leads.1 (inr later))
      ],
      λ either. elim either [
        | inl earlier ↦ (goes more).1 (inl ((stays p more).1 (inl earlier)))
        | inr it ↦ elim (leads.0 it) [ inl here ↦ (goes more).1 (inl ((stays p more).1 (inr here))) | inr later ↦ (goes more).1 (inr later) ]
      ],
    )

-- an element took the byte
pub one_taken : (p : List Element) (place byte : ℕ) (old new : List ℕ) (e : Element) → place < length p → e ≡ get_or p place e → begins_with_star (drop place p) ≡ false → takes e byte ≡ true
    → ((pattern : List Element) (text : List ℕ) → FitsFrom pattern new text ↔ (FitsFrom pattern old text ⊎ Fits (drop (place + 1) pattern) text))
    → (more : List ℕ) → FitsFrom p new more ↔ (FitsFrom p old more ⊎ Fits (drop place p) (byte ∷ more))
one_taken p place byte old new e within here none takes_it adds more =
    let same = took p place byte e within here none takes_it more in (
      λ fits. elim ((adds p more).0 fits) [ inl before ↦ inl before | inr next ↦ inr (same.1 next) ],
      λ either. elim either [ inl before ↦ (adds p more).1 (inl before) | inr it ↦ (adds p more).1 (inr (same.0 it)) ],
    )

-- or nothing is added
pub none_taken : (p : List Element) (place byte : ℕ) (places : List ℕ) → ((more : List ℕ) → Fits (drop place p) (byte ∷ more) → ⊥)
    → (more : List ℕ) → FitsFrom p places more ↔ (FitsFrom p places more ⊎ Fits (drop place p) (byte ∷ more))
none_taken p place byte places none more = (λ fits. inl fits, λ either. elim either [ inl before ↦ before | inr it ↦ absurd (none more it) ])

-- the last place is there already
pub last_already : (places seen : List ℕ) (last place : ℕ) → seen ≡ places → Some last ≡ slice_get seen (length seen - 1) → last ≡ place
    → (p : List Element) (text : List ℕ) → FitsFrom p places text ↔ (FitsFrom p places text ⊎ Fits (drop place p) text)
last_already places seen last place same ends is p text =
    let within = slice_get_within seen (length seen - 1) last (sym ends) in
    let at_last : get_or seen (length seen - 1) last ≡ place = get_or_from_slice_get seen (length seen - 1) last last (sym ends) ∙ is in
    let all : take (length seen - 1 + 1) seen ≡ seen = take_all (length seen - 1 + 1) seen (omega (arith, within)) in
    let apart : seen ≡ take (length seen - 1) seen ++ place ∷ [] = sym all ∙ take_more seen (length seen - 1) last within ∙ ap (λ (x : ℕ). take (length seen - 1) seen ++ x ∷ []) at_last in
    there_already p places (take (length seen - 1) seen) place text (sym same ∙ apart)

pub length-from_side : {Item : Type 0} (at : Side) (items : List Item) → length (from_side at items) ≡ length items
length-from_side side.Prefix items = refl
length-from_side side.Suffix items = length-reverse items

-- what is enough, and what isn't
pub enough : (ends longest : Bool) → (ends && not longest) ≡ true → (ends ≡ true) × (longest ≡ false)
enough true true e = absurd cc
enough true false e = (refl, refl)
enough false longest e = absurd cc

pub not_enough : (ends longest : Bool) → (ends && not longest) ≡ false → longest ≡ false → ends ≡ false
not_enough true true e few = absurd cc
not_enough true false e few = absurd cc
not_enough false longest e few = refl

pub below_end : (count end : ℕ) → count ≤ end → (count ≡ end → ⊥) → count < end
below_end count end within differs =
    elim (cases_lt count end) [
      | inl below ↦ below
      | inr above ↦ absurd (differs (omega (arith, within, above)))
    ]

-- the number that was found, and its place, are within the text
pub best_within : (Holds : ℕ → Type 0) (end : ℕ) (longest : Bool) (found : Option ℕ) (count : ℕ) → found ≡ Some count → MatchOption found (IsNowhere Holds end) (IsBestCount longest Holds end) → count ≤ end
best_within Holds end longest None count same best = absurd cc
best_within Holds end false (Some best_one) count same best = let this : best_one ≡ count = cc in subst (λ (n : ℕ). n ≤ end) this best.within
best_within Holds end true (Some best_one) count same best = let this : best_one ≡ count = cc in subst (λ (n : ℕ). n ≤ end) this best.within

pub place_within : (at : Side) (count end : ℕ) → count ≤ end → place_of at count end ≤ end
place_within side.Prefix count end within = within
place_within side.Suffix count end within = omega arith
