-- What a walk along a pattern keeps, and why it is enough to go back to the last star.
use Rattle.std.proofs.Common.{◌≡◌, ◌≢◌, ◌↔◌, ℕ, nat_eq, map, eq-eqb, eqb-true, ◌≤◌, Bool, true, false, List, [], ◌∷◌, ◌++◌, length, refl, sym, ap, ◌∙◌, subst, arith}
use Rattle.std.proofs.lemmas.List.{append_assoc}
use Rattle.std.proofs.lemmas.Bool.Decides.{nat_tests}
use Rattle.sh_pattern.specs.declared.elements.Element.{Element}
use Rattle.sh_pattern.specs.declared.elements.Element.TheVariants as element
use Rattle.sh_pattern.specs.Fits.{takes, Fits, EndsIn}
use Rattle.sh_pattern.specs.Walks.{Passed, not_yet, one_byte}

-- an element that takes a byte fits it, followed by what the rest fits
pub fits_first : (e : Element) (b : ℕ) (q : List Element) (r : List ℕ) → takes e b ≡ true → Fits q r → Fits (e ∷ q) (b ∷ r)
fits_first (element.Byte x) b q r h f = (h, f)
fits_first element.AnyByte b q r h f = (h, f)
fits_first element.AnyString b q r h f = cc
fits_first (element.OneOf is) b q r h f = (h, f)
fits_first (element.NoneOf is) b q r h f = (h, f)

-- what follows a byte that the first element takes fits the rest
pub fits_rest : (e : Element) (b : ℕ) (q : List Element) (r : List ℕ) → takes e b ≡ true → Fits (e ∷ q) (b ∷ r) → Fits q r
fits_rest (element.Byte x) b q r h f = f.1
fits_rest element.AnyByte b q r h f = f.1
fits_rest element.AnyString b q r h f = cc
fits_rest (element.OneOf is) b q r h f = f.1
fits_rest (element.NoneOf is) b q r h f = f.1

-- an element other than a star takes the first byte of a text that fits
pub fits_takes : (e : Element) (b : ℕ) (q : List Element) (r : List ℕ) → e ≢ element.AnyString → Fits (e ∷ q) (b ∷ r) → takes e b ≡ true
fits_takes (element.Byte x) b q r h f = f.0
fits_takes element.AnyByte b q r h f = f.0
fits_takes element.AnyString b q r h f = absurd (h refl)
fits_takes (element.OneOf is) b q r h f = f.0
fits_takes (element.NoneOf is) b q r h f = f.0

-- an element other than a star fits no empty text
pub fits_no_end : (e : Element) (q : List Element) → e ≢ element.AnyString → Fits (e ∷ q) [] → ⊥
fits_no_end (element.Byte x) q h f = f
fits_no_end element.AnyByte q h f = f
fits_no_end element.AnyString q h f = h refl
fits_no_end (element.OneOf is) q h f = f
fits_no_end (element.NoneOf is) q h f = f

-- a star takes no byte by itself
takes_no_star : (e : Element) (b : ℕ) → takes e b ≡ true → e ≢ element.AnyString
takes_no_star e b h s = let k : takes element.AnyString b ≡ true = subst (λ x. takes x b ≡ true) s h in cc

-- a walk loses nothing
pub passed_fits : {p q : List Element} {t r : List ℕ} → Passed p t q r → Fits q r → Fits p t
passed_fits not_yet f = f
passed_fits (one_byte {rest = q} {left = r} {element = e} {byte = b} w h) f = passed_fits w (fits_first e b q r h f)

-- and brings nothing in
pub passed_back : {p q : List Element} {t r : List ℕ} → Passed p t q r → Fits p t → Fits q r
passed_back not_yet f = f
passed_back (one_byte {rest = q} {left = r} {element = e} {byte = b} w h) f = fits_rest e b q r h (passed_back w f)

pub passed_pattern : {p q : List Element} {t r : List ℕ} → Passed p t q r → length q ≤ length p
passed_pattern not_yet = omega arith
passed_pattern (one_byte w h) = omega (arith, passed_pattern w)

pub passed_text : {p q : List Element} {t r : List ℕ} → Passed p t q r → length r ≤ length t
passed_text not_yet = omega arith
passed_text (one_byte w h) = omega (arith, passed_text w)

-- an ending of what one element and a rest fit leaves an ending for the rest
ending_after : (e : Element) (b : ℕ) (q : List Element) (r passed left : List ℕ) → takes e b ≡ true → b ∷ r ≡ passed ++ left → Fits (e ∷ q) left → EndsIn (Fits q) r
ending_after e b q r [] left h same f = ([], r, refl, fits_rest e b q r h (subst (Fits (e ∷ q)) (sym same) f))
ending_after e b q r (x ∷ passed) [] h same f = absurd (fits_no_end e q (takes_no_star e b h) f)
ending_after e b q r (x ∷ passed) (y ∷ left) h same f =
    let first = fits_takes e y q left (takes_no_star e b h) f in
    let tail : r ≡ passed ++ (y ∷ left) = cc in
    (passed ++ (y ∷ []), left, tail ∙ sym (append_assoc passed (y ∷ []) left), fits_rest e y q left first f)

-- an ending that fits before a walk leaves one after it: the walk's elements take as many bytes wherever they stand
pub ending_passed : {p q : List Element} {t r : List ℕ} → Passed p t q r → EndsIn (Fits p) t → EndsIn (Fits q) r
ending_passed not_yet f = f
ending_passed (one_byte {rest = q} {left = r} {element = e} {byte = b} w h) f =
    let (passed, left, same, fits) = ending_passed w f in
    ending_after e b q r passed left h same fits

-- an ending of an ending is one
pub ending_twice : (q : List Element) (r : List ℕ) → EndsIn (EndsIn (Fits q)) r → EndsIn (Fits q) r
ending_twice q r (passed, left, same, (more, last, again, fits)) = (passed ++ more, last, same ∙ ap (λ l. passed ++ l) again ∙ sym (append_assoc passed more last), fits)

-- at a star: the place of the star before it no longer counts
pub ending_at_star : {p q : List Element} {t r : List ℕ} → Passed p t (element.AnyString ∷ q) r → EndsIn (Fits p) t → EndsIn (Fits q) r
ending_at_star {q = q} {r = r} w f = ending_twice q r (ending_passed w f)

pub ending_from_star : {p q : List Element} {t r : List ℕ} → Passed p t (element.AnyString ∷ q) r → EndsIn (Fits q) r → EndsIn (Fits p) t
ending_from_star {t = t} w f = ([], t, refl, passed_fits w f)

-- where the whole text doesn't fit, an ending that does is one of the text after its first byte
pub ending_later : (p : List Element) {b : ℕ} {r t : List ℕ} → t ≡ b ∷ r → (Fits p t → ⊥) → EndsIn (Fits p) t → EndsIn (Fits p) r
ending_later p cut amiss ([], left, same, fits) = absurd (amiss (subst (Fits p) (sym same) fits))
ending_later p cut amiss (x ∷ passed, left, same, fits) = (passed, left, cc, fits)

pub ending_more : (p : List Element) {b : ℕ} {r t : List ℕ} → t ≡ b ∷ r → EndsIn (Fits p) r → EndsIn (Fits p) t
ending_more p {b} cut (passed, left, same, fits) = (b ∷ passed, left, cut ∙ ap (λ l. b ∷ l) same, fits)

-- the steps of a walk, as its code meets them
pub walk_no_byte : {p q others : List Element} {t r : List ℕ} {e : Element} → Passed p t q r → q ≡ e ∷ others → e ≢ element.AnyString → length r ≡ 0 → Fits p t → ⊥
walk_no_byte {others = others} {r = []} {e = e} w same amiss none f = fits_no_end e others amiss (subst (λ q. Fits q []) same (passed_back w f))
walk_no_byte {r = x ∷ r} w same amiss none f = absurd (omega arith)

pub walk_refused : {p q others : List Element} {t r after : List ℕ} {e : Element} {b : ℕ} → Passed p t q r → q ≡ e ∷ others → r ≡ b ∷ after → e ≢ element.AnyString → takes e b ≡ false → Fits p t → ⊥
walk_refused {p} {q} {others} {t} {r} {after} {e} {b} w same cut amiss refused f =
    let fits = subst (λ x. Fits (e ∷ others) x) cut (subst (λ x. Fits x r) same (passed_back w f)) in
    let taken = fits_takes e b others after amiss fits in
    cc

pub walk_on : {p q others : List Element} {t r after : List ℕ} {e : Element} {b : ℕ} → Passed p t q r → q ≡ e ∷ others → r ≡ b ∷ after → takes e b ≡ true → Passed p t others after
walk_on {p} {q} {others} {t} {r} {after} {e} {b} w same cut taken = one_byte (subst (λ x. Passed p t (e ∷ others) x) cut (subst (λ x. Passed p t x r) same w)) taken

pub walk_end : {p q : List Element} {t r : List ℕ} → Passed p t q r → length q ≡ 0 → nat_eq (length r) 0 ≡ true → Fits p t
walk_end {q = []} {r = []} w none empty = passed_fits w refl
walk_end {q = e ∷ q} w none empty = absurd (omega arith)
walk_end {q = []} {r = x ∷ r} w none empty = absurd (grind (arith, nat_tests))

pub walk_left : {p q : List Element} {t r : List ℕ} → Passed p t q r → length q ≡ 0 → nat_eq (length r) 0 ≡ false → Fits p t → ⊥
walk_left {q = []} {r = []} w none left f = cc
walk_left {q = e ∷ q} w none left f = absurd (omega arith)
walk_left {q = []} {r = x ∷ r} w none left f = let e : x ∷ r ≡ [] = passed_back w f in cc

-- a pattern fits a text where, after the walk to its first star, an ending fits
pub at_star : {p q : List Element} {t r : List ℕ} {b : Bool} → Passed p t (element.AnyString ∷ q) r → (b ≡ true ↔ EndsIn (Fits q) r) → (b ≡ true ↔ Fits p t)
at_star walk ending = (λ h. passed_fits walk (ending.0 h), λ f. ending.1 (passed_back walk f))

-- ordinary bytes fit themselves
pub fits_itself : (bytes : List ℕ) → Fits (map element.Byte bytes) bytes
fits_itself [] = refl
fits_itself (b ∷ bytes) = (eq-eqb b b refl, fits_itself bytes)

pub fits_only_itself : (bytes text : List ℕ) → Fits (map element.Byte bytes) text → text ≡ bytes
fits_only_itself [] text f = f
fits_only_itself (b ∷ bytes) [] f = absurd f
fits_only_itself (b ∷ bytes) (x ∷ text) f = let head = eqb-true b x f.0 in let tail = fits_only_itself bytes text f.1 in cc
