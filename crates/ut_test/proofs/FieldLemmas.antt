-- Fields cut off one after another.
use Rattle.std.proofs.Common.{◌≡◌, ◌<◌, ◌-◌, ◌||◌, ℕ, zero, suc, Bool, true, false, List, [], ◌∷◌, ◌++◌, length, length-append, take, reverse, ap, sym, ◌∙◌, refl, arith}
use Rattle.std.proofs.lemmas.List.{take_at, reverse-append, reverse-reverse}
use Rattle.ut_test.specs.Fields.{before_white, field_of, fields_from, from_end, is_white, next_field, past_white}

field_goes_on : (separates : ℕ → Bool) (ends : Bool) (byte : ℕ) (rest : List ℕ) → separates byte ≡ ends → field_of separates rest ++ from_end separates rest ≡ rest
    → field_of separates (byte ∷ rest) ++ from_end separates (byte ∷ rest) ≡ byte ∷ rest
field_goes_on separates true byte rest is whole = rw is refl
field_goes_on separates false byte rest is whole = rw is (ap (λ others. byte ∷ others) whole)

-- a text is its first field, and what stands from the field's end on
pub field_and_rest : (separates : ℕ → Bool) (text : List ℕ) → field_of separates text ++ from_end separates text ≡ text
field_and_rest separates [] = refl
field_and_rest separates (byte ∷ rest) = field_goes_on separates (separates byte) byte rest refl (field_and_rest separates rest)

-- so the field is what stands before the rest
pub field_taken : (separates : ℕ → Bool) (text rest : List ℕ) → rest ≡ from_end separates text → take (length text - length rest) text ≡ field_of separates text
field_taken separates text rest same =
    let whole = field_and_rest separates text in
    let long : length (field_of separates text) ≡ length text - length rest =
    omega (arith, length-append (field_of separates text) (from_end separates text), ap length whole, ap length same) in
    ap (take (length text - length rest)) (sym whole) ∙ take_at (field_of separates text) (from_end separates text) (length text - length rest) long

-- one field more
pub fields_from-more : (separates : ℕ → Bool) (text : List ℕ) (more : ℕ) → 0 < more
    → fields_from separates text more ≡ field_of separates text ∷ fields_from separates (next_field separates text) (more - 1)
fields_from-more separates text zero some = absurd (omega arith)
fields_from-more separates text (suc more) some = let less : suc more - 1 ≡ more = omega arith in rw less refl

-- the white space at a text's end, byte by byte
pub before_white-dropped : (separates : ℕ → Bool) (front : List ℕ) (byte : ℕ) → is_white separates byte ≡ true → before_white separates (front ++ byte ∷ []) ≡ before_white separates front
before_white-dropped separates front byte white = ap (λ back. reverse (past_white separates back)) (reverse-append front (byte ∷ [])) ∙ rw white refl

pub before_white-kept : (separates : ℕ → Bool) (front : List ℕ) (byte : ℕ) → is_white separates byte ≡ false → before_white separates (front ++ byte ∷ []) ≡ front ++ byte ∷ []
before_white-kept separates front byte other =
    ap (λ back. reverse (past_white separates back)) (reverse-append front (byte ∷ []))
    ∙ rw other (ap reverse (sym (reverse-append front (byte ∷ []))) ∙ reverse-reverse (front ++ byte ∷ []))

pub ruleset white_steps = (before_white-dropped, before_white-kept)

-- a byte that is put into a set
pub put_before : (one_is had others : Bool) → ((one_is || had) || others) ≡ (had || (one_is || others))
put_before true true others = refl
put_before true false others = refl
put_before false true others = refl
put_before false false others = refl

pub nothing_else : (had : Bool) → (had || false) ≡ had
nothing_else true = refl
nothing_else false = refl
