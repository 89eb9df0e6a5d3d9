-- Fields behind the line's end.
use Rattle.std.proofs.Common.{◌≡◌, ℕ, zero, suc, ◌==◌, length, true, List, [], ◌∷◌, Option, Some, None, refl, ap, sym, ◌∙◌, arith}
use Rattle.std.proofs.lemmas.Bool.{eqb-true}
use Rattle.ut_fields.specs.Fields.{behind_fields}

behind_fields-end : (separator : Option ℕ) (count : ℕ) → behind_fields separator count [] ≡ []
behind_fields-end separator zero = refl
behind_fields-end None (suc count) = behind_fields-end None count
behind_fields-end (Some separator) (suc count) = behind_fields-end (Some separator) count

empty-is : (text : List ℕ) → true ≡ (length text == 0) → text ≡ []
empty-is [] none = refl
empty-is (byte ∷ rest) none = let size = eqb-true (length (byte ∷ rest)) 0 (sym none) in absurd (omega (arith, size))

-- behind the last field there is nothing
pub past_the_end : (separator : Option ℕ) (count : ℕ) (text whole : List ℕ) → true ≡ (length text == 0) → behind_fields separator count text ≡ whole → text ≡ whole
past_the_end separator count text whole none is =
    let empty : text ≡ [] = empty-is text none in
    empty ∙ sym (behind_fields-end separator count) ∙ ap (behind_fields separator count) (sym empty) ∙ is
