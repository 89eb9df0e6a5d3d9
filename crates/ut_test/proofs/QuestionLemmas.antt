-- Arguments by their number.
use Rattle.std.proofs.Common.{◌≡◌, ◌≤◌, ◌<◌, ℕ, List, [], ◌∷◌, length, get_or, arith}
use Rattle.std.specs.Global.{Vec}
use Rattle.ps_lines.specs.Texts.{texts_of}

-- the texts of four arguments
pub four_texts : (args : List (Vec ℕ)) (first second third fourth : Vec ℕ) (one two three four : List ℕ)
    → 4 ≤ length args → length args < 5
    → first ≡ get_or args 0 first → second ≡ get_or args 1 second → third ≡ get_or args 2 third → fourth ≡ get_or args 3 fourth
    → one ≡ first.items → two ≡ second.items → three ≡ third.items → four ≡ fourth.items
    → texts_of args ≡ one ∷ two ∷ three ∷ four ∷ []
four_texts [] first second third fourth one two three four least most a b c d e f g h = absurd (omega arith)
four_texts (w ∷ []) first second third fourth one two three four least most a b c d e f g h = absurd (omega arith)
four_texts (w ∷ x ∷ []) first second third fourth one two three four least most a b c d e f g h = absurd (omega arith)
four_texts (w ∷ x ∷ y ∷ []) first second third fourth one two three four least most a b c d e f g h = absurd (omega arith)
four_texts (w ∷ x ∷ y ∷ z ∷ []) first second third fourth one two three four least most a b c d e f g h = cc
four_texts (w ∷ x ∷ y ∷ z ∷ v ∷ others) first second third fourth one two three four least most a b c d e f g h = absurd (omega arith)
