-- Lists of byte strings, and fronts of texts.
use Rattle.std.proofs.Common.{◌≡◌, ℕ, ◌≤◌, List, [], ◌∷◌, ◌++◌, length, take, drop, refl, ap, sym, ◌∙◌, append_assoc, append-nil, length-append, arith}
use Rattle.std.proofs.Math.Seq.{take-append_seam}
use Rattle.std.proofs.lemmas.List.{take-append-drop}
use Rattle.std.specs.Global.{Vec}
use Rattle.std.specs.List.{AllZip, each_same}
use Rattle.std.specs.Vec.{vec_len}
use Rattle.ps_lines.specs.Texts.{texts_of, BeginsWith}

-- clones of byte strings have the same bytes
pub texts_of-clones : (texts clones : List (Vec ℕ)) → AllZip (λ text clone. AllZip (λ x y. y ≡ x) text.items clone.items × (vec_len clone ≡ vec_len text)) texts clones → texts_of clones ≡ texts_of texts
texts_of-clones [] [] same = refl
texts_of-clones [] (clone ∷ clones) same = absurd same
texts_of-clones (text ∷ texts) [] same = absurd same
texts_of-clones (text ∷ texts) (clone ∷ clones) same =
    let first = each_same text.items clone.items same.0.0 in
    let others = texts_of-clones texts clones same.1 in
    cc

-- fronts of texts
pub begins-append : (front rest : List ℕ) → BeginsWith (front ++ rest) front
begins-append front rest = take-append_seam front rest

pub begins-self : (text : List ℕ) → BeginsWith text text
begins-self text = ap (λ whole. take (length text) whole) (sym (append-nil text)) ∙ take-append_seam text []

pub begins-whole : (text front : List ℕ) → BeginsWith text front → text ≡ front ++ drop (length front) text
begins-whole text front begins = sym (take-append-drop (length front) text) ∙ ap (λ begun. begun ++ drop (length front) text) begins

pub begins-more : (text front more : List ℕ) → BeginsWith text front → BeginsWith (text ++ more) front
begins-more text front more begins =
    let whole : text ++ more ≡ front ++ (drop (length front) text ++ more) =
    ap (λ text. text ++ more) (begins-whole text front begins) ∙ append_assoc front (drop (length front) text) more in
    rw whole (begins-append front (drop (length front) text ++ more))

pub begins-trans : (text half front : List ℕ) → BeginsWith text half → BeginsWith half front → BeginsWith text front
begins-trans text half front whole begins = rw (begins-whole text half whole) (begins-more half front (drop (length half) text) begins)

pub begins-length : (text front : List ℕ) → BeginsWith text front → length front ≤ length text
begins-length text front begins = let size = ap length (begins-whole text front begins) ∙ length-append front (drop (length front) text) in omega (arith, size)
