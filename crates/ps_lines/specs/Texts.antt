-- Texts and lists of byte strings, as contracts see them.
use Rattle.std.specs.Prelude.{◌≡◌, ℕ, List, length, map, take}
use Rattle.std.specs.Global.{Vec}

-- the bytes of each
abbrev pub texts_of : List (Vec ℕ) → List (List ℕ)
texts_of texts = map (λ text. text.items) texts

-- the text begins with this front
abbrev pub BeginsWith : List ℕ → List ℕ → Type 0
BeginsWith text front = take (length front) text ≡ front
