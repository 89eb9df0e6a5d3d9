-- The tables of tr, and the bytes of the second string one after another.
use Rattle.std.specs.Prelude.{ℕ, List, [], ◌∷◌, Bool, false, get_or}

-- the byte is marked
abbrev pub marked : List Bool → ℕ → Bool
marked marks byte = get_or marks byte false

-- the byte that a byte becomes
abbrev pub image_at : List ℕ → ℕ → ℕ
image_at images byte = get_or images byte byte

-- the first of these bytes, or where there is none the one before
abbrev pub last_of : ℕ → List ℕ → ℕ
last_of last [] = last
last_of last (byte ∷ others) = byte
