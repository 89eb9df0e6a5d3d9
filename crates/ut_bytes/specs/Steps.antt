-- What tr does to a text, one step after another (XCU tr). The code goes over whole pieces, and looks each byte up in a table.
use Rattle.std.specs.Prelude.{ℕ, List, [], ◌∷◌, Bool, false, not, ◌&&◌, ◌==◌, Option, None, Some, map, if◌then◌else◌}
use Rattle.std.specs.List.{filter}

-- deletion: the bytes that aren't in the set
abbrev pub deleted : (ℕ → Bool) → List ℕ → List ℕ
deleted is_deleted text = filter (λ byte. not (is_deleted byte)) text

-- translation: each byte's image
abbrev pub translated : (ℕ → ℕ) → List ℕ → List ℕ
translated image text = map image text

-- the byte is in the set and is the byte before it
abbrev pub is_repeat : (ℕ → Bool) → Option ℕ → ℕ → Bool
is_repeat is_squeezed None byte = false
is_repeat is_squeezed (Some before) byte = is_squeezed byte && byte == before

-- squeezing, behind a byte or at the beginning: a byte is kept exactly where it isn't in the set or differs from the byte before it
abbrev pub squeezed_behind : Option ℕ → (ℕ → Bool) → List ℕ → List ℕ
squeezed_behind before is_squeezed [] = []
squeezed_behind before is_squeezed (byte ∷ rest) =
    if is_repeat is_squeezed before byte then squeezed_behind (Some byte) is_squeezed rest
    else byte ∷ squeezed_behind (Some byte) is_squeezed rest
