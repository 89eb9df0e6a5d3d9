-- Which lines have an expression (XBD 9.2). The code carries a set of places along the line; the definition tries all.
use Rattle.std.specs.Prelude.{ℕ, zero, suc, ◌≡◌, ◌+◌, ◌-◌, ◌<◌, ◌≤◌, ◌⊎◌, Bool, true, false, ◌==◌, ◌&&◌, ◌||◌, not, nat_le, nat_lt, List, length, slice_index, IfSome, if◌then◌else◌}
use Rattle.ps_lines.specs.ByteSet.{has_byte}
use Rattle.ps_lines.specs.declared.ByteSet.{ByteSet}
use Rattle.ut_regex.specs.declared.tree.Leaf.{Leaf}
use Rattle.ut_regex.specs.declared.tree.Leaf.TheVariants.{Byte, Any, Among, NotAmong}
use Rattle.ut_regex.specs.declared.tree.Bounds.{Bounds}
use Rattle.ut_regex.specs.Tree.{Tree, leaf, line_begin, line_end, empty, group, sequence, alternative, repetition}

-- the number is one of those from `low` up to `high`
unfoldable pub is_from : ℕ → ℕ → ℕ → Bool
is_from low high byte = nat_le low byte && nat_le byte high

-- a letter in the other case, and any other byte as it is
unfoldable pub other_case : ℕ → ℕ
other_case byte = if is_from 65 90 byte then byte + 32 else if is_from 97 122 byte then byte - 32 else byte

-- the set holds the byte; it holds no number that is no byte
abbrev pub in_set : ByteSet → ℕ → Bool
in_set set byte = nat_lt byte 256 && has_byte set byte

-- a byte of the line is what is asked for. With `fold` both cases of a letter are what one of them is, and a list of
-- bytes gains the other cases before its complement is taken
abbrev pub fits : Bool → Leaf → ℕ → Bool
fits fold (Byte wanted) byte = byte == wanted || (fold && other_case byte == wanted)
fits fold Any byte = true
fits fold (Among set) byte = in_set set byte || (fold && in_set set (other_case byte))
fits fold (NotAmong set) byte = not (in_set set byte || (fold && in_set set (other_case byte)))

-- what spans from one place to another, so many times in a row
abbrev pub Copies : (ℕ → ℕ → Type 0) → ℕ → ℕ → ℕ → Type 0
Copies One zero from to = to ≡ from
Copies One (suc count) from to = (middle : ℕ) × Copies One count from middle × One middle to

-- the bounds of a repetition allow this number
abbrev pub Allows : Bounds → ℕ → Type 0
Allows bounds count = (bounds.low ≤ count) × IfSome bounds.high (λ most. count ≤ most)

-- the expression spans the bytes of the line between two places
abbrev pub Spans : Bool → List ℕ → Tree → ℕ → ℕ → Type 0
Spans fold line (leaf one) from to = (from < length line) × (to ≡ from + 1) × (fits fold one (slice_index line from) ≡ true)
Spans fold line line_begin from to = (from ≡ 0) × (to ≡ from)
Spans fold line line_end from to = (from ≡ length line) × (to ≡ from)
Spans fold line empty from to = to ≡ from
Spans fold line (group part) from to = Spans fold line part from to
Spans fold line (sequence first second) from to =
    (middle : ℕ) × Spans fold line first from middle × Spans fold line second middle to
Spans fold line (alternative first second) from to = Spans fold line first from to ⊎ Spans fold line second from to
Spans fold line (repetition bounds part) from to =
    (count : ℕ) × Allows bounds count × Copies (Spans fold line part) count from to

-- the line has the expression somewhere, or with `whole` is it from its beginning to its end
abbrev pub Has : Bool → Bool → List ℕ → Tree → Type 0
Has fold true line re = Spans fold line re 0 (length line)
Has fold false line re = (from : ℕ) × (to : ℕ) × (to ≤ length line) × Spans fold line re from to
