-- Words as rows of bits.
use Rattle.std.specs.Prelude.{ℕ, List, ◌/◌, ◌%◌, slice_index}
use Rattle.std.specs.Int.{bit_at}

-- the bit of a row of words that stands for a byte
abbrev pub bit_of : List ℕ → ℕ → ℕ
bit_of words byte = bit_at (slice_index words (byte / 64)) (byte % 64)
