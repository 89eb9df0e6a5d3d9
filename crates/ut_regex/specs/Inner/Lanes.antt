-- Tests of 16 bytes at a time. A byte passes where the entries of its halves have a bit in common.
use Rattle.std.specs.Prelude.{ℕ, ◌≡◌, ◌+◌, ◌/◌, ◌%◌, ◌<◌, Bool, true, List, length, slice_index, bit_and, nat_lt, if◌then◌else◌}
use Rattle.ut_regex.specs.declared.lanes.TheConstants.{UPPER}
use Rattle.ut_regex.specs.declared.tree.Leaf.{Leaf}
use Rattle.ut_regex.specs.Spans.{fits}

-- a vector has 16 lanes with these values
pub record HasLanes (lanes : List ℕ) (value : ℕ → ℕ) : Type 0 where
  pub long : length lanes ≡ 16
  pub each : (lane : ℕ) → lane < 16 → slice_index lanes lane ≡ value lane

-- the bits that the entries of a byte's halves have in common
abbrev pub shared : List ℕ → ℕ → ℕ
shared lower byte = bit_and (slice_index lower (byte % 16)) (slice_index UPPER (byte / 16))

-- each byte that fits the leaf passes
abbrev pub Covers : List ℕ → Bool → Leaf → Type 0
Covers lower fold one = (byte : ℕ) → byte < 256 → fits fold one byte ≡ true → 0 < shared lower byte

-- the lesser of two numbers
abbrev pub lesser : ℕ → ℕ → ℕ
lesser first second = if nat_lt first second then first else second

-- the least of what four tests tell of the bytes from a place on
abbrev pub least : List ℕ → List ℕ → List ℕ → List ℕ → List ℕ → ℕ → ℕ
least first second third fourth text place =
    lesser (lesser (shared first (slice_index text place)) (shared second (slice_index text (place + 1))))
    (lesser (shared third (slice_index text (place + 2))) (shared fourth (slice_index text (place + 3))))
