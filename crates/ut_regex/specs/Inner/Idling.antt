-- The states in which a table waits for the first byte of what is sought, or for the end of a line. The code passes over all other bytes
-- in one search.
use Rattle.std.specs.Prelude.{ℕ, ◌≡◌, ◌+◌, ◌*◌, ◌<◌, ◌==◌, ◌&&◌, not, Bool, true, false, List, slice_index_or, if◌then◌else◌}
use Rattle.ps_lines.specs.declared.newlines.TheConstants.{NEWLINE}
use Rattle.ps_lines.specs.declared.ByteSet.{ByteSet}
use Rattle.ps_lines.specs.ByteSet.{has_byte}
use Rattle.ut_regex.specs.declared.table.TheConstants.{FOUND}

-- behind a byte a state that waits goes on waiting, and behind a newline the first one begins the next line
abbrev pub idle_behind : ℕ → ℕ → ℕ
idle_behind idle byte = if byte == NEWLINE then 0 else idle

-- a byte of a text leads from the first state, and from the one that waits, to one of the two
abbrev pub stays : List ℕ → ℕ → ℕ → Bool
stays entries idle byte =
    slice_index_or entries (256 * 0 + byte) FOUND == idle_behind idle byte && slice_index_or entries (256 * idle + byte) FOUND == idle_behind idle byte

-- the bytes at which something may begin are those that lead on
pub record Idles (entries : List ℕ) (idle : ℕ) (starts : ByteSet) : Type 0 where
  pub known : idle < FOUND
  pub exact : (byte : ℕ) → byte < 256 → has_byte starts byte ≡ not (stays entries idle byte)

-- a state that no byte leaves, and in which no line has the expression
pub record IsStuck (next : List ℕ) (ends : List Bool) (state : ℕ) : Type 0 where
  pub known : state < FOUND
  pub stays : (byte : ℕ) → byte < 256 → slice_index_or next (256 * state + byte) FOUND ≡ state
  pub fails : slice_index_or ends state true ≡ false

-- a state that nothing but a newline leaves, behind which the next line begins
pub record WaitsForLine (entries : List ℕ) (state : ℕ) : Type 0 where
  pub known : state < FOUND
  pub behind : (byte : ℕ) → byte < 256 → slice_index_or entries (256 * state + byte) FOUND ≡ idle_behind state byte
