-- Sets of bytes. The code keeps one bit for each byte, in four words of 64.
use Rattle.std.specs.Prelude.{ℕ, Bool, ◌==◌}
use Rattle.ps_lines.specs.Bits.{bit_of}
use Rattle.ps_lines.specs.declared.byte_set.ByteSet.{ByteSet}

-- the set holds the byte; it holds no number from 256 on
unfoldable pub has_byte : ByteSet → ℕ → Bool
has_byte set byte = bit_of set.words byte == 1
