use Rattle.std.proofs.Common.{◌≡◌, ℕ, get_or, length}
use Rattle.ut_bytes.proofs.tables.same.Given as goal

abbrev pub invariant-loop-byte : goal.invariant-loop-byte
invariant-loop-byte l = ((byte : ℕ) → get_or l.images.items byte byte ≡ byte) × (length l.images.items ≡ l.byte)
