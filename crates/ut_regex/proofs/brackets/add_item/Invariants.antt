use Rattle.std.proofs.Common.{◌≡◌, ℕ, ◌<◌, ◌||◌, ◌&&◌, nat_lt}
use Rattle.ps_lines.specs.ByteSet.{has_byte}
use Rattle.ut_regex.specs.Brackets.{holds}
use Rattle.ut_regex.proofs.brackets.add_item.Given as goal

abbrev pub invariant-loop-code : goal.invariant-loop-code
invariant-loop-code l =
    (byte : ℕ) → byte < 256 → has_byte l.set byte ≡ ((nat_lt byte l.code && holds l.item byte) || has_byte l.initial.set byte)
