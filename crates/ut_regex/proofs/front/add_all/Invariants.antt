use Rattle.std.proofs.Common.{◌≡◌, ◌<◌, ℕ, true}
use Rattle.ps_lines.specs.ByteSet.{has_byte}
use Rattle.ut_regex.proofs.front.add_all.Given as goal

abbrev pub invariant-loop-code : goal.invariant-loop-code
invariant-loop-code l = record {
  added : (byte : ℕ) → byte < l.code → has_byte l.others byte ≡ true → has_byte l.set byte ≡ true;
  keeps : (byte : ℕ) → has_byte l.initial.set byte ≡ true → has_byte l.set byte ≡ true;
}
