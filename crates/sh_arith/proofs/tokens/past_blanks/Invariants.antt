use Rattle.std.proofs.Common.{◌≡◌, ◌≤◌, length}
use Rattle.sh_arith.specs.Tokens.{past_blanks}
use Rattle.sh_arith.proofs.tokens.past_blanks.Given as goal

abbrev pub invariant-loop-byte : goal.invariant-loop-byte
invariant-loop-byte l = record {
  past : past_blanks l.rest ≡ past_blanks l.text;
  shorter : length l.rest ≤ length l.text;
}

abbrev pub decreases-loop-byte : goal.decreases-loop-byte
decreases-loop-byte l = length l.rest
