use Rattle.std.proofs.Common.{◌≡◌, ◌≤◌, length}
use Rattle.sh_arith.specs.Tokens.{past_word}
use Rattle.sh_arith.proofs.tokens.past_word.Given as goal

abbrev pub invariant-loop-byte : goal.invariant-loop-byte
invariant-loop-byte l = record {
  past : past_word l.rest ≡ past_word l.text;
  shorter : length l.rest ≤ length l.text;
}

abbrev pub decreases-loop-byte : goal.decreases-loop-byte
decreases-loop-byte l = length l.rest
