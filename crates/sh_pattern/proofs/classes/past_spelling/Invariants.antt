use Rattle.std.proofs.Common.{◌≡◌, ◌+◌, length, drop}
use Rattle.sh_pattern.specs.Marks.{past_spelling}
use Rattle.sh_pattern.proofs.classes.past_spelling.Given as goal

abbrev pub invariant-loop-byte : goal.invariant-loop-byte
invariant-loop-byte l = record {
  past : past_spelling (drop l.byte-index l.bytes) l.rest ≡ past_spelling l.bytes l.text;
  shorter : length l.rest + l.byte-index ≡ length l.text;
}
