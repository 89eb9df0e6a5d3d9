use Rattle.std.proofs.Common.{◌≡◌, length}
use Rattle.sh_parse.specs.Kinds.{goes_to_value}
use Rattle.sh_parse.proofs.kinds.goes_to_value.Given as goal

abbrev pub invariant-loop-byte : goal.invariant-loop-byte
invariant-loop-byte l = goes_to_value l.fn.bytes ≡ goes_to_value l.rest

abbrev pub decreases-loop-byte : goal.decreases-loop-byte
decreases-loop-byte l = length l.rest
