use Rattle.std.proofs.Common.{◌≡◌, length}
use Rattle.sh_parse.specs.Kinds.{are_name_bytes}
use Rattle.sh_parse.proofs.kinds.are_name_bytes.Given as goal

abbrev pub invariant-loop-byte : goal.invariant-loop-byte
invariant-loop-byte l = are_name_bytes l.fn.bytes ≡ are_name_bytes l.rest

abbrev pub decreases-loop-byte : goal.decreases-loop-byte
decreases-loop-byte l = length l.rest
