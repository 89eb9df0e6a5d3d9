-- The bytes so far, and those of the rest.
use Rattle.std.proofs.Common.{◌≡◌, ◌++◌, length}
use Rattle.sh_parse.specs.Kinds.{spelled}
use Rattle.sh_parse.proofs.kinds.spelled.Given as goal

abbrev pub invariant-loop-byte : goal.invariant-loop-byte
invariant-loop-byte l = spelled l.fn.word ≡ l.bytes.items ++ spelled l.rest

abbrev pub decreases-loop-byte : goal.decreases-loop-byte
decreases-loop-byte l = length l.rest
