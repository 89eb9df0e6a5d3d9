-- The bytes so far, and those of the rest that decide.
use Rattle.std.proofs.Common.{◌≡◌, ◌++◌, length}
use Rattle.sh_parse.specs.Kinds.{spelled}
use Rattle.sh_parse.specs.Inner.Kinds.{deciding}
use Rattle.sh_parse.proofs.kinds.deciding.Given as goal

abbrev pub invariant-loop-byte : goal.invariant-loop-byte
invariant-loop-byte l = deciding (spelled l.fn.word) ≡ l.bytes.items ++ deciding (spelled l.rest)

abbrev pub decreases-loop-byte : goal.decreases-loop-byte
decreases-loop-byte l = length l.rest
